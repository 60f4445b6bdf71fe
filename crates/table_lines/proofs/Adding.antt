-- Lists of named frames, one piece more at a time.
use Rattle.kernel_history.proofs.{◌≡◌, ℕ, ◌+◌, ◌++◌, List, ap, subst, arith, sum_below, times, sum_none, sum_more, times_append}
use Rattle.table_lines.specs.Counting.{Adds}

-- A piece is appended.
pub adds_piece : (old new piece : List ℕ) → new ≡ old ++ piece → Adds old new (λ f. times f piece)
adds_piece old new piece is = record {
  counts = λ f. let a = times_append f old piece in
      let e : times f new ≡ times f (old ++ piece) = ap (times f) is in omega arith;
}

-- A sum goes on by one more term.
pub adds_more : (begun mid new : List ℕ) (h : ℕ → ℕ → ℕ) (n : ℕ) → Adds begun mid (λ f. sum_below (h f) n) → Adds mid new (λ f. h f n)
    → Adds begun new (λ f. sum_below (h f) (n + 1))
adds_more begun mid new h n p q = record {
  counts = λ f. let a = p.counts f in let b = q.counts f in let c = sum_more (h f) n in
      omega arith;
}

pub adds_none : (xs : List ℕ) (h : ℕ → ℕ → ℕ) → Adds xs xs (λ f. sum_below (h f) 0)
adds_none xs h = record { counts = λ f. let a = sum_none (h f) in omega arith }

pub adds_whole : (begun new : List ℕ) (h : ℕ → ℕ → ℕ) (n m : ℕ) → n ≡ m → Adds begun new (λ f. sum_below (h f) n)
    → Adds begun new (λ f. sum_below (h f) m)
adds_whole begun new h n m is p = subst (λ k. Adds begun new (λ f. sum_below (h f) k)) is p

-- Two lists one after the other.
pub adds_both : (a b c : List ℕ) (h k : ℕ → ℕ) → Adds a b h → Adds b c k → Adds a c (λ f. h f + k f)
adds_both a b c h k p q = record { counts = λ f. let x = p.counts f in let y = q.counts f in omega arith }
