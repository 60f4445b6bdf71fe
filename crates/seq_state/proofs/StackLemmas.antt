-- The cells of a stack.
use Rattle.kernel_invariant.specs.kernel_rules.proofs.{◌≡◌, ℕ, suc, ◌+◌, ◌-◌, ◌≤◌, List, [], ◌∷◌, ◌++◌, length, take, drop, replicate}
use Rattle.kernel_invariant.specs.kernel_rules.proofs.{reverse, refl, sym, ap, ◌∙◌, arith, set as slice_set, length-set, length-reverse}
use Rattle.seq_state.specs.{declared.stack.Stack.TheInside.Inside, Stacks.stacked, Stacks.IsStack}
use Rattle.{kernel_invariant.specs.kernel_rules.proofs.reverse-append, kernel_invariant.specs.kernel_rules.proofs.times}
use Rattle.{std.proofs.lemmas.List.drop-set, kernel_invariant.specs.spk_nums.specs.Listed.IsListed}
use Rattle.{kernel_invariant.specs.spk_nums.specs.Listed.length-listed}
use Rattle.{kernel_invariant.proofs.Sums.times_cons, kernel_invariant.proofs.Sums.times_append}

-- A blank in the last cell that holds an item leaves the cells after it blank.
pub removed : {A : Type 0} (blank : A) (room len at : ℕ) (cells : List A) → at + 1 ≡ len → IsListed blank room len cells
    → IsListed blank room (len - 1) (slice_set cells at blank)
removed {A} blank room len at cells is h =
    let before : len - 1 ≡ at = omega arith in
    let most : len ≤ room = h.most in
    let whole : length cells ≡ room = h.whole in
    let left : room - at ≡ suc (room - len) = omega arith in
    rw before record {
      most = omega arith;
      whole = length-set cells at blank ∙ whole;
      rest = drop-set cells at blank (omega arith) ∙ ap (λ k. blank ∷ drop k cells) is
          ∙ ap (λ (xs : List A). blank ∷ xs) h.rest ∙ sym (ap (λ k. replicate k blank) left);
    }

-- A stack has as many frames as its cells say.
pub depth_of : (s : List ℕ) (a : Inside) → stacked a ≡ s → IsStack a → length s ≡ a.len
depth_of s a is h = ap length (sym is) ∙ length-reverse (take a.len a.cells) ∙ length-listed 0 16 a.len a.cells h

-- A frame is as often in a list turned round.
pub times_reverse : (f : ℕ) (xs : List ℕ) → times f (reverse xs) ≡ times f xs
times_reverse f [] = refl
times_reverse f (x ∷ xs) =
    let a : reverse (x ∷ xs) ≡ reverse xs ++ x ∷ [] = reverse-append (x ∷ []) xs in
    let b : times f (reverse (x ∷ xs)) ≡ times f (reverse xs ++ x ∷ []) = ap (times f) a in
    let p = times_append f (reverse xs) (x ∷ []) in
    let q = times_cons f x [] in
    let r = times_cons f x xs in
    let ih = times_reverse f xs in
    let none : times f [] ≡ 0 = refl in
    omega (arith, b, p, q, r, ih, none)
