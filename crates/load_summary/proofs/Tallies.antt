-- Decisions of one number, counted one after another.
use Rattle.std.proofs.Common.{◌≡◌, ℕ, ◌+◌, ◌<◌, ◌≤◌, Bool, true, false, cond, eqb, List, [], ◌∷◌, ◌++◌, length, get_or, take, sym, ap}
use Rattle.std.proofs.Common.{subst, ◌∙◌, arith, length-append, eq-eqb, ne_eqb, append-nil}
use Rattle.spk_nums.specs.{declared.replies.Decision.Decision, Names.reply_code, Names.reply_word}
use Rattle.{std.proofs.lemmas.List.Elements.filter_more, load_summary.specs.Summaries.with_number}

-- so many decisions, the first with that word
abbrev pub Tally : List ℕ → ℕ → List Decision → Type 0
Tally name count [] = count ≡ 0
Tally name count (d ∷ ds) = (name ≡ reply_word d.reply) × (count ≡ 1 + length ds)

-- the first
pub tally_first : (name name' : List ℕ) (count : ℕ) (ds : List Decision) (d : Decision)
    → Tally name count ds → count ≡ 0 → name' ≡ reply_word d.reply → Tally name' (count + 1) (ds ++ d ∷ [])
tally_first name name' count [] d h none is = (is, omega arith)
tally_first name name' count (e ∷ ds) d h none is = let some : count ≡ 1 + length ds = h.1 in absurd (omega arith)

-- one more
pub tally_more : (name name' : List ℕ) (count : ℕ) (ds : List Decision) (d : Decision)
    → Tally name count ds → (count ≡ 0 → ⊥) → name' ≡ name → Tally name' (count + 1) (ds ++ d ∷ [])
tally_more name name' count [] d h some is = absurd (some h)
tally_more name name' count (e ∷ ds) d h some is = (is ∙ h.0, omega (arith, h.1, length-append ds (d ∷ [])))

-- the decision at a place has that number, or has not
module _ (n : ℕ) (xs : List Decision) (i : ℕ) (d : Decision) (here : i < length xs) (is : d ≡ get_or xs i d) where
  step : (b : Bool) → eqb (reply_code d.reply) n ≡ b → with_number n (take (i + 1) xs) ≡ with_number n (take i xs) ++ cond b (d ∷ []) []
  step b e =
      filter_more (λ (x : Decision). eqb (reply_code x.reply) n) xs i d here
      ∙ ap (λ (x : Decision). with_number n (take i xs) ++ cond (eqb (reply_code x.reply) n) (x ∷ []) []) (sym is)
      ∙ ap (λ t. with_number n (take i xs) ++ cond t (d ∷ []) []) e

  pub step_yes : reply_code d.reply ≡ n → with_number n (take (i + 1) xs) ≡ with_number n (take i xs) ++ d ∷ []
  step_yes e = step true (eq-eqb (reply_code d.reply) n e)

  pub step_no : (reply_code d.reply ≡ n → ⊥) → with_number n (take (i + 1) xs) ≡ with_number n (take i xs)
  step_no e = step false (ne_eqb (reply_code d.reply) n e) ∙ append-nil (with_number n (take i xs))

-- the tally of the decisions up to a place, with their number
pub record Tallied (n : ℕ) (xs : List Decision) (i : ℕ) (name : List ℕ) (count : ℕ) : Type 0 where
  pub tally : Tally name count (with_number n (take i xs))
  pub most : count ≤ i

module _ (n : ℕ) (xs : List Decision) (i : ℕ) (d : Decision) (here : i < length xs)
    (is : d ≡ get_or xs i d) (name : List ℕ) (count : ℕ) (so_far : Tallied n xs i name count) where
  pub tallied_first : (name' : List ℕ) (count' : ℕ) → reply_code d.reply ≡ n → count ≡ 0
      → name' ≡ reply_word d.reply → count' ≡ count + 1 → Tallied n xs (i + 1) name' count'
  tallied_first name' count' e none same more = record {
    tally = subst (λ k. Tally name' k (with_number n (take (i + 1) xs))) (sym more)
        (subst (Tally name' (count + 1)) (sym (step_yes n xs i d here is e)) (tally_first name name' count _ d so_far.tally none same));
    most = omega (arith, so_far.most);
  }

  pub tallied_more : (name' : List ℕ) (count' : ℕ) → reply_code d.reply ≡ n
      → (count ≡ 0 → ⊥) → name' ≡ name → count' ≡ count + 1 → Tallied n xs (i + 1) name' count'
  tallied_more name' count' e some same more = record {
    tally = subst (λ k. Tally name' k (with_number n (take (i + 1) xs))) (sym more)
        (subst (Tally name' (count + 1)) (sym (step_yes n xs i d here is e)) (tally_more name name' count _ d so_far.tally some same));
    most = omega (arith, so_far.most);
  }

  pub tallied_other : (name' : List ℕ) (count' : ℕ) → (reply_code d.reply ≡ n → ⊥)
      → name' ≡ name → count' ≡ count → Tallied n xs (i + 1) name' count'
  tallied_other name' count' e same kept = record {
    tally = subst (λ k. Tally name' k (with_number n (take (i + 1) xs))) (sym kept) (subst (λ w. Tally w count
        (with_number n (take (i + 1) xs))) (sym same) (subst (Tally name count) (sym (step_no n xs i d here is e)) so_far.tally));
    most = omega (arith, so_far.most);
  }
