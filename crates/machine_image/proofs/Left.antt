-- What a function gives of the numbers that are left.
use Rattle.std.proofs.Common.{◌≡◌, ℕ, suc, ◌+◌, ◌-◌, ◌<◌, ap, ◌∙◌, arith, [], ◌∷◌, Option, Some, None, filter_map}
use Rattle.std.specs.List.{range_with_len, cons_option}

module _ {X : Type 0} (h : ℕ → Option X) where
  -- nothing is left at the end
  pub none_left : (b : ℕ) → filter_map h (range_with_len b (b - b)) ≡ []
  none_left b = let e : b - b ≡ 0 = omega arith in ap (λ n. filter_map h (range_with_len b n)) e

  -- a number that gives nothing is passed over
  pub passes : (a b : ℕ) → a < b → h a ≡ None
      → filter_map h (range_with_len a (b - a)) ≡ filter_map h (range_with_len (a + 1) (b - (a + 1)))
  passes a b l e =
      let n : b - a ≡ suc (b - (a + 1)) = omega arith in
      let first : filter_map h (range_with_len a (b - a)) ≡ filter_map h (a ∷ range_with_len (a + 1) (b - (a + 1))) =
      ap (λ n. filter_map h (range_with_len a n)) n in
      first ∙ ap (λ r. cons_option r (filter_map h (range_with_len (a + 1) (b - (a + 1))))) e

  -- what a number gives comes first
  pub gives : (a b : ℕ) (x : X) → a < b → h a ≡ Some x
      → filter_map h (range_with_len a (b - a)) ≡ x ∷ filter_map h (range_with_len (a + 1) (b - (a + 1)))
  gives a b x l e =
      let n : b - a ≡ suc (b - (a + 1)) = omega arith in
      let first : filter_map h (range_with_len a (b - a)) ≡ filter_map h (a ∷ range_with_len (a + 1) (b - (a + 1))) =
      ap (λ n. filter_map h (range_with_len a n)) n in
      first ∙ ap (λ r. cons_option r (filter_map h (range_with_len (a + 1) (b - (a + 1))))) e
