-- A search from a number on, in the numbers below an end.
use Rattle.std.proofs.Common.{◌≡◌, ℕ, suc, ◌+◌, ◌-◌, ◌<◌, ◌≤◌, ◌||◌, Bool, true, false, ◌∙◌, ap, arith}
use Rattle.std.specs.List.{list_any, range_with_len}

any_from : (p : ℕ → Bool) (a n : ℕ) → a < n
    → list_any p (range_with_len a (n - a)) ≡ (p a || list_any p (range_with_len (a + 1) (n - (a + 1))))
any_from p a n below =
    let more : n - a ≡ suc (n - (a + 1)) = omega arith in
    ap (λ m. list_any p (range_with_len a m)) more

pub any_here : (p : ℕ → Bool) (a n : ℕ) → a < n → p a ≡ true → list_any p (range_with_len a (n - a)) ≡ true
any_here p a n below is = any_from p a n below ∙ ap (λ b. b || list_any p (range_with_len (a + 1) (n - (a + 1)))) is

pub any_later : (p : ℕ → Bool) (a n : ℕ) → a < n → p a ≡ false
    → list_any p (range_with_len a (n - a)) ≡ list_any p (range_with_len (a + 1) (n - (a + 1)))
any_later p a n below is = any_from p a n below ∙ ap (λ b. b || list_any p (range_with_len (a + 1) (n - (a + 1)))) is

pub any_nowhere : (p : ℕ → Bool) (a n : ℕ) → n ≤ a → list_any p (range_with_len a (n - a)) ≡ false
any_nowhere p a n past =
    let none : n - a ≡ 0 = omega arith in
    ap (λ m. list_any p (range_with_len a m)) none
