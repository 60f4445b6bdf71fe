-- A number's last digit.
use Rattle.std.proofs.Common.{◌≡◌, ℕ, ◌<◌, ◌≤◌, ◌+◌, ◌/◌, ◌%◌, List, [], ◌∷◌, ◌++◌, sym, ap, ◌∙◌, arith, decimal}
use Rattle.std.proofs.lemmas.Fmt.{decimal_digit, decimal_step}
use mathlib.Core.List.{append_assoc}

pub one_digit : (n : ℕ) → n < 10 → decimal n ≡ (48 + n) ∷ []
one_digit n small = decimal_digit n small

pub more_digits : (n : ℕ) → 10 ≤ n → n < 10000 → decimal n ≡ decimal (n / 10) ++ ((48 + n % 10) ∷ [])
more_digits n least most = decimal_step n least (omega arith)

-- a number's digits but the last, and then the last
pub then_digit : (n : ℕ) (text front whole : List ℕ) → 10 ≤ n → n < 10000 → front ≡ text ++ decimal (n / 10)
    → whole ≡ front ++ ((48 + n % 10) ∷ []) → whole ≡ text ++ decimal n
then_digit n text front whole least most first second =
    second ∙ ap (λ x. x ++ ((48 + n % 10) ∷ [])) first ∙ append_assoc text (decimal (n / 10)) ((48 + n % 10) ∷ [])
    ∙ ap (λ x. text ++ x) (sym (more_digits n least most))
