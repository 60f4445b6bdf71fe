-- Items of an order.
use Rattle.std.proofs.Common.{◌≡◌, ℕ, ◌-◌, ◌<◌, ◌≤◌, true, List, [], ◌∷◌, ◌++◌, length, take, Some, None, Ok, Err, refl, ap, ◌∙◌, arith}
use Rattle.std.proofs.Common.{slice_get, lt-ltb, le-ltb, take_at, length-append}
use Rattle.line_reader.specs.{is_digits, value_of, number_of}
use Rattle.line_reader.proofs.Digits.{digits_some, digits_none}
use Rattle.script_reader.specs.Orders.{how_of, suffixed, core_below}
use Rattle.{spk_nums.specs.declared.steps.How.How, line_reader.specs.declared.cause.Cause.TheVariants.S6}

slice_get_at : (front : List ℕ) (x : ℕ) → slice_get (front ++ x ∷ []) (length front) ≡ Some x
slice_get_at [] x = refl
slice_get_at (y ∷ ys) x = slice_get_at ys x

pub suffixed_is : (word digits : List ℕ) (last : ℕ) (how : How) → word ≡ digits ++ last ∷ []
    → how_of last ≡ Some how → is_digits digits ≡ true → Some (record { digits = digits; how = how }) ≡ suffixed word
suffixed_is word digits last how parts suffix good =
    let long : length word - 1 ≡ length digits = omega (arith, ap length parts, length-append digits (last ∷ [])) in
    let end : slice_get word (length word - 1) ≡ Some last =
    ap (slice_get word) long ∙ ap (λ (w : List ℕ). slice_get w (length digits)) parts ∙ slice_get_at digits last in
    let front : take (length word - 1) word ≡ digits =
    ap (λ n. take n word) long ∙ ap (take (length digits)) parts ∙ take_at digits (last ∷ []) (length digits) refl in
    rw (end, front, suffix, good) refl

pub below_some : (word : List ℕ) (n cores : ℕ) → is_digits word ≡ true
    → Some n ≡ number_of word → n < cores → Ok n ≡ core_below (value_of word) cores
below_some word n cores good is lt =
    let value = digits_some word n good is in
    rw (← value, lt-ltb n cores lt) refl

pub not_below : (word : List ℕ) (n cores : ℕ) → is_digits word ≡ true
    → Some n ≡ number_of word → cores ≤ n → Err S6 ≡ core_below (value_of word) cores
not_below word n cores good is le =
    let value = digits_some word n good is in
    rw (← value, le-ltb n cores le) refl

pub past_cores : (word : List ℕ) (cores : ℕ) → is_digits word ≡ true
    → None ≡ number_of word → cores ≤ 8 → Err S6 ≡ core_below (value_of word) cores
past_cores word cores good is few =
    let value = digits_none word good is in
    rw (le-ltb (value_of word) cores (omega arith)) refl
