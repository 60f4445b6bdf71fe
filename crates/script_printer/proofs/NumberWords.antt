-- Numbers as words: what is printed of a number is read as that number.
use Rattle.std.proofs.Common.{◌≡◌, ℕ, ◌^◌, ◌<◌, ◌≤◌, true, leb, List, [], ◌∷◌, length, Some, Ok, refl, sym, ap, ◌∙◌, arith, rules, decimal}
use Rattle.std.proofs.Common.{slice_get, leb-true, le-leb, lt-ltb, ne_eqb}
use Rattle.script_reader.specs.line_reader.specs.{all_digits, is_digits, value_of, number_of, word_at, number_at, core_at}
use Rattle.std.proofs.{lemmas.Bool.and_from, lemmas.Fmt.digits_decimal, lemmas.Fmt.digits_value-decimal, lemmas.Fmt.decimal_nonempty}
use Rattle.std.proofs.{lemmas.Str.Parse.IsNumeralModel, lemmas.Str.Parse.numerals_by_fold}
use Rattle.script_reader.specs.line_reader.specs.Numerals.{is_digit, value_from}
use Rattle.script_reader.specs.call_reader.proofs.Judgements.{both_left, both_right}
use Rattle.script_printer.proofs.Spans.{is_text, are_word_bytes}
use Rattle.{script_reader.specs.script_tokens.specs.Bytes.is_word_byte, script_reader.specs.line_reader.proofs.Digits.number_is}

own : IsNumeralModel (λ ds. all_digits ds ≡ true) (value_from 0)
own = numerals_by_fold _ (search rules) value_from (search rules)

pub number_digits : (n : ℕ) → n < 2 ^ 64 → all_digits (decimal n) ≡ true
number_digits n h = digits_decimal own n h

number_is_digits : (n : ℕ) → n < 2 ^ 64 → is_digits (decimal n) ≡ true
number_is_digits n h = and_from _ _ (lt-ltb 0 (length (decimal n)) (decimal_nonempty n h)) (number_digits n h)

pub number_read : (n : ℕ) → n < 2 ^ 64 → number_of (decimal n) ≡ Some n
number_read n h =
    let value : value_of (decimal n) ≡ n = digits_value-decimal own n h in
    sym (number_is (decimal n) (number_is_digits n h) (omega (arith, value))) ∙ ap Some value

digits_bytes : (w : List ℕ) → all_digits w ≡ true → are_word_bytes w ≡ true
digits_bytes [] h = refl
digits_bytes (b ∷ bs) h =
    let digit : is_digit b ≡ true = both_left _ _ h in
    let low : 48 ≤ b = leb-true 48 b (both_left (leb 48 b) (leb b 57) digit) in
    let high : b ≤ 57 = leb-true b 57 (both_right (leb 48 b) (leb b 57) digit) in
    let word : is_word_byte b ≡ true = rw (le-leb 33 b (omega arith), le-leb b 126 (omega arith), ne_eqb b 35 (λ e. omega arith)) refl in
    and_from _ _ word (digits_bytes bs (both_right _ _ h))

some_text : (w : List ℕ) → 0 < length w → are_word_bytes w ≡ true → is_text w ≡ true
some_text [] lt h = absurd (omega arith)
some_text (b ∷ bs) lt h = h

-- a number is a word
pub number_text : (n : ℕ) → n < 2 ^ 64 → is_text (decimal n) ≡ true
number_text n h = some_text (decimal n) (decimal_nonempty n h) (digits_bytes (decimal n) (number_digits n h))

-- the number at a place of a line
pub number_back : (words : List (List ℕ)) (place least most n : ℕ) → slice_get words place ≡ Some (decimal n)
    → least ≤ n → n ≤ most → most < 2 ^ 64 → number_at words place least most ≡ Ok n
unfolding number_at word_at
number_back words place least most n e low high fits = rw (e, number_read n (omega arith), le-leb least n low, le-leb n most high) refl

pub core_back : (words : List (List ℕ)) (place cores n : ℕ)
    → slice_get words place ≡ Some (decimal n) → n < cores → cores ≤ 8 → core_at words place cores ≡ Ok n
unfolding core_at word_at
core_back words place cores n e below fits = rw (e, number_read n (omega arith), lt-ltb n cores below) refl
