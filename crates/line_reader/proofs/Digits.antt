-- Reading digits one by one.
use Rattle.std.proofs.Common.{◌≡◌, ℕ, ◌+◌, ◌-◌, ◌*◌, ◌^◌, ◌<◌, ◌≤◌, Bool, true, false, cond, ltb, List, [], ◌∷◌, length, get_or, drop, Some}
use Rattle.std.proofs.Common.{None, refl, sym, ap, ◌∙◌, arith, inl, inr, ◌&&◌, le-ltb, lt-ltb, ltb-false}
use Rattle.line_reader.specs.{all_digits, is_digits, value_of, number_of}
use Rattle.std.proofs.lemmas.Bool.{cases_Bool, and_left, and_right, and_from}
use Rattle.std.proofs.lemmas.List.{drop_more, drop_all}
use Rattle.line_reader.specs.Numerals.{is_digit, value_from}

pub digits_no : (word : List ℕ) (i b : ℕ) → i < length word → b ≡ get_or word i 0
    → is_digit b ≡ false → all_digits (drop i word) ≡ all_digits word → all_digits word ≡ false
digits_no word i b lt is bad so_far =
    let cut : drop i word ≡ b ∷ drop (i + 1) word = drop_more word i 0 lt ∙ ap (λ (x : ℕ). x ∷ drop (i + 1) word) (sym is) in
    sym so_far ∙ ap all_digits cut ∙ and_left (is_digit b) (all_digits (drop (i + 1) word)) bad

pub digits_more : (word : List ℕ) (i b : ℕ) → i < length word → b ≡ get_or word i 0 → is_digit b ≡ true
    → all_digits (drop i word) ≡ all_digits word → all_digits (drop (i + 1) word) ≡ all_digits word
digits_more word i b lt is good so_far =
    let cut : drop i word ≡ b ∷ drop (i + 1) word = drop_more word i 0 lt ∙ ap (λ (x : ℕ). x ∷ drop (i + 1) word) (sym is) in
    let one : all_digits (b ∷ drop (i + 1) word) ≡ all_digits (drop (i + 1) word) = rw good refl in
    sym one ∙ ap all_digits (sym cut) ∙ so_far

pub digits_end : (word : List ℕ) (i : ℕ) → length word ≤ i → all_digits (drop i word) ≡ all_digits word → all_digits word ≡ true
digits_end word i le so_far = sym so_far ∙ ap all_digits (drop_all i word le)

-- what was read of a number, and what is left of it
pub record Reads (word : List ℕ) (i n : ℕ) : Type 0 where
  pub digits : all_digits (drop i word) ≡ all_digits word
  pub value : value_from n (drop i word) ≡ value_of word
  pub fits : n < 2 ^ 64

pub value_grows : (n : ℕ) (bs : List ℕ) → n ≤ value_from n bs
value_grows n [] = omega arith
value_grows n (b ∷ bs) = let more : 10 * n + (b - 48) ≤ value_from (10 * n + (b - 48)) bs =
    value_grows (10 * n + (b - 48)) bs in omega arith

none_when : (b : Bool) (n : ℕ) → b ≡ false → None ≡ cond b (Some n) None
none_when b n e = rw e refl

pub number_none : (word : List ℕ) → is_digits word ≡ false → None ≡ number_of word
unfolding number_of
number_none word bad = rw bad refl

none_either : (b : Bool) (n : ℕ) → None ≡ cond (b && false) (Some n) None
none_either true n = refl
none_either false n = refl

pub number_past : (word : List ℕ) → 2 ^ 64 ≤ value_of word → None ≡ number_of word
unfolding number_of
number_past word le = rw (le-ltb (value_of word) (2 ^ 64) le) (none_either (is_digits word) (value_of word))

pub number_is : (word : List ℕ) → is_digits word ≡ true → value_of word < 2 ^ 64 → Some (value_of word) ≡ number_of word
unfolding number_of
number_is word good lt = rw (good, lt-ltb (value_of word) (2 ^ 64) lt) refl

pub reads_none : (word : List ℕ) (i n b : ℕ) → i < length word
    → b ≡ get_or word i 0 → is_digit b ≡ false → Reads word i n → None ≡ number_of word
reads_none word i n b lt is bad r = number_none word (and_right _ _ (digits_no word i b lt is bad r.digits))

reads_cut : (word : List ℕ) (i n b : ℕ) → i < length word → b ≡ get_or word i 0
    → Reads word i n → value_from (10 * n + (b - 48)) (drop (i + 1) word) ≡ value_of word
reads_cut word i n b lt is r =
    let cut : drop i word ≡ b ∷ drop (i + 1) word = drop_more word i 0 lt ∙ ap (λ (x : ℕ). x ∷ drop (i + 1) word) (sym is) in
    ap (value_from n) (sym cut) ∙ r.value

pub reads_past : (word : List ℕ) (i n b : ℕ) → i < length word → b ≡ get_or word i 0
    → 2 ^ 64 ≤ 10 * n + (b - 48) → Reads word i n → None ≡ number_of word
reads_past word i n b lt is le r =
    let grown : 10 * n + (b - 48) ≤ value_from (10 * n + (b - 48)) (drop (i + 1) word) =
    value_grows (10 * n + (b - 48)) (drop (i + 1) word) in
    number_past word (omega (arith, reads_cut word i n b lt is r))

pub reads_more : (word : List ℕ) (i n b m : ℕ) → i < length word → b ≡ get_or word i 0
    → is_digit b ≡ true → m ≡ 10 * n + (b - 48) → m < 2 ^ 64 → Reads word i n → Reads word (i + 1) m
reads_more word i n b m lt is good e fits r = record {
  fits = fits;
  digits = digits_more word i b lt is good r.digits;
  value = ap (λ k. value_from k (drop (i + 1) word)) e ∙ reads_cut word i n b lt is r;
}

pub reads_all : (word : List ℕ) (i n : ℕ) → length word ≤ i → 0 < length word → Reads word i n → Some n ≡ number_of word
reads_all word i n le some r =
    let digits : is_digits word ≡ true = and_from _ _ (lt-ltb 0 (length word) some) (digits_end word i le r.digits) in
    let value : n ≡ value_of word = ap (value_from n) (sym (drop_all i word le)) ∙ r.value in
    ap Some value ∙ number_is word digits (omega (arith, r.fits))

-- digits that are a number stand for it, and those that are none are past every core
pub digits_some : (word : List ℕ) (n : ℕ) → is_digits word ≡ true → Some n ≡ number_of word → n ≡ value_of word
unfolding number_of
digits_some word n good is =
    elim (cases_Bool (ltb (value_of word) (2 ^ 64))) [
      | inl e ↦ let found : Some n ≡ Some (value_of word) = rw (good, e) at is in cc
      | inr e ↦ let found : Some n ≡ None = rw (good, e) at is in absurd cc
    ]

pub digits_none : (word : List ℕ) → is_digits word ≡ true → None ≡ number_of word → 2 ^ 64 ≤ value_of word
unfolding number_of
digits_none word good is =
    elim (cases_Bool (ltb (value_of word) (2 ^ 64))) [
      | inl e ↦ let found : None ≡ Some (value_of word) = rw (good, e) at is in absurd cc
      | inr e ↦ ltb-false _ _ e
    ]
