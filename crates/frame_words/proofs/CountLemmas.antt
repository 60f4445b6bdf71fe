-- One spelling for each count word.
use Rattle.std.proofs.Common.{◌≡◌, ◌≢◌, true, ℕ, ◌+◌, ◌-◌, ◌*◌, ◌/◌, ◌%◌, ◌^◌, ◌<◌, ◌≤◌, nat_lt, ◌==◌, Option, Some, None, IfSome, refl}
use Rattle.std.proofs.Common.{subst, arith, ℤ, ne_eqb, lt-ltb, le-ltb, ltb-true, ltb-false, eqb-true}
use Rattle.frame_words.specs.{CountFits, word_of_count, count_of_word, residue}
use Rattle.spk_nums.proofs.{Choices.kept, Choices.chosen, OneSpelling.spelling_reads, OneSpelling.spelling_spells}
use Rattle.frame_words.specs.{Count.HoldFits, Count.number_of_hold, Count.hold_of_number, Count.count_of, Residue.signed}
use Rattle.frame_words.specs.{declared.count_word.CountWord.CountWord, declared.count_word.Hold.Hold}
use Rattle.frame_words.specs.{declared.count_word.Hold.TheVariants.Unheld, declared.count_word.Hold.TheVariants.Pinned}
use Rattle.frame_words.proofs.ResidueLemmas.{IsSigned, signed_is, signed_residue, residue_small}
use Rattle.{std.proofs.lemmas.Bool.eqb-false, spk_nums.specs.Spelling.IsOneSpelling}
use Rattle.{frame_words.specs.declared.count_word.Hold.TheVariants.Closed}

-- a hold has a number below 2 ^ 5, and is found again from it
record IsHoldNumber (h : Hold) : Type 0 where
  below : number_of_hold h < 2 ^ 5
  back : hold_of_number (number_of_hold h) ≡ Some h

hold_numbered : (h : Hold) → HoldFits h → IsHoldNumber h
hold_numbered Unheld p = record { below = omega arith; back = refl }
hold_numbered (Pinned c) p = record { below = omega arith; back = back } where
  some : c + 1 ≢ 0
  some = omega arith

  less : c + 1 - 1 ≡ c
  less = omega arith

  small : c + 1 < 9
  small = omega arith

  back : hold_of_number (c + 1) ≡ Some (Pinned c)
  back = rw (ne_eqb (c + 1) 0 some, lt-ltb (c + 1) 9 small, less)
hold_numbered (Closed c) p = record { below = omega arith; back = back } where
  n : ℕ
  n = c + 1 + 16

  some : c + 1 + 16 ≢ 0
  some = omega arith

  less : c + 1 + 16 - 17 ≡ c
  less = omega arith

  big : 17 ≤ c + 1 + 16
  big = omega arith

  bigger : 9 ≤ c + 1 + 16
  bigger = omega arith

  small : c + 1 + 16 < 25
  small = omega arith

  back : hold_of_number (c + 1 + 16) ≡ Some (Closed c)
  back = rw (ne_eqb (c + 1 + 16) 0 some, le-ltb (c + 1 + 16) 9 bigger, le-ltb (c + 1 + 16) 17 big, lt-ltb (c + 1 + 16) 25 small, less)

-- what a hold was read from
record HoldFrom (n : ℕ) (h : Hold) : Type 0 where
  in_range : HoldFits h
  number : number_of_hold h ≡ n

hold_is : (n : ℕ) (h k : Hold) → k ≡ h → HoldFits k → number_of_hold k ≡ n → HoldFrom n h
hold_is n h k same fits number = subst (HoldFrom n) same (record { in_range = fits; number = number })

hold_from : (n : ℕ) (h : Hold) → hold_of_number n ≡ Some h → HoldFrom n h
hold_from n h e =
    chosen (n == 0) _ _ (Some h) e
    (λ none f. hold_is n h Unheld (cc) tt (omega (arith, eqb-true n 0 none)))
    (λ some e1. chosen (nat_lt n 9) _ _ (Some h) e1
    (λ low f. pinned (eqb-false n 0 some) (ltb-true n 9 low) f)
    (λ _ e2. chosen (nat_lt n 17) _ _ (Some h) e2
    (λ _ f. absurd (cc))
    (λ high e3. closed (ltb-false n 17 high) (kept (nat_lt n 25) (Closed (n - 17)) h e3).0 (kept (nat_lt n 25) (Closed (n - 17)) h e3).1)))
  where
    pinned : (n ≡ 0 → ⊥) → n < 9 → Some (Pinned (n - 1)) ≡ Some h → HoldFrom n h
    pinned some low f = hold_is n h (Pinned (n - 1)) (cc) (omega arith) (omega arith)

    closed : 17 ≤ n → nat_lt n 25 ≡ true → Closed (n - 17) ≡ h → HoldFrom n h
    closed high test f = let low : n < 25 = ltb-true n 25 test in hold_is n h (Closed (n - 17)) f (omega arith) (omega arith)

reads : (v : CountWord) → CountFits v → count_of_word (word_of_count v) ≡ Some v
unfolding word_of_count count_of_word
reads v h =
    let k : ℕ = number_of_hold v.hold in
    let c : ℕ = residue v.count in
    let k_is : IsHoldNumber v.hold = hold_numbered v.hold h.0 in
    let below : residue v.count < 2 ^ 16 = residue_small v.count in
    let s : v.stamp < 2 ^ 43 = h.2 in
    let w : ℕ = v.stamp + 2 ^ 43 * c + 2 ^ 59 * k in
    let hold : w / 2 ^ 59 ≡ k = omega arith in
    let count : w / 2 ^ 43 % 2 ^ 16 ≡ c = omega arith in
    let stamp : w % 2 ^ 43 ≡ v.stamp = omega arith in
    rw (hold, count, stamp, k_is.back, signed_residue v.count h.1)

-- a count word within its ranges, whose word is this one
Spells : ℕ → CountWord → Type 0
Spells w v = CountFits v × (word_of_count v ≡ w)

spells_fields : (o : Option Hold) (w : ℕ) (v : CountWord) → hold_of_number (w / 2 ^ 59) ≡ o
    → count_of o (signed (w / 2 ^ 43 % 2 ^ 16)) (w % 2 ^ 43) ≡ Some v → Spells w v
unfolding Spells word_of_count
spells_fields None w v of_hold h = absurd (cc)
spells_fields (Some k) w v of_hold h =
    let z : ℤ = signed (w / 2 ^ 43 % 2 ^ 16) in
    let hold : HoldFrom (w / 2 ^ 59) k = hold_from (w / 2 ^ 59) k of_hold in
    let count : IsSigned (w / 2 ^ 43 % 2 ^ 16) z = signed_is (w / 2 ^ 43 % 2 ^ 16) (omega arith) in
    let of_count : residue z ≡ w / 2 ^ 43 % 2 ^ 16 = count.number in
    let number : number_of_hold k ≡ w / 2 ^ 59 = hold.number in
    let u : CountWord = record { hold = k; count = z; stamp = w % 2 ^ 43 } in
    let value : u ≡ v = cc (h) in
    subst (Spells w) value ((hold.in_range, count.in_range, omega arith), omega arith)

spells : (w : ℕ) (v : CountWord) → count_of_word w ≡ Some v → Spells w v
unfolding count_of_word
spells w v h = spells_fields _ w v refl h

small : (v : CountWord) → CountFits v → word_of_count v < 2 ^ 64
unfolding word_of_count
small v h =
    let k_is : IsHoldNumber v.hold = hold_numbered v.hold h.0 in
    let below : residue v.count < 2 ^ 16 = residue_small v.count in
    let s : v.stamp < 2 ^ 43 = h.2 in
    omega arith

pub spelling : IsOneSpelling CountFits word_of_count count_of_word
unfolding Spells
spelling = record { reads = reads; spells = spells; small = small }

-- what `unpack` says of the value read from a word
pub count_reads : (o : Option CountWord) (w : ℕ) → o ≡ count_of_word w → (v : CountWord) → CountFits v → word_of_count v ≡ w → o ≡ Some v
count_reads = spelling_reads spelling

pub count_spells : (o : Option CountWord) (w : ℕ) → o ≡ count_of_word w → IfSome o (λ v. CountFits v × (word_of_count v ≡ w))
count_spells = spelling_spells spelling
