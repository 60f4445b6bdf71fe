use Rattle.std.specs.Prelude.{ℕ, ℤ, pos, negsuc, ◌+◌, ◌-◌, ◌*◌, ◌/◌, ◌%◌, ◌^◌, ◌<◌, ◌==◌, nat_lt, Option, Some, None, if◌then◌else◌}
use Rattle.frame_words.specs.{Residue.residue, Residue.signed, declared.count_word.CountWord.CountWord, declared.count_word.Hold.Hold}
use Rattle.frame_words.specs.{declared.count_word.Hold.TheVariants.Unheld, declared.count_word.Hold.TheVariants.Pinned}
use Rattle.frame_words.specs.{declared.count_word.Hold.TheVariants.Closed}

-- a word is held by no core, or by one
abbrev pub HoldFits : Hold → Type 0
HoldFits Unheld = Unit {0}
HoldFits (Pinned by) = by < 8
HoldFits (Closed by) = by < 8

-- a count is from -2 ^ 15 to 2 ^ 15 - 1
abbrev pub NumberFits : ℤ → Type 0
NumberFits (pos n) = n < 2 ^ 15
NumberFits (negsuc n) = n < 2 ^ 15

-- a count is within its range, the stamp is below 2 ^ 43, and the core that holds the word is one
abbrev pub CountFits : CountWord → Type 0
CountFits v = HoldFits v.hold × NumberFits v.count × (v.stamp < 2 ^ 43)

-- a hold's number in a word: the mark in the lower 4 bits, and after it whether the word is closed
abbrev pub number_of_hold : Hold → ℕ
number_of_hold Unheld = 0
number_of_hold (Pinned by) = by + 1
number_of_hold (Closed by) = by + 1 + 2 ^ 4

-- the hold of a number: a mark, and whether it closes the word
abbrev pub hold_of_number : ℕ → Option Hold
hold_of_number n =
    if n == 0 then Some Unheld
    else if nat_lt n 9 then Some (Pinned (n - 1))
    else if nat_lt n 17 then None
    else if nat_lt n 25 then Some (Closed (n - 17))
    else None

-- the word of a count, which has the count modulo 2 ^ 16
unfoldable pub word_of_count : CountWord → ℕ
word_of_count v = v.stamp + 2 ^ 43 * residue v.count + 2 ^ 59 * number_of_hold v.hold

-- the count word of these fields, where there is such a hold
abbrev pub count_of : Option Hold → ℤ → ℕ → Option CountWord
count_of None count stamp = None
count_of (Some hold) count stamp = Some (record { hold = hold; count = count; stamp = stamp })

-- the count word of a word
unfoldable pub count_of_word : ℕ → Option CountWord
count_of_word w = count_of (hold_of_number (w / 2 ^ 59)) (signed (w / 2 ^ 43 % 2 ^ 16)) (w % 2 ^ 43)
