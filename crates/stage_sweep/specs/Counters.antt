-- The counters of a frame, in their order, and what their count words say together.
use Rattle.std.specs.Prelude.{ℕ, ℤ, pos, ◌+ℤ◌, max, List, [], ◌∷◌, fold}
use Rattle.stage_pins.specs.frame_words.specs.{Count.NumberFits, declared.count_word.CountWord.CountWord}
use Rattle.stage_look.specs.word_map.specs.Places.{Shape}

-- how many counters a frame has: one for each core
unfoldable pub counters_of : Shape → ℕ
counters_of s = s.cores

-- the sum of a list of counts
abbrev pub add_count : ℤ → CountWord → ℤ
add_count sum v = sum +ℤ v.count

abbrev pub sum_of_counts : List CountWord → ℤ
sum_of_counts vs = fold add_count (pos 0) vs

-- the latest stamp of a list of counts, 0 where no reference was released
abbrev pub later_of : ℕ → CountWord → ℕ
later_of stamp v = max stamp v.stamp

abbrev pub latest_stamp : List CountWord → ℕ
latest_stamp vs = fold later_of 0 vs

-- each count of a list is within its range
abbrev pub CountsFit : List CountWord → Type 0
CountsFit [] = Unit {0}
CountsFit (v ∷ vs) = NumberFits v.count × CountsFit vs
