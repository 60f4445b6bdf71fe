-- A list of qualities, read from its eight words one after the other.
use Rattle.std.specs.Prelude.{ℕ, ◌==◌, ◌&&◌, nat_le, Bool, true, false, Option, Some, None, List, [], ◌∷◌, ◌++◌, length, if◌then◌else◌}
use Rattle.word_map.specs.spk_nums.specs.{Merging.merged, Qualities.takes_pair}
use Rattle.tcap_words.specs.declared.quality_word.QualityWord.{QualityWord}

-- a list with the pair of the next word, where it has one; None once a pair is out of order
abbrev pub read_pair : List (ℕ × ℕ) → Option (ℕ × ℕ) → Option (List (ℕ × ℕ))
read_pair xs None = Some xs
read_pair xs (Some p) = if takes_pair xs p then Some (xs ++ p ∷ []) else None

abbrev pub read_word : Option (List (ℕ × ℕ)) → Option QualityWord → Option (List (ℕ × ℕ))
read_word None v = None
read_word (Some xs) None = Some xs
read_word (Some xs) (Some v) = read_pair xs v.0

-- a list that is out of order is taken as the empty one
abbrev pub in_order : Option (List (ℕ × ℕ)) → List (ℕ × ℕ)
in_order None = []
in_order (Some xs) = xs

-- whether two lists are equal
abbrev pub same_list : List (ℕ × ℕ) → List (ℕ × ℕ) → Bool
same_list [] [] = true
same_list [] (y ∷ ys) = false
same_list (x ∷ xs) [] = false
same_list (x ∷ xs) (y ∷ ys) = x.0 == y.0 && (x.1 == y.1 && same_list xs ys)

-- the merged list, where it has room for each scheduler
abbrev pub merged_if : Bool → List (ℕ × ℕ) → Option (List (ℕ × ℕ))
merged_if room xs = if room then Some xs else None

abbrev pub merge_of : List (ℕ × ℕ) → List (ℕ × ℕ) → Option (List (ℕ × ℕ))
merge_of xs ys = merged_if (nat_le (length (merged xs ys)) 8) (merged xs ys)
