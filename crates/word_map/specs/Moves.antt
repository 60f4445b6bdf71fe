-- Atomic steps on the words of the table, by the words' names.
use Rattle.std.specs.Prelude.{ℕ, ◌+◌, ◌%◌, ◌^◌, ◌==◌}
use Rattle.spk_nums.specs.{declared.steps.WordOp.WordOp, declared.steps.WordOp.TheVariants.Load, declared.steps.WordOp.TheVariants.Compare}
use Rattle.spk_nums.specs.{declared.steps.WordOp.TheVariants.Store, declared.steps.WordOp.TheVariants.Add, WordSteps.left_if}
use Rattle.word_map.specs.{Word.Word, Places.Shape, Places.place_of}

-- a step on a word: it reads it; it puts a new value in the place of an expected one; it puts a new value there; it adds to it
pub data Move : Type 0 where
  LoadOf : (word : Word) → Move
  CompareOf : (word : Word) (expected new : ℕ) → Move
  StoreOf : (word : Word) (new : ℕ) → Move
  AddOf : (word : Word) (by : ℕ) → Move

-- the word on which a step is made
abbrev pub word_of : Move → Word
word_of (LoadOf w) = w
word_of (CompareOf w expected new) = w
word_of (StoreOf w new) = w
word_of (AddOf w by) = w

-- the step on the table of a machine: the word's place stands for its name
abbrev pub op_of : Shape → Move → WordOp
op_of s (LoadOf w) = Load (place_of s w)
op_of s (CompareOf w expected new) = Compare (place_of s w) expected new
op_of s (StoreOf w new) = Store (place_of s w) new
op_of s (AddOf w by) = Add (place_of s w) by

-- what a step leaves in the word, where it found this
abbrev pub left_of : Move → ℕ → ℕ
left_of (LoadOf w) found = found
left_of (CompareOf w expected new) found = left_if (found == expected) found new
left_of (StoreOf w new) found = new
left_of (AddOf w by) found = (found + by) % 2 ^ 64

-- what a core is told of the word found: a store tells it only what it has stored
abbrev pub told_of : Move → ℕ → ℕ
told_of (LoadOf w) found = found
told_of (CompareOf w expected new) found = found
told_of (StoreOf w new) found = new
told_of (AddOf w by) found = found
