-- Count words that are held by no core, or acquired by one, and how a count changes.
use Rattle.std.specs.Prelude.{ℕ, ℤ, ◌+ℤ◌, max, Option, Some, None}
use Rattle.frame_words.specs.{Residue.wrapped, declared.count_word.CountWord.CountWord, declared.count_word.Hold.TheVariants.Unheld}
use Rattle.frame_words.specs.{declared.count_word.Hold.TheVariants.Pinned}

-- the count word that no core holds
abbrev pub unheld : ℤ → ℕ → CountWord
unheld count stamp = record { hold = Unheld; count = count; stamp = stamp }

-- the count word that a core has acquired
abbrev pub acquired : ℕ → ℤ → ℕ → CountWord
acquired core count stamp = record { hold = Pinned core; count = count; stamp = stamp }

-- a count after a change, modulo 2 ^ 16
abbrev pub changed : ℤ → ℤ → ℤ
changed count change = wrapped (count +ℤ change)

-- the later of a word's stamp and one that was drawn, if one was
abbrev pub later : ℕ → Option ℕ → ℕ
later stamp None = stamp
later stamp (Some drawn) = max stamp drawn
