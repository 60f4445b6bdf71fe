-- The counts of references in the words of a machine: a frame has a list of count words, and the references to it are their sum, modulo
-- 2 ^ 16.
use Rattle.std.specs.Prelude.{◌≡◌, ◌<◌, ◌∷◌, ◌+ℤ◌}
use Rattle.kernel_rules.specs.{ℕ, List, [], All, Option, Some, None, ℤ, pos, refs}
use Rattle.{frame_words.specs.count_of_word, frame_words.specs.residue, std.specs.List.range_with_len}
use Rattle.{frame_words.specs.declared.count_word.CountWord.CountWord, frame_words.specs.declared.count_word.Hold.TheVariants.Unheld}
use Rattle.{word_map.specs.Word.Word, word_map.specs.Word.CountAt, kernel_rules.specs.State.State}

-- The numbers of a frame's count words on a machine of n cores: one for each core.
abbrev pub counters : ℕ → List ℕ
counters n = range_with_len 0 n

-- What the count word of this number shows.
abbrev pub count_at : (Word → ℕ) → ℕ → ℕ → Option CountWord
count_at word f c = count_of_word (word (CountAt f c))

-- It is held by no core.
abbrev pub IsUnheld : Option CountWord → Type 0
IsUnheld None = ⊥
IsUnheld (Some v) = v.hold ≡ Unheld

-- Its count.
abbrev pub count_in : Option CountWord → ℤ
count_in None = pos 0
count_in (Some v) = v.count

-- The sum of the counts that words show.
abbrev pub count_sum : (ℕ → Option CountWord) → List ℕ → ℤ
count_sum shown [] = pos 0
count_sum shown (c ∷ cs) = count_in (shown c) +ℤ count_sum shown cs

-- The count words of a frame are held by no core, and their counts sum to the references to it, modulo 2 ^ 16.
pub record Counts (word : Word → ℕ) (s : State) (f : ℕ) : Type 0 where
  pub unheld : All (λ c. IsUnheld (count_at word f c)) (counters s.limits.cores)
  pub sum : residue (count_sum (count_at word f) (counters s.limits.cores)) ≡ refs s f

-- The count words represent the state's references.
abbrev pub RepresentCounts : (Word → ℕ) → State → Type 0
RepresentCounts word s = (f : ℕ) → f < s.limits.frames → Counts word s f
