use Rattle.std.specs.Prelude.{ℕ, ◌≡◌, ◌<◌, ◌^◌, Option, Some}

-- each value within its ranges has one word, and is read from that word alone
pub record IsOneSpelling {V : Type 0} (fits : V → Type 0) (word_of : V → ℕ) (of_word : ℕ → Option V) : Type 0 where
  -- the word of a value reads as that value
  pub reads : (v : V) → fits v → of_word (word_of v) ≡ Some v
  -- a word that reads as a value is the word of that value, which is within its ranges
  pub spells : (w : ℕ) (v : V) → of_word w ≡ Some v → fits v × (word_of v ≡ w)
  -- a word has 64 bits
  pub small : (v : V) → fits v → word_of v < 2 ^ 64
