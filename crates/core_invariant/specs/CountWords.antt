-- What the count words of a frame show together beside their counts.
use Rattle.std.specs.Prelude.{◌∷◌}
use Rattle.act_fits.specs.act_states.specs.{ℕ, max, List, [], Option, Some, None, CountWord}

-- The stamp of a count word, 0 for none.
abbrev pub stamp_in : Option CountWord → ℕ
stamp_in None = 0
stamp_in (Some v) = v.stamp

-- The greatest stamp that the count words of these numbers show, 0 for none.
abbrev pub newest_of : (ℕ → Option CountWord) → List ℕ → ℕ
newest_of shown [] = 0
newest_of shown (c ∷ cs) = max (stamp_in (shown c)) (newest_of shown cs)
