-- Counting references by a list of the frames that are named.
use Rattle.std.specs.Prelude.{◌≡◌, ◌<◌, ◌+◌}
use Rattle.kernel_history.specs.{ℕ, List, slice_index, times}

-- The new list names each frame so much more often than the old one.
pub record Adds (old new : List ℕ) (by : ℕ → ℕ) : Type 0 where
  pub counts : (f : ℕ) → times f new ≡ times f old + by f

-- Each frame has its number.
abbrev pub AreCounts : List ℕ → (ℕ → ℕ) → ℕ → Type 0
AreCounts counts number n = (f : ℕ) → f < n → slice_index counts f ≡ number f
