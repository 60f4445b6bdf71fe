-- Sources and sinks in memory as contracts see them, and which of their calls fail.
use Rattle.std.specs.Prelude.{◌≡◌, ◌⊎◌, ℕ, ◌+◌, ◌-◌, ◌^◌, ◌<◌, List, length, Contains, min}

-- A source in memory: the bytes that are left, the most that a read gives, the numbers of the reads that fail, the reads made so far and
-- the faults among them.
pub record Given : Type 0 where
  pub left : List ℕ
  pub most : ℕ
  pub fails : List ℕ
  pub calls : ℕ
  pub faults : ℕ

-- A source in memory that never fails: the bytes that are left, and the most that a read gives.
pub record Served : Type 0 where
  pub left : List ℕ
  pub most : ℕ

-- A sink in memory: the bytes that it holds, the most that it can hold and that a write takes, the numbers of the writes that fail, the
-- writes made so far and the faults among them.
pub record Taken : Type 0 where
  pub held : List ℕ
  pub room : ℕ
  pub most : ℕ
  pub fails : List ℕ
  pub calls : ℕ
  pub faults : ℕ

-- One more, up to the last value of a count.
abbrev pub one_more : ℕ → ℕ
one_more n = min (n + 1) (2 ^ 64 - 1)

-- The read that comes next fails: its number is among those that fail.
abbrev pub IsBadRead : Given → Type 0
IsBadRead s = Contains s.fails (s.calls + 1)

-- The write of this piece fails: its number is among those that fail, or there is no room for a byte of it.
abbrev pub IsBadWrite : Taken → List ℕ → Type 0
IsBadWrite s piece = Contains s.fails (s.calls + 1) ⊎ ((s.room ≡ length s.held) × (0 < length piece))
