-- Stamps that are read from the clock.
use Rattle.std.specs.Prelude.{ℕ, ◌-◌, ◌^◌, min, max}

-- the stamp of a clock; a clock past a stamp's range never comes, and stays at the range's end
abbrev pub stamp_of_clock : ℕ → ℕ
stamp_of_clock clock = min clock (2 ^ 43 - 1)

-- the stamp that is drawn from a clock, at least 1
abbrev pub drawn_stamp : ℕ → ℕ
drawn_stamp clock = max 1 (stamp_of_clock clock)
