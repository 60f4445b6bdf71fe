-- What a version of the language allows.
use Rattle.std.specs.Prelude.{ℕ, ◌-◌, ◌^◌, nat_le, if◌then◌else◌}

-- the most that a `calls` line says, and what holds without it: from version 3 on as much as a machine takes
abbrev pub most_calls : ℕ → ℕ
most_calls version = if nat_le 3 version then 2 ^ 40 - 1 else 4194304
