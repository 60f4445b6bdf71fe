-- What the tables of a state ask of it, where they are those of a kernel that represents it.
use Rattle.std.specs.Prelude.{◌<◌}
use Rattle.table_lines.specs.kernel_history.specs.{ℕ, State}

-- The current thread of each core is in a frame of the machine, as in every reached state.
abbrev pub ThreadsWithin : State → Type 0
ThreadsWithin s = (c : ℕ) → c < s.limits.cores → (s.core c).thread < s.limits.frames
