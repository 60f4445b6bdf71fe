-- What is written of a trace by one who watches it.
use Rattle.std.specs.Prelude.{◌≡◌}
use Rattle.told_run.specs.lone_kernel.specs.core_invariant.specs.{ℕ, List, [], Trace}
use Rattle.trace_lines.specs.{Told, told}

-- After a head that is all that was written first, the trace is told.
abbrev pub has_written : Told → Trace → Told → Type 0
has_written first t last = (head : List ℕ) → first ≡ told head [] → last ≡ told head t
