use Rattle.std.proofs.Common.{◌≡◌, ◌++◌, map, string_bytes}
use Rattle.speck_run.specs.Written.{core_lines}
use Rattle.speck_run.proofs.ends.write_done.Given as goal

abbrev pub invariant-loop-core : goal.invariant-loop-core
invariant-loop-core l = string_bytes l.text ≡ string_bytes l.initial.text ++ core_lines (map (λ v. v.items) l.done) l.core
