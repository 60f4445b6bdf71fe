use Rattle.{std.proofs.Common.◌≡◌, std.proofs.Common.replicate, async_ends.specs.Running.unused}
use Rattle.async_ends.proofs.ends.programs_of.Given as goal

abbrev pub invariant-loop : goal.invariant-loop
invariant-loop l = l.programs.items ≡ replicate l.counter (unused l.frames)
