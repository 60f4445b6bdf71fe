use Rattle.lone_kernel.specs.core_invariant.specs.{All, take, InLimits}
use Rattle.lone_checks.proofs.are_in_limits.Given as goal

abbrev pub invariant-each : goal.invariant-each
invariant-each l = All InLimits (take l.call-index l.calls)
