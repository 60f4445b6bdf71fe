use Rattle.std.proofs.Common.{◌≡◌, replicate}
use Rattle.spk_nums.specs.SetupFaults.{equal_grant}
use Rattle.spk_nums.proofs.setup_fault.equal_grants.Given as goal

abbrev pub invariant-each : goal.invariant-each
invariant-each l = l.grants ≡ replicate l._core (equal_grant l.budget)
