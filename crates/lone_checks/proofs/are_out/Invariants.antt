use Rattle.{std.proofs.Common.◌≡◌, std.proofs.Common.ℕ, std.proofs.Common.◌<◌, std.proofs.Common.None, lone_kernel.specs.Machine.core_at}
use Rattle.lone_checks.proofs.are_out.Given as goal

abbrev pub invariant-cores : goal.invariant-cores
invariant-cores l = (c : ℕ) → c < l.number → (core_at l.kernel c).active ≡ None
