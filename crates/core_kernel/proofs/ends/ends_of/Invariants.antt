use Rattle.std.proofs.Common.{◌≡◌, ◌≤◌, map, take, length, vec_len, vec_capacity}
use Rattle.call_steps.specs.call_stages.specs.Cores.{end_of}
use Rattle.core_kernel.proofs.ends.ends_of.Given as goal

abbrev pub invariant-loop-program : goal.invariant-loop-program
invariant-loop-program l = (l.ends.items ≡ map (λ p. end_of p.state) (take l.program-index l.programs))
    × (length l.programs ≤ vec_capacity l.ends)
    × (vec_len l.ends ≡ l.program-index)
