use Rattle.kernel_invariant.specs.kernel_rules.specs.{◌≡◌, ◌≤◌, take, times}
use Rattle.seq_state.proofs.stack.Stack.times.Given as goal

abbrev pub invariant-each : goal.invariant-each
invariant-each l = record { count : l.count ≡ times l.frame (take l.at l.self-inside.cells); most : l.count ≤ l.at }
