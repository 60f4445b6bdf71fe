use Rattle.plain_tables.proofs.Common.{take, reverse, times, Adds}
use Rattle.plain_tables.proofs.names.push_stack.Given as goal

abbrev pub invariant-heights : goal.invariant-heights
invariant-heights l = Adds l.initial.names.items l.names.items (λ f. times f (take l.height (reverse l.stack)))
