use Rattle.plain_tables.proofs.Common.{sum_below, times, place_names, state_of, Adds}
use Rattle.plain_tables.proofs.names.push_node.Given as goal

abbrev pub invariant-entries : goal.invariant-entries
invariant-entries l = Adds l.initial.names.items l.names.items
    (λ f. sum_below (λ i. times f (place_names ((state_of l.k).place l.node i))) l.index)
