use Rattle.plain_tables.proofs.Common.{sum_below, times, place_names, state_of, Adds}
use Rattle.plain_tables.proofs.names.push_nodes.Given as goal

abbrev pub invariant-frames : goal.invariant-frames
invariant-frames l = Adds l.initial.names.items l.names.items
    (λ f. sum_below (λ g. sum_below (λ i. times f (place_names ((state_of l.k).place g i))) 64) l.frame)
