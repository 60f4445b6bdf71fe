use Rattle.plain_tables.proofs.Common.{sum_below, times, core_names, state_of, Adds}
use Rattle.plain_tables.proofs.names.push_cores.Given as goal

abbrev pub invariant-cores : goal.invariant-cores
invariant-cores l = Adds l.initial.names.items l.names.items (λ f. sum_below (λ c. times f (core_names ((state_of l.k).core c))) l.core)
