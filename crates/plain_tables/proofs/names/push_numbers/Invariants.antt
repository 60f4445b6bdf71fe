use Rattle.plain_tables.proofs.Common.{sum_below, times, number_names, state_of, Adds}
use Rattle.plain_tables.proofs.names.push_numbers.Given as goal

abbrev pub invariant-numbers : goal.invariant-numbers
invariant-numbers l = Adds l.initial.names.items l.names.items
    (λ f. sum_below (λ i. times f (number_names ((state_of l.k).number i))) l.number)
