use Rattle.plain_tables.proofs.Common.{◌≡◌, ◌*◌, ◌≤◌, sum_below, state_of, outstanding}
use Rattle.plain_tables.proofs.rest.spent.Given as goal

abbrev pub invariant-cores : goal.invariant-cores
invariant-cores l = record {
  sum : l.sum ≡ sum_below (λ c. outstanding ((state_of l.k).core c)) l.core;
  most : l.sum ≤ 18446744073709551615 * l.core;
}
