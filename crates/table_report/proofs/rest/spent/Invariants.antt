use Rattle.table_lines.specs.kernel_history.specs.{◌≡◌, ◌*◌, ◌≤◌, sum_below, outstanding}
use Rattle.table_report.specs.Shown.{core_shown_at}
use Rattle.table_report.proofs.rest.spent.Given as goal

abbrev pub invariant-cores : goal.invariant-cores
invariant-cores l = record {
  sum : l.sum ≡ sum_below (λ c. outstanding (core_shown_at l.ends c)) l.core;
  most : l.sum ≤ 18446744073709551615 * l.core;
}
