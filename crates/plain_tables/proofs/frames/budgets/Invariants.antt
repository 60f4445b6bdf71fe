use Rattle.plain_tables.proofs.Common.{◌≡◌, ◌*◌, ◌≤◌, tcap_in, sum_below, state_of}
use Rattle.plain_tables.proofs.frames.budgets.Given as goal

abbrev pub invariant-frames : goal.invariant-frames
invariant-frames l = record {
  sum : l.sum ≡ sum_below (λ f. (tcap_in ((state_of l.k).frame f)).budget) l.frame;
  most : l.sum ≤ 4294967295 * l.frame;
}
