use Rattle.table_lines.specs.kernel_history.specs.{◌≡◌, ◌*◌, ◌≤◌, tcap_in, sum_below}
use Rattle.table_report.specs.Shown.{frame_at}
use Rattle.table_report.proofs.frames.budgets.Given as goal

abbrev pub invariant-frames : goal.invariant-frames
invariant-frames l = record {
  sum : l.sum ≡ sum_below (λ f. (tcap_in (frame_at l.image.shape l.image.words f)).budget) l.frame;
  most : l.sum ≤ 4294967295 * l.frame;
}
