use Rattle.table_lines.proofs.{begins, goes_on}
use Rattle.table_report.proofs.Lines.{stack_text, stack_begins}
use Rattle.table_report.proofs.objects.push_stack.Goals as goal

pub heights-init : goal.heights-init
heights-init c = begins _ _ (stack_begins _)

pub heights-preserved : goal.heights-preserved
heights-preserved c = goes_on _ _ _ _ _ _ (rw c.entry_word.ensures at c.in_ok-push_stacked.ensures) c.heights.invariant (stack_text _ _)
