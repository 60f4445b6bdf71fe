use Rattle.table_lines.proofs.{begins, goes_on}
use Rattle.table_report.proofs.Lines.{qualities_text, qualities_begins}
use Rattle.table_report.proofs.objects.push_qualities.Goals as goal

pub pairs-init : goal.pairs-init
pairs-init c = begins _ _ (qualities_begins _)

pub pairs-preserved : goal.pairs-preserved
pairs-preserved c = goes_on _ _ _ _ _ _ (rw c.entry_word.ensures at c.in_ok-push_quality.ensures) c.pairs.invariant (qualities_text _ _)
