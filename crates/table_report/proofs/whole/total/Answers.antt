use Rattle.{std.proofs.Common.◌∙◌, table_report.proofs.Determined.ticks_told}
use Rattle.table_report.proofs.whole.total.Goals as goal

pub returns-clause-total : goal.returns-clause-total
returns-clause-total c = λ s cores frames represents.
    c.total_ticks.ensures ∙ ticks_told c.args.image.now.shape c.args.image.now.words c.args.image.now.ends s cores frames represents
