use Rattle.{std.proofs.Common.◌∙◌, table_report.proofs.Determined.determined}
use Rattle.table_report.proofs.whole.report.Goals as goal

pub returns-clause-tables : goal.returns-clause-tables
returns-clause-tables c = λ s cores frames represents counted.
    c.in_ok-text.ensures ∙ determined c.args.image.now.shape c.args.image.now.words c.args.image.now.ends s cores frames represents counted
