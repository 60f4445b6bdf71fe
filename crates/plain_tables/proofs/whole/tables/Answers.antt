use Rattle.{plain_tables.proofs.Common.◌∙◌, plain_tables.proofs.Common.state_of, plain_tables.proofs.Texts.same_tables}
use Rattle.plain_tables.proofs.whole.tables.Goals as goal

pub returns-clause-represented : goal.returns-clause-represented
returns-clause-represented c = λ s within same. c.in_ok-text.ensures ∙ same_tables (state_of c.args.k.now) s within same
