use Rattle.plain_tables.proofs.Common.{begins, goes_on, lines_none, lines_more}
use Rattle.plain_tables.proofs.rest.push_numbers.Goals as goal

pub numbers-init : goal.numbers-init
numbers-init c = begins _ _ (lines_none _)

pub numbers-preserved : goal.numbers-preserved
numbers-preserved c = goes_on _ _ _ _ _ _ (rw c.number-value.ensures at c.in_ok-push_number.ensures) c.numbers.invariant (lines_more _ _)
