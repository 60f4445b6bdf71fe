use Rattle.plain_tables.proofs.Common.{◌≡◌, arith, adds_none, adds_piece, adds_more, adds_whole}
use Rattle.plain_tables.proofs.names.push_numbers.Goals as goal

pub numbers-init : goal.numbers-init
numbers-init c = adds_none _ _

pub numbers-preserved : goal.numbers-preserved
numbers-preserved c = adds_more _ _ _ _ _ c.numbers.invariant (adds_piece _ _ _ (rw c.number-value.ensures at c.in_ok-push_number.ensures))

pub returns : goal.returns
returns c = let end : c.numbers.number ≡ 64 = omega arith in adds_whole _ _ _ _ _ end c.numbers.invariant
