use Rattle.plain_tables.proofs.Common.{◌≡◌, arith, adds_none, adds_piece, adds_more, adds_whole}
use Rattle.plain_tables.proofs.names.push_node.Goals as goal

pub entries-init : goal.entries-init
entries-init c = adds_none _ _

pub entries-preserved : goal.entries-preserved
entries-preserved c = adds_more _ _ _ _ _ c.entries.invariant
    (adds_piece _ _ _ (rw (c.place-place.ensures, c.new.ensures) at c.in_ok-push_place.ensures))

pub returns : goal.returns
returns c = let end : c.entries.index ≡ 64 = omega arith in adds_whole _ _ _ _ _ end c.entries.invariant
