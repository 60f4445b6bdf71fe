use Rattle.confinement.specs.{chain_from, IsBelow, places_left}
use Rattle.std.proofs.Common.{◌≡◌, ◌++◌, length}
use Rattle.confinement.proofs.table.links_from.Given as goal

abbrev pub invariant-walk : goal.invariant-walk
invariant-walk l =
    IsBelow l.next (length l.kept.items)
    × (l.links.items ++ chain_from l.kept.items (length l.kept.items) l.next
    ≡ chain_from l.kept.items (length l.kept.items) l.fn.first)

abbrev pub decreases-walk : goal.decreases-walk
decreases-walk l = places_left l.next
