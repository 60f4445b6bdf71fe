use Rattle.straight_maps.proofs.Mapping.{map_begins}
use Rattle.straight_maps.proofs.maps.map_at.Goals as goal

pub map_place-requires-clause-begins : goal.map_place-requires-clause-begins
map_place-requires-clause-begins g c =
    map_begins c.args.own.now c.args.call.now 8 c.args.caps.now c.args.page.now c.in-At.place _ c.requires.maps c.in-At.ensures.core
