use Rattle.straight_maps.proofs.Growing.{fill_begins}
use Rattle.straight_maps.proofs.grows.grow_at.Goals as goal

pub fill_place-requires-clause-begins : goal.fill_place-requires-clause-begins
fill_place-requires-clause-begins g c =
    fill_begins c.args.own.now c.args.call.now 7 c.args.caps.now c.args.link.now c.args.page c.in-At.place _ c.requires.fills
    c.in-At.ensures.core
