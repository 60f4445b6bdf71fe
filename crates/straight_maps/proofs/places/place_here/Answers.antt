use Rattle.std.proofs.Common.{refl}
use Rattle.straight_maps.proofs.Placing.{placed_at}
use Rattle.straight_maps.proofs.places.place_here.Goals as goal

pub returns-in-Some : goal.returns-in-Some
returns-in-Some g c = record {
  kept = refl;
  core =
      placed_at c.args.own.now c.args.call.now _ c.args.steps c.args.look c.in-Some.place c.args.caps.now _ _ c.requires.stands
      c.make-found.ensures.goes c.requires.free c.in-Some.ensures;
  fits = c.make-found.ensures.fits;
}
