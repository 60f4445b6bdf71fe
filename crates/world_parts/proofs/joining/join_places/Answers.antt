use Rattle.std.proofs.Common.{◌≡◌, sym, subst, arith}
use Rattle.world_parts.proofs.Steps.{PlacesBelow, places_none, places_more, with_none, with_next}
use Rattle.{world_parts.specs.AreWith, world_parts.specs.Joins, world_parts.specs.world_in, world_parts.specs.Seen.seen}
use Rattle.world_parts.proofs.joining.join_places.Goals as goal

pub places-init : goal.places-init
places-init c = record {
  joined = places_none (seen c.args.image.now) c.args.node (world_in c.args.parts.now);
  done = subst (AreWith c.args.parts.now c.args.node) (sym c.no_range-done.ensures) (with_none c.args.parts.now c.args.node);
}

pub places-preserved : goal.places-preserved
places-preserved c = record {
  joined = places_more (seen c.args.image.now) c.args.node c.places.index _ _ _ c.places.invariant.joined
      (rw c.new.ensures at (rw c.held_at-held.ensures at c.join_held.ensures));
  done = with_next c.held_at-held.result c.places.done c.last_range-done.result c.args.node c.places.parts c.join_held.new.parts
      c.places.invariant.done c.join_held.ensures c.last_range-done.ensures;
}

pub returns : goal.returns
returns c =
    let e : c.places.index ≡ 64 = omega arith in
    subst (λ n. Joins (PlacesBelow (seen c.args.image.now) c.args.node n) (world_in c.args.parts.now) (world_in c.places.parts)) e
    c.places.invariant.joined
