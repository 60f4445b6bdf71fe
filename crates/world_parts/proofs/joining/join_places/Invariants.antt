use Rattle.world_parts.specs.{AreWith, Joins, world_in}
use Rattle.{world_parts.specs.Seen.seen, world_parts.proofs.Steps.PlacesBelow}
use Rattle.world_parts.proofs.joining.join_places.Given as goal

abbrev pub invariant-places : goal.invariant-places
invariant-places l = record {
  joined : Joins (PlacesBelow (seen l.image) l.node l.index) (world_in l.initial.parts) (world_in l.parts);
  done : AreWith l.parts l.node l.done;
}
