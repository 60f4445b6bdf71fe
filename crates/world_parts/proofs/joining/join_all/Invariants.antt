use Rattle.{world_parts.specs.IsHeldBelow, world_parts.specs.Joins, world_parts.specs.world_in, world_parts.specs.Seen.seen}
use Rattle.world_parts.proofs.joining.join_all.Given as goal

abbrev pub invariant-frames : goal.invariant-frames
invariant-frames l = Joins (IsHeldBelow (seen l.image) l.frame) (world_in l.initial.parts) (world_in l.parts)
