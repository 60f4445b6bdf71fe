use Rattle.{world_parts.specs.Joins, world_parts.specs.world_in, world_parts.proofs.Steps.RangeBelow}
use Rattle.world_parts.proofs.joining.join_range.Given as goal

abbrev pub invariant-frames : goal.invariant-frames
invariant-frames l = Joins (RangeBelow l.range l.node l.frame) (world_in l.initial.parts) (world_in l.parts)
