use Rattle.{std.proofs.Common.subst, world_parts.specs.Partitions.IsParts}
use Rattle.world_parts.proofs.parts.Parts.first.Goals as goal

pub returns : goal.returns
returns c = subst IsParts c.self.view_is c.self.invariant
