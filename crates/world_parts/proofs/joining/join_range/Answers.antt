use Rattle.world_parts.proofs.Steps.{RangeBelow, range_none, range_more, range_all}
use Rattle.{std.proofs.Common.◌≡◌, std.proofs.Common.arith, std.proofs.Common.subst, world_parts.specs.Joins, world_parts.specs.world_in}
use Rattle.world_parts.proofs.joining.join_range.Goals as goal

pub frames-init : goal.frames-init
frames-init c = range_none c.args.range c.args.node (world_in c.args.parts.now)

pub frames-preserved : goal.frames-preserved
frames-preserved c = range_more c.args.range c.args.node c.frames.frame _ _ _ c.frames.invariant (rw c.new.ensures at c.join_one.ensures)

pub returns : goal.returns
returns c =
    let e : c.frames.frame ≡ 512 = omega arith in
    range_all c.args.range c.args.node (world_in c.args.parts.now) (world_in c.frames.parts)
    (subst (λ n. Joins (RangeBelow c.args.range c.args.node n) (world_in c.args.parts.now) (world_in c.frames.parts)) e c.frames.invariant)
