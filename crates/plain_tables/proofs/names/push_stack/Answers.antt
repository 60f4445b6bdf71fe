use Rattle.plain_tables.proofs.Common.{◌≡◌, reverse, arith}
use Rattle.plain_tables.proofs.Stacks.{adds_begin, adds_next, adds_stack}
use Rattle.plain_tables.proofs.names.push_stack.Goals as goal

pub heights-init : goal.heights-init
heights-init c = adds_begin _ (reverse c.args.stack.now)

pub heights-preserved : goal.heights-preserved
heights-preserved c = adds_next _ _ _ (reverse c.args.stack.now)
    c.heights.height c.frame_at-frame.result c.frame_at-frame.ensures c.heights.invariant c.in_ok-push_name.ensures

pub returns : goal.returns
returns c =
    let end : c.heights.height ≡ c.len-height-end.result = omega arith in
    adds_stack _ _ c.args.stack.now c.heights.height c.len-height-end.result end c.len-height-end.ensures.length c.heights.invariant
