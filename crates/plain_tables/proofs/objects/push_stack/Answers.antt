use Rattle.plain_tables.proofs.Common.{◌≡◌, reverse, arith, number, begins, goes_on}
use Rattle.plain_tables.proofs.Stacks.{text_begin, text_next, stack_all}
use Rattle.plain_tables.proofs.objects.push_stack.Goals as goal

pub heights-init : goal.heights-init
heights-init c = begins _ _ (text_begin number (reverse c.args.stack.now))

pub heights-preserved : goal.heights-preserved
heights-preserved c = goes_on _ _ _ _ _ _ c.in_ok-push_stacked.ensures c.heights.invariant
    (text_next number (reverse c.args.stack.now) c.heights.height c.frame_at-frame.result c.frame_at-frame.ensures)

pub returns : goal.returns
returns c =
    let end : c.heights.height ≡ c.len-height-end.result = omega arith in
    stack_all number c.args.stack.now c.heights.height c.len-height-end.result _ _ end c.len-height-end.ensures.length c.heights.invariant
