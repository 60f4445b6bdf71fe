use Rattle.{std.proofs.Common.ap, std.proofs.Common.string_bytes, ends_text.proofs.Counted.count_more}
use Rattle.ends_text.proofs.counts.push_end_lines.Goals as goal

pub loop-frame-preserved : goal.loop-frame-preserved
loop-frame-preserved c =
    count_more c.args.sent.now c.args.left.now c.loop-frame.frame c.saturating_sub-taken.result (string_bytes c.args.text.now)
    (string_bytes c.loop-frame.text) (string_bytes c.push_end.new.text) c.loop-frame.invariant c.in_ok-push_end.ensures
    c.saturating_sub-taken.ensures
