use Rattle.std.proofs.Common.{◌+◌, ◌<◌, length, refl, arith, string_bytes}
use Rattle.ends_text.proofs.Counted.{done_more}
use Rattle.ends_text.proofs.done.push_done_lines.Goals as goal

pub loop-at-preserved : goal.loop-at-preserved
loop-at-preserved c =
    let few = c.requires in
    done_more c.args.core c.loop-at.at (c.loop-at.at + 1) c.args.done.now c.index-done-at.result (string_bytes c.args.text.now)
    (string_bytes c.loop-at.text) (string_bytes c.push_done.new.text) c.loop-at.invariant c.in_ok-push_done.ensures
    c.loop-at-test.true refl c.index-done-at.is
