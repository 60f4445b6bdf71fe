use Rattle.{std.proofs.Common.◌<◌, std.proofs.Common.length, std.proofs.Common.arith, core_runs.proofs.Wholes.decisions_more}
use Rattle.core_runs.proofs.whole.add_decisions.Goals as goal

pub loop-at-preserved : goal.loop-at-preserved
loop-at-preserved c =
    let rs = c.args.replies.now in
    let low : c.loop-at.at < length rs = (let test = c.loop-at-test.true in omega arith) in
    let few = c.requires in
    decisions_more c.args.core rs c.loop-at.at _ c.index-replies-at.result c.args.decisions.now.items c.loop-at.decisions.items
    c.push.new.self.items c.loop-at.invariant c.in_ok-push.ensures.items low (omega arith) c.index-replies-at.is
