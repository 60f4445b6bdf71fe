use Rattle.{std.proofs.Common.arith, ends_runners.proofs.Telling.have_met}
use Rattle.ends_runners.proofs.meets.meet_all.Goals as goal

pub spread-requires-clause-some : goal.spread-requires-clause-some
spread-requires-clause-some c =
    let count = c.gather.ensures.gathered.count in
    let some = c.requires.some in
    omega arith

pub returns-clause-met : goal.returns-clause-met
returns-clause-met c =
    have_met c.args.seats.now.items c.gather.new.seats.items c.spread.new.seats.items c.gather.ensures.gathered c.spread.ensures.spread
