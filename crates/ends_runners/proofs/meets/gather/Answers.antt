use Rattle.std.proofs.Common.{◌≡◌, length, subst, arith}
use Rattle.{ends_runners.specs.Meets.HasGathered, ends_runners.proofs.Telling.gathered_none, ends_runners.proofs.Telling.gathered_more}
use Rattle.ends_runners.proofs.meets.gather.Goals as goal

pub loop-core-init : goal.loop-core-init
loop-core-init c = record {
  gathered = gathered_none c.args.seats.now.items c.requires.some;
  some = omega arith;
  seats = c.requires.seats;
}

pub tell-requires-clause-from : goal.tell-requires-clause-from
tell-requires-clause-from c =
    let end = c.len-core-end.ensures in
    let size = c.args.seats.now.ok.0 in
    let test = c.loop-core-test.true in
    let count = c.loop-core.invariant.gathered.count in
    omega arith

pub tell-requires-clause-to : goal.tell-requires-clause-to
tell-requires-clause-to c =
    let some = c.requires.some in
    let count = c.loop-core.invariant.gathered.count in
    omega arith

pub loop-core-preserved : goal.loop-core-preserved
loop-core-preserved c =
    let end = c.len-core-end.ensures in
    let size = c.args.seats.now.ok.0 in
    let test = c.loop-core-test.true in
    let i = c.loop-core.invariant in
    record {
      gathered = gathered_more c.loop-core.core c.args.seats.now.items c.loop-core.seats.items c.tell.new.seats.items i.some (omega arith)
          i.gathered c.tell.ensures.tells;
      some = omega arith;
      seats = c.tell.ensures.seats;
    }

pub returns-clause-gathered : goal.returns-clause-gathered
returns-clause-gathered c =
    let end = c.len-core-end.ensures in
    let size = c.args.seats.now.ok.0 in
    let test = c.loop-core-test.false in
    let most = c.loop-core.auto.core-end in
    let all : c.loop-core.core ≡ length c.args.seats.now.items = omega arith in
    subst (λ n. HasGathered n c.args.seats.now.items c.loop-core.seats.items) all c.loop-core.invariant.gathered
