use Rattle.seq_state.specs.{◌||◌, [], state_of}
use Rattle.{seq_plans.specs.OwnCauses.with_cause, seq_plans.proofs.OneOfCauses.next_decides}
use Rattle.seq_plans.proofs.causes.one_may.Goals as goal

pub returns : goal.returns
returns c =
    let s = state_of c.args.k.now in
    let x = c.args.causes.now in
    next_decides s c.args.core c.args.refusal.now x.first
    (with_cause x.second (with_cause x.third (with_cause x.fourth (with_cause x.fifth (with_cause x.sixth [])))))
    c.first_may-first.result (c.first_may-second.result || (c.first_may-third.result || (c.first_may-fourth.result
    || (c.first_may-fifth.result || c.first_may-sixth.result)))) c.first_may-first.ensures
    (next_decides s c.args.core c.args.refusal.now x.second
    (with_cause x.third (with_cause x.fourth (with_cause x.fifth (with_cause x.sixth []))))
    c.first_may-second.result (c.first_may-third.result || (c.first_may-fourth.result
    || (c.first_may-fifth.result || c.first_may-sixth.result)))
    c.first_may-second.ensures
    (next_decides s c.args.core c.args.refusal.now x.third (with_cause x.fourth (with_cause x.fifth (with_cause x.sixth [])))
    c.first_may-third.result (c.first_may-fourth.result || (c.first_may-fifth.result || c.first_may-sixth.result)) c.first_may-third.ensures
    (next_decides s c.args.core c.args.refusal.now x.fourth (with_cause x.fifth (with_cause x.sixth []))
    c.first_may-fourth.result (c.first_may-fifth.result || c.first_may-sixth.result) c.first_may-fourth.ensures
    (next_decides s c.args.core c.args.refusal.now x.fifth (with_cause x.sixth [])
    c.first_may-fifth.result c.first_may-sixth.result c.first_may-fifth.ensures c.first_may-sixth.ensures))))
