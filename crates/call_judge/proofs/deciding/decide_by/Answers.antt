use Rattle.plain_kernel.specs.seq_state.proofs.{Bool, sym, subst, state_of}
use Rattle.call_judge.specs.Judged.{DecidesAs}
use Rattle.call_judge.proofs.Reached.{here_plain, here_ranges, spent_judged, none_left, decided_judged, refused_judged}
use Rattle.call_judge.proofs.deciding.decide_by.Goals as goal

pub returns-then-says_spent-clause-exact : goal.returns-then-says_spent-clause-exact
returns-then-says_spent-clause-exact c = λ setting lim events run opens same.
    spent_judged setting lim events run c.args.core c.args.call.now opens c.args.k.now same c.are_spent-spent.result c.args.reply.now
    c.are_spent-spent.ensures.value c.if-says_spent.ensures

pub returns-then-spent-clause-exact : goal.returns-then-spent-clause-exact
returns-then-spent-clause-exact c = λ setting lim events run opens same.
    none_left setting lim events run c.args.core c.args.call.now opens c.args.k.now same c.args.reply.now
    c.if-says_spent.ensures c.if-spent.ensures.value

pub returns-then-decided-clause-exact : goal.returns-then-decided-clause-exact
returns-then-decided-clause-exact c = λ setting lim events run opens same.
    decided_judged setting lim events run c.args.core c.args.call.now opens c.args.k.now same c.args.reply.now
    c.decide_as.new.k c.count_decided.new.k c.if-spent.ensures.value
    (subst (λ (b : Bool). DecidesAs (state_of c.args.k.now) c.args.core c.args.call.now c.args.reply.now b c.decide_as.new.k)
    c.if-decided.true (c.in_ok-decided.ensures.exact
    (here_ranges setting lim events run c.args.core c.args.call.now opens c.args.k.now same)
    (here_plain setting lim events run c.args.core c.args.call.now opens c.args.k.now same)))
    c.count_decided.ensures

pub returns-clause-exact : goal.returns-clause-exact
returns-clause-exact c = λ setting lim events run opens same.
    refused_judged setting lim events run c.args.core c.args.call.now opens c.args.k.now same c.args.reply.now
    c.decide_as.new.k c.if-says_spent.ensures
    (subst (λ (b : Bool). DecidesAs (state_of c.args.k.now) c.args.core c.args.call.now c.args.reply.now b c.decide_as.new.k)
    c.if-decided.false (c.in_ok-decided.ensures.exact
    (here_ranges setting lim events run c.args.core c.args.call.now opens c.args.k.now same)
    (here_plain setting lim events run c.args.core c.args.call.now opens c.args.k.now same)))
