use Rattle.plain_kernel.specs.seq_state.proofs.{Bool, sym, subst, Nothing, change_of, state_of}
use Rattle.{call_judge.specs.Judged.CarriesOut, call_judge.proofs.CarriedOut.plain_result}
use Rattle.call_judge.proofs.carrying.carry_out_plain.Goals as goal

pub returns-clause-exact : goal.returns-clause-exact
returns-clause-exact c = λ ranges calm.
    let s = state_of c.args.k.now in
    subst (λ (b : Bool). CarriesOut s (change_of s c.args.core c.args.call.now) Nothing b c.decide.new.k) (sym c.is_some.ensures)
    (plain_result s c.args.core c.args.call.now c.answer_of.result c.in_ok-reply.reply c.decide.new.k c.requires.answers
    c.answer_of.ensures calm (c.in_ok-reply.ensures.exact ranges))
