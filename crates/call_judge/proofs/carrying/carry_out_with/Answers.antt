use Rattle.plain_kernel.specs.seq_state.specs.{change_of, frame_of, core_of, state_of}
use Rattle.call_judge.proofs.CarriedOut.{put_back_result, refused_result}
use Rattle.call_judge.proofs.carrying.carry_out_with.Goals as goal

pub returns-else-is_value-clause-exact : goal.returns-else-is_value-clause-exact
returns-else-is_value-clause-exact c = λ ranges calm.
    put_back_result (state_of c.args.k.now) c.args.core c.args.call.now c.in-Some.found c.args.value.now c.in_ok-reply.reply
    c.decide.new.k c.put_back.new.k (core_of c.core-kept.result.now) (frame_of c.frame-tcap.result)
    c.requires.core c.requires.answers c.core-kept.ensures c.frame-tcap.ensures
    c.in-Some.ensures c.if-is_value.ensures calm (c.in_ok-reply.ensures.exact ranges) c.put_back.ensures

pub returns-in-None-clause-exact : goal.returns-in-None-clause-exact
returns-in-None-clause-exact c = λ ranges calm.
    refused_result (state_of c.args.k.now) (change_of (state_of c.args.k.now) c.args.core c.args.call.now) c.args.value.now
    c.in_ok-reply.reply c.decide.new.k c.in-None.ensures (c.in_ok-reply.ensures.exact ranges)
