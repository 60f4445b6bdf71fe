use Rattle.{std.proofs.Common.◌∙◌, history_options.proofs.Places.call_advice, history_options.proofs.Places.outlook_there}
use Rattle.history_options.proofs.calls.push_call_advice.Goals as goal

pub returns : goal.returns
returns c =
    call_advice c.args.setup.now c.args.before.now c.args.number c.args.core c.args.call.now c.args.form.now c.in_ok-found.found _ _ _ _
    (outlook_there c.args.setup.now c.cores-cores.ensures.limits _ c.in_ok-judge.judge c.args.core c.args.call.now c.in_ok-found.found
    c.in_ok-judge.ensures c.requires.decides.opens c.in_ok-found.ensures)
    c.in_ok-push_outlook.ensures (c.deref.ensures.value ∙ rw c.cores-cores.ensures.value at c.in_ok-replies.ensures) c.in_ok-push_options.ensures
