use Rattle.{std.proofs.Common.◌∙◌, history_options.proofs.Places.come_at}
use Rattle.history_options.proofs.calls.judge_at.Goals as goal

pub returns : goal.returns
returns c =
    come_at c.args.setup.now c.args.before.now c.args.core c.args.call.now c.args.form.now _ c.in_ok-judge.judge
    (c.deref.ensures.value ∙ c.in_ok-lines.ensures) c.requires.history c.requires.decides c.in_ok-judge.ensures.come
