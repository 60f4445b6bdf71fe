use Rattle.{std.specs.Prelude.string_bytes, speck_run.specs.declared.words.Command.TheVariants.Sched, speck_run.proofs.Due.due_done}
use Rattle.speck_run.proofs.inputs.judge_sched.Goals as goal

pub returns-in-Ok-clause-due : goal.returns-in-Ok-clause-due
returns-in-Ok-clause-due c =
    let d = c.in-Ok.ensures.text in
    due_done Sched c.args.bytes.now c.made.result.status (string_bytes c.in-Ok.text) (string_bytes c.made.result.text)
    c.made.ensures.status c.made.ensures.text record { input = d.input; is_input = d.is_input; is_text = d.is_text }
