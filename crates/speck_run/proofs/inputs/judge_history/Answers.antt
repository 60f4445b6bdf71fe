use Rattle.{std.specs.Prelude.string_bytes, speck_run.specs.declared.words.Command.TheVariants.Check, speck_run.proofs.Due.due_done}
use Rattle.speck_run.proofs.inputs.judge_history.Goals as goal

pub returns-in-Ok-clause-due : goal.returns-in-Ok-clause-due
returns-in-Ok-clause-due c =
    let d = c.in-Ok.ensures.checked in
    due_done Check c.args.bytes.now c.made.result.status (string_bytes c.in-Ok.text) (string_bytes c.made.result.text)
    c.made.ensures.status c.made.ensures.text record { input = d.history; is_input = d.read; is_text = d.judged }
