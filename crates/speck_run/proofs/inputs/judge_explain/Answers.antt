use Rattle.std.proofs.Common.{refl, string_bytes}
use Rattle.{speck_run.specs.declared.words.Command.TheVariants.Explain, speck_run.proofs.Due.due_done}
use Rattle.speck_run.proofs.inputs.judge_explain.Goals as goal

pub returns-clause-due : goal.returns-clause-due
returns-clause-due c =
    due_done (Explain c.args.reading) c.args.bytes.now c.made.result.status (string_bytes c.in_ok-text.text) (string_bytes c.made.result.text)
    c.made.ensures.status c.made.ensures.text record { input = c.args.bytes.now; is_input = refl; is_text = c.in_ok-text.ensures }
