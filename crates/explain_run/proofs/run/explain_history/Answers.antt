use Rattle.history_options.specs.history_reader.specs.Inputs.{history_of, history_view}
use Rattle.explain_run.proofs.Telling.{input_told, refusal_told}
use Rattle.{line_forms.specs.declared.context.Reading.Reading, explain_run.specs.Explained.IsToldOf}
use Rattle.explain_run.proofs.run.explain_history.Goals as goal

pub returns-in-Ok : goal.returns-in-Ok
returns-in-Ok c =
    input_told (history_of c.args.source.now) IsToldOf (history_view c.in-Ok.history) Reading.History c.args.source.now
    c.tell_history.result c.in-Ok.ensures.value c.tell_history.ensures

pub returns-in-Err-Script : goal.returns-in-Err-Script
returns-in-Err-Script c =
    refusal_told (history_of c.args.source.now) _ Reading.History c.args.source.now c.in-Err-Script.line c.in-Err-Script.cause
    c.explain_fault.result (rw c.in-Err-Script.field-0-is at c.in-Err-Script.ensures.value) c.explain_fault.ensures
