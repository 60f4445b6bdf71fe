use Rattle.{ends_reader.specs.script_reader.specs.script_of, ends_reader.specs.script_reader.specs.script_view}
use Rattle.{line_forms.specs.declared.context.Reading.Reading}
use Rattle.{explain_run.proofs.Telling.read_told, explain_run.proofs.Telling.refusal_told}
use Rattle.explain_run.proofs.run.explain_script.Goals as goal

pub returns-in-Ok : goal.returns-in-Ok
returns-in-Ok c =
    read_told (script_of c.args.source.now) (script_view c.in-Ok._script) Reading.Script c.args.source.now c.accepted.result
    c.in-Ok.ensures.value c.accepted.ensures

pub returns-in-Err-Script : goal.returns-in-Err-Script
returns-in-Err-Script c =
    refusal_told (script_of c.args.source.now) _ Reading.Script c.args.source.now c.in-Err-Script.line c.in-Err-Script.cause
    c.explain_fault.result
    (rw c.in-Err-Script.field-0-is at c.in-Err-Script.ensures.value) c.explain_fault.ensures
