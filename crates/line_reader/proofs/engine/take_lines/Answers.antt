use Rattle.std.proofs.Common.{◌+◌, ◌≤◌, length}
use Rattle.line_reader.proofs.{Rows.within_line, LineSteps.goes_fault, LineSteps.goes_more}
use Rattle.line_reader.proofs.engine.take_lines.Goals as goal

pub returns-in-Err-clause-value : goal.returns-in-Err-clause-value
returns-in-Err-clause-value g c =
    let d = g.L.Lines in
    goes_fault d.Said d.step d.Kept (d.said c.args.draft.now) (d.said c.lines.draft) c.args.tokens.now c.lines.at
    c.line_length.result _ c.in-Err.fault c.lines.invariant c.lines-test.true c.line_length.ensures.value c.in-Err.ensures.value

pub lines-preserved : goal.lines-preserved
lines-preserved g c =
    let d = g.L.Lines in
    let within : c.lines.at + c.line_length.result ≤ length c.args.tokens.now =
    within_line c.args.tokens.now c.lines.at c.line_length.result c.lines-test.true c.line_length.ensures.within in
    goes_more d.Said d.step d.Kept (d.said c.args.draft.now) (d.said c.lines.draft) c.args.tokens.now c.lines.at
    (d.said c.take_line.new.self) c.line_length.result _ c.lines.invariant c.lines-test.true c.line_length.ensures.value
    c.in_default.ensures.value c.in_default.ensures.kept within
