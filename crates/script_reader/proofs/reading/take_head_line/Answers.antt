use Rattle.script_reader.specs.{Heads.IsLine, Readings.draft_view}
use Rattle.{std.proofs.Common.subst, script_reader.proofs.DraftSteps.call_kept}
use Rattle.script_reader.proofs.reading.take_head_line.Goals as goal

pub returns-in_ok-add_call-in-Call-clause-draft : goal.returns-in_ok-add_call-in-Call-clause-draft
returns-in_ok-add_call-in-Call-clause-draft c =
    call_kept (draft_view c.args.draft.now) _ c.in-Call.call c.requires.draft
    (subst IsLine c.in-Call.is c.in_ok-head.ensures.range) c.in_ok-add_call-in-Call.ensures.ok
