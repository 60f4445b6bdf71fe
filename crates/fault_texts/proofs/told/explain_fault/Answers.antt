use Rattle.{fault_texts.specs.Found.found_view, fault_texts.proofs.Telling.told_is}
use Rattle.fault_texts.proofs.told.explain_fault.Goals as goal

pub returns-in-Ok : goal.returns-in-Ok
returns-in-Ok c =
    told_is c.args.reading c.args.source.now c.args.line c.args.cause (found_view c.no_found-finder.result)
    (found_view c.read_lines.new.draft) c.told.result c.no_found-finder.ensures c.in-Ok.ensures.value c.told.ensures
