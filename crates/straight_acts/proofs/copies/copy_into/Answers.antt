use Rattle.std.proofs.Common.{[]}
use Rattle.straight_looks.specs.Standing.{going}
use Rattle.straight_looks.specs.step_starts.specs.act_states.specs.declared.work.Work.TheVariants.{Lookup}
use Rattle.straight_looks.specs.step_starts.specs.call_stages.specs.declared.stages.Stage.TheVariants.{Undecided}
use Rattle.straight_acts.proofs.Falling.{fell}
use Rattle.straight_acts.proofs.copies.copy_into.Goals as goal

pub returns-in-None : goal.returns-in-None
returns-in-None g c =
    fell c.args.own.now _ (going c.args.call.now 8 (Undecided (Lookup c.in-Leads.look)) c.args.caps.now [])
    (g.W.Words.core c.follow.new.words) _ _ _ c.rest_looking.ensures c.in-Leads.ensures.core
    c.in-Leads.ensures.fits c.make-found.ensures.goes c.make-found.ensures.told
