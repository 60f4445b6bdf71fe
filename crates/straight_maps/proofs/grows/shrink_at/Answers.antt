use Rattle.std.proofs.Common.{[]}
use Rattle.straight_looks.specs.Standing.{going}
use Rattle.straight_looks.specs.step_starts.specs.act_states.specs.declared.work.Work.TheVariants.{Lookup}
use Rattle.straight_looks.specs.step_starts.specs.call_stages.specs.declared.stages.Stage.TheVariants.{Undecided}
use Rattle.straight_acts.proofs.Falling.{fell}
use Rattle.straight_maps.proofs.grows.shrink_at.Goals as goal

pub returns-in-None : goal.returns-in-None
returns-in-None g c =
    fell c.args.own.now _ (going c.args.call.now 5 (Undecided (Lookup c.args.look)) c.args.caps.now [])
    (g.W.Words.core c.args.words.now) _ _ _ c.rest_looking.ensures c.requires.stands c.requires.fits c.make-found.ensures.goes
    c.make-found.ensures.told
