-- What a step of an act leaves does not depend on the stage that it overwrites: as `step_lands` has it.
use Rattle.act_ends.specs.step_lands.proofs.Staged.{told_from as told_below, call_from as call_below}
use Rattle.act_ends.specs.step_lands.specs.call_stages.specs.{landed, told, call_after}
use Rattle.act_ends.specs.step_lands.specs.act_states.specs.declared.work.WorkStep.{WorkStep}
use Rattle.act_ends.specs.step_lands.specs.call_stages.specs.declared.stages.ActiveCall.{ActiveCall}
use Rattle.act_ends.specs.step_lands.specs.call_stages.specs.declared.stages.Stage.{Stage}
use Rattle.std.proofs.Common.{◌≡◌}

pub told_from : (a : ActiveCall) (s : Stage) (step : WorkStep) → told (landed (record a { stage = s }) step) ≡ told (landed a step)
told_from = told_below

pub call_from : (a : ActiveCall) (s : Stage) (step : WorkStep)
    → call_after (record a { stage = s }) (landed (record a { stage = s }) step) ≡ call_after a (landed a step)
call_from = call_below
