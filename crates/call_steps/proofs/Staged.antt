-- Where a step takes a call does not depend on the stage that it leaves: two lemmas of `step_lands`, where a function of this crate can name
-- them.
use Rattle.step_looks.specs.call_stages.specs.{landed, told, call_after}
use Rattle.step_looks.specs.call_stages.specs.{declared.stages.ActiveCall.ActiveCall, declared.stages.Stage.Stage}
use Rattle.step_looks.specs.step_lands.proofs.Staged.{told_from as told_landed, call_from as call_landed}
use Rattle.{std.proofs.Common.◌≡◌, step_looks.specs.act_states.specs.declared.work.WorkStep.WorkStep}

pub told_from : (a : ActiveCall) (s : Stage) (step : WorkStep) → told (landed (record a { stage = s }) step) ≡ told (landed a step)
told_from a s step = told_landed a s step

pub call_from : (a : ActiveCall) (s : Stage) (step : WorkStep)
    → call_after (record a { stage = s }) (landed (record a { stage = s }) step) ≡ call_after a (landed a step)
call_from a s step = call_landed a s step
