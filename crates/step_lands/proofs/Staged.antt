-- Where a step takes a call does not depend on the stage that it leaves.
use Rattle.call_stages.specs.{landed, told, call_after}
use Rattle.call_stages.specs.act_states.specs.declared.work.WorkStep.TheVariants.{Goes, Acquires, Refuses, Answers, Changes as work_changes}
use Rattle.{std.proofs.Common.◌≡◌, std.proofs.Common.refl, call_stages.specs.act_states.specs.declared.work.WorkStep.WorkStep}
use Rattle.{call_stages.specs.declared.stages.ActiveCall.ActiveCall, call_stages.specs.declared.stages.Stage.Stage}

pub told_from : (a : ActiveCall) (s : Stage) (step : WorkStep) → told (landed (record a { stage = s }) step) ≡ told (landed a step)
told_from a s (Goes work) = refl
told_from a s (Acquires count work) = refl
told_from a s (Refuses r tail) = refl
told_from a s (Answers v drawn tail) = refl
told_from a s (work_changes r change drawn tail) = refl

pub call_from : (a : ActiveCall) (s : Stage) (step : WorkStep)
    → call_after (record a { stage = s }) (landed (record a { stage = s }) step) ≡ call_after a (landed a step)
call_from a s (Goes work) = refl
call_from a s (Acquires count work) = refl
call_from a s (Refuses r tail) = refl
call_from a s (Answers v drawn tail) = refl
call_from a s (work_changes r change drawn tail) = refl

-- as `call_from`, of a call that was another before it found what it has found
pub after_from : (old now a : ActiveCall) (s : Stage) (step : WorkStep)
    → call_after old (landed (record a { stage = s }) step) ≡ call_after now (landed a step)
after_from old now a s (Goes work) = refl
after_from old now a s (Acquires count work) = refl
after_from old now a s (Refuses r tail) = refl
after_from old now a s (Answers v drawn tail) = refl
after_from old now a s (work_changes r change drawn tail) = refl
