-- Where a step takes a call, and what is told of it.
use Rattle.act_fits.specs.call_stages.specs.{Took, GoesOn, Decides, Changes, landed, told, call_after}
use Rattle.act_fits.specs.act_states.specs.{◌≡◌, ℕ, refl, Reply}
use Rattle.act_fits.specs.act_states.specs.declared.own.OwnChange.{OwnChange}
use Rattle.act_fits.specs.act_states.specs.declared.work.WorkStep.{WorkStep}
use Rattle.act_fits.specs.act_states.specs.declared.work.WorkStep.TheVariants.{Goes}
use Rattle.act_fits.specs.call_stages.specs.{declared.stages.ActiveCall.ActiveCall, declared.stages.Told.Told}

-- no step of the work returns
pub same_call : (old a : ActiveCall) (step : WorkStep) → call_after a (landed a step) ≡ call_after old (landed a step)
same_call old a (Goes work) = refl
same_call old a _ = refl

-- what was told of a step says what it led to
pub told_goes : (old : ActiveCall) (k : Took) → Told.Going ≡ told k → k ≡ GoesOn (call_after old k)
told_goes old (GoesOn a) is = refl
told_goes old _ is = cc

pub told_decides : (old : ActiveCall) (r : Reply) (k : Took) → Told.Decided r ≡ told k → k ≡ Decides r (call_after old k)
told_decides old r (GoesOn a) is = cc
told_decides old r _ is = cc

pub told_changes : (old : ActiveCall) (r : Reply) (change : OwnChange) (k : Took) → Told.Changed r change ≡ told k
    → k ≡ Changes r change (call_after old k)
told_changes old r change (GoesOn a) is = cc
told_changes old r change _ is = cc
