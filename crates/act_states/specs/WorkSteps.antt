-- What a step of the work of a call leads to.
use Rattle.act_states.specs.{declared.refusals.Refusal.Refusal, declared.work.Tail.TheVariants.Nothing, declared.work.WorkStep.WorkStep}
use Rattle.act_states.specs.{declared.work.WorkStep.TheVariants.Refuses}

-- a refusal with nothing to store
abbrev pub refuse : Refusal → WorkStep
refuse r = Refuses r Nothing
