-- A step of an act after which the same act goes on, in its place.
use Rattle.std.specs.Prelude.{◌≡◌, Bool, true, false}
use Rattle.make_acts.specs.act_states.specs.{declared.work.Act.Act as ActType, declared.work.Work.TheVariants.Act}
use Rattle.make_acts.specs.act_states.specs.{declared.work.WorkStep.WorkStep, declared.work.WorkStep.TheVariants.Goes}

-- where it is said that an act has moved, its step leads from the old one to the new one; else the act is as it was
abbrev pub MovesTo : Bool → WorkStep → ActType → ActType → Type 0
MovesTo true step old new = step ≡ Goes (Act new)
MovesTo false step old new = new ≡ old
