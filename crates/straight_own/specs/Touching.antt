-- A page of a core's own pages that is touched.
use Rattle.std.specs.Prelude.{◌≡◌, ℕ}
use Rattle.straight_looks.specs.step_starts.specs as low
use low.act_states.specs.Touches.{touches}
use low.act_states.specs.declared.own.Own.{Own}
use low.act_states.specs.declared.touches.Touching.{Touching}
use low.act_states.specs.declared.work.Act.TheVariants as act
use low.act_states.specs.declared.work.Work.TheVariants.{Act}
use low.act_states.specs.declared.work.WorkStep.TheVariants.{Goes}

-- the touching of a page begins here
abbrev pub IsTouching : Own → ℕ → Touching → Type 0
IsTouching own v m = touches own v ≡ Goes (Act (act.Touch m))
