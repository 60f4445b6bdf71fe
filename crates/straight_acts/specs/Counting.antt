-- Where the acquiring of a count has left its core.
use Rattle.std.specs.Prelude.{◌+◌, ℕ, List, Option}
use Rattle.spk_nums.specs.Capability.{Capability}
use Rattle.spk_nums.specs.declared.calls.Call.{Call}
use Rattle.straight_looks.specs.step_starts.specs as low
use low.act_states.specs.Acts.{next_work}
use low.act_states.specs.declared.own.Own.{Own}
use low.act_states.specs.declared.work.Act.{Act as ActType}
use low.call_stages.specs.View.{Core}
use low.call_stages.specs.declared.stages.Absorbed.{Absorbed}
use low.call_stages.specs.declared.stages.ActiveCall.{ActiveCall}
use low.call_stages.specs.declared.stages.Stage.TheVariants.{Undecided}
use Rattle.straight_acts.specs.declared.counts.Acquiring.{Acquiring}
use Rattle.straight_acts.specs.declared.counts.Acquiring.TheVariants.{Holds, Falls}
use Rattle.straight_acts.specs.Acting.{counts}
use Rattle.straight_looks.specs.Outcomes.{Fell, IsOn}

-- the count is acquired, and the call goes on to the next, or to its act; or the general machine goes on
abbrev pub acquired_so : Own → Call → ℕ → List Capability → ActType → Option ActiveCall → Option ActiveCall → Core → Absorbed → Acquiring
    → Type 0
acquired_so own call steps found act was now c told (Holds x) =
    IsOn was now c (counts own call (steps + 2) (Undecided (next_work own.core 1 act)) found x)
acquired_so own call steps found act was now c told (Falls word) = Fell own now c told word
