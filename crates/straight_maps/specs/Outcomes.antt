-- Where a part of a mapping has left its core.
use Rattle.std.specs.Prelude.{ℕ, ◌+◌, ◌<◌, List, Option}
use Rattle.spk_nums.specs.Capability.{Capability}
use Rattle.spk_nums.specs.declared.calls.Call.{Call}
use Rattle.straight_looks.specs.step_starts.specs as low
use low.act_states.specs.Acts.{next_work}
use low.act_states.specs.declared.own.Own.{Own}
use low.act_states.specs.declared.work.Act.{Act as ActType}
use low.call_stages.specs.View.{Core}
use low.call_stages.specs.declared.stages.Absorbed.{Absorbed}
use low.call_stages.specs.declared.stages.ActiveCall.{ActiveCall}
use low.call_stages.specs.declared.stages.Stage.TheVariants.{Undecided}
use Rattle.straight_looks.specs.Outcomes.{Fell, IsOn, IsStanding}
use Rattle.straight_looks.specs.Standing.{stands}
use Rattle.straight_maps.specs.declared.ends.Placed.{Placed}
use Rattle.straight_maps.specs.declared.ends.Placed.TheVariants as placing
use Rattle.straight_maps.specs.declared.ends.Scanned.{Scanned}
use Rattle.straight_maps.specs.declared.ends.Scanned.TheVariants as whole
use Rattle.straight_maps.specs.declared.ends.Scanning.{Scanning}
use Rattle.straight_maps.specs.declared.ends.Scanning.TheVariants as part
use Rattle.straight_maps.specs.Mapping.{placed, scanning}

-- after the look-up of a place that is to be free: it was found; or the general machine goes on
abbrev pub placed_so : Own → Call → ℕ → List Capability → Option ActiveCall → Option ActiveCall → Core → Absorbed → Placed → Type 0
placed_so own call steps found was now c told (placing.At place) = IsOn was now c (placed own call steps found place)
placed_so own call steps found was now c told (placing.Falls word) = Fell own now c told word

-- after one load of a scan: it goes on here; the act starts; or the general machine goes on
abbrev pub scanning_so : Own → Call → ℕ → List Capability → ActType → Option ActiveCall → Option ActiveCall → Core → Absorbed → Scanning
    → Type 0
scanning_so own call steps found act was now c told (part.Goes q) = IsOn was now c (scanning own call (steps + 1) q act found)
scanning_so own call steps found act was now c told part.Ends =
    IsOn was now c (stands own call (steps + 1) (Undecided (next_work own.core 0 act)) found)
scanning_so own call steps found act was now c told (part.Falls word) = Fell own now c told word

-- a call starts this act, after few steps
pub record IsStarting (own : Own) (call : Call) (steps : ℕ) (found : List Capability) (act : ActType) (was now : Option ActiveCall)
    (c : Core) : Type 0 where
  pub few : steps < 900
  pub on : IsOn was now c (stands own call steps (Undecided (next_work own.core 0 act)) found)

-- after a scan: the act starts; the call stands; or the general machine goes on
abbrev pub scanned_so : Own → Call → List Capability → ActType → Option ActiveCall → Option ActiveCall → Core → Absorbed → Scanned → Type 0
scanned_so own call found act was now c told (whole.Quiet steps) = IsStarting own call steps found act was now c
scanned_so own call found act was now c told whole.Stands = IsStanding own now c
scanned_so own call found act was now c told (whole.Falls word) = Fell own now c told word
