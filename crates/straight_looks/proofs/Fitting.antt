-- What holds of a core that stands somewhere, as a straight call needs it.
use Rattle.std.proofs.Common.{◌≡◌, ℕ, List, Option, subst}
use Rattle.spk_nums.specs.Capability.{Capability}
use Rattle.spk_nums.specs.declared.calls.Call.{Call}
use Rattle.step_starts.specs.act_states.specs.Acts.{ActFits}
use Rattle.step_starts.specs.act_states.specs.declared.own.Own.{Own}
use Rattle.step_starts.specs.act_states.specs.declared.work.Act.{Act}
use Rattle.step_starts.specs.stage_look.specs.declared.look.Look.{Look}
use Rattle.step_starts.specs.stage_look.specs.Lookup.{LookFits}
use Rattle.step_starts.specs.call_stages.specs.View.{Core}
use Rattle.step_starts.specs.call_stages.specs.Fits.{IsCore}
use Rattle.step_starts.specs.call_stages.specs.declared.stages.ActiveCall.{ActiveCall}
use Rattle.step_starts.specs.call_stages.specs.declared.stages.Absorbed.{Absorbed}
use Rattle.straight_looks.specs.declared.ends.Went.{Went}
use Rattle.straight_looks.specs.declared.ends.Went.TheVariants.{Plainly, Stands, Falls, Returned}
use Rattle.straight_looks.specs.Outcomes.{ended_so, went_so}
use Rattle.straight_looks.specs.Standing.{acts, looks}

-- it fits, however it is named
pub fits_as : (c d : Core) → c ≡ d → IsCore c → IsCore d
fits_as c d is fits = subst IsCore is fits

-- what it looks up is of the machine
pub look_fits : (own : Own) (call : Call) (steps : ℕ) (look : Look) (ks : List Capability) (c : Core)
    → c ≡ looks own call steps look ks → IsCore c → LookFits own.layout look
look_fits own call steps look ks c is fits = (fits_as c (looks own call steps look ks) is fits).active.stage

-- and so is what its act names
pub act_fits : (own : Own) (call : Call) (steps : ℕ) (made : Act) (ks : List Capability) (c : Core)
    → c ≡ acts own call steps made ks → IsCore c → ActFits own.layout made
act_fits own call steps made ks c is fits = (fits_as c (acts own call steps made ks) is fits).active.stage

-- a part that ends a straight call ends it
pub ended_went : (own own' : Own) (was now : Option ActiveCall) (before c : Core) (told : Absorbed) (w : Went)
    → ended_so own' was now c told w → went_so own own' was now before c told w
ended_went own own' was now before c told Plainly fell = elim fell [ ]
ended_went own own' was now before c told Stands at = at
ended_went own own' was now before c told (Falls found) fell = fell
ended_went own own' was now before c told (Returned r) left = left
