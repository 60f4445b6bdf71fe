-- Where a call stands whose names are looked up straight.
use Rattle.std.specs.Prelude.{◌≡◌, ◌<◌, ◌+◌, ℕ, List, Option}
use Rattle.spk_nums.specs.Capability.{Capability}
use Rattle.spk_nums.specs.declared.calls.Call.{Call}
use Rattle.step_looks.specs.act_states.specs.OwnChanges.{own_changed}
use Rattle.step_looks.specs.act_states.specs.declared.own.Own.{Own}
use Rattle.step_looks.specs.call_stages.specs.Cores.{own_decided}
use Rattle.step_looks.specs.call_stages.specs.Fits.{IsCore}
use Rattle.step_looks.specs.call_stages.specs.View.{Core}
use Rattle.step_looks.specs.call_stages.specs.declared.stages.Absorbed.{Absorbed}
use Rattle.step_looks.specs.call_stages.specs.declared.stages.ActiveCall.{ActiveCall}
use Rattle.step_looks.specs.call_stages.specs.declared.stages.Told.{Told}
use Rattle.straight_acts.specs.straight_looks.specs.Outcomes.{Fell}
use Rattle.straight_acts.specs.straight_looks.specs.Standing.{onward}
use Rattle.call_steps.specs.declared.names.Further.{Further}
use Rattle.call_steps.specs.declared.names.Further.TheVariants as further
use Rattle.call_steps.specs.declared.names.Naming.{Naming}
use Rattle.call_steps.specs.declared.names.Naming.TheVariants as naming

-- a core is the one after one step more of a call that goes on to what comes next of it, where its names have led to these, and fits
pub record IsOnward (own : Own) (call : Call) (steps : ℕ) (found : List Capability) (c : Core) : Type 0 where
  pub core : c ≡ onward own call steps found
  pub fits : IsCore c

-- and its steps are few
pub record IsNamed (own : Own) (call : Call) (steps : ℕ) (found : List Capability) (c : Core) : Type 0 where
  pub few : steps < 900
  pub on : IsOnward own call steps found c

-- after one name more, where the names have led to these now: it has led to a capability; there was none; or the general machine goes on
abbrev pub further_so : Own → Call → ℕ → List Capability → Option ActiveCall → Core → Absorbed → Further → Type 0
further_so own call steps found now c told further.Finds = IsOnward own call (steps + 2) found c
further_so own call steps found now c told further.Ends = IsOnward own call steps found c
further_so own call steps found now c told (further.Falls word) = Fell own now c told word

-- after the names of a call
abbrev pub named_so : Own → Call → List Capability → Option ActiveCall → Core → Absorbed → Naming → Type 0
named_so own call found now c told (naming.Stands steps) = IsNamed own call steps found c
named_so own call found now c told (naming.Falls word) = Fell own now c told word

-- what a core has of its own after its call has told this of a step
abbrev pub own_told : Own → Told → Own
own_told own Told.Going = own
own_told own (Told.Decided r) = own_decided own r
own_told own (Told.Returned r stamp) = record own { exit = stamp }
own_told own (Told.Changed r change) = own_decided (own_changed own change) r
