-- The causes against going on as a thread are those of its rule.
use Rattle.seq_lookups.specs.seq_state.specs.{◌≡◌, ℕ, refl, List, Option, Some, None, Capability, State, Slot, Named, switch_to}
use Rattle.{seq_plans.specs.rest_by, seq_plans.specs.causes_of, seq_plans.specs.AreFitCauses, seq_time.specs.Left.running_by}

pub switch_causes : (s : State) (c : ℕ) (h : Named) (q : ℕ) (e : Option ℕ) (ks : List Named) (at : Option Slot) (held : Option Capability)
    → running_by h e ≡ causes_of (rest_by (switch_to h q e) ks at held)
switch_causes s c h q None ks at held = refl
switch_causes s c h q (Some e) ks at held = refl

pub running_fit : (h : Named) (e : Option ℕ) → AreFitCauses (running_by h e)
running_fit h None = tt
running_fit h (Some e) = (tt, tt)
