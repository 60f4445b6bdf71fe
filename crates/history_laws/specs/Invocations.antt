-- Which components calls through gates enter.
use Rattle.std.specs.Prelude.{◌≡◌, ◌<◌, ◌∷◌, ◌++◌}
use Rattle.kernel_history.specs.{ℕ, [], true, Some, Capability, Setting, Value, Dead, State, comp_in, to_use, only}
use Rattle.kernel_history.specs.{Found, named, is_live_in, Step, phase, after_enter, state_before, state_after}
use Rattle.state_laws.specs.spk_nums.specs.{declared.calls.Call.TheVariants.Call as call_gate, declared.kinds.Kind.TheVariants.Gate}
use Rattle.state_laws.specs.spk_nums.specs.{declared.replies.Reply.TheVariants.Ok}
use Rattle.kernel_history.specs.Trace.{Trace, Open}

-- The step decides a call through the gate of this name, which is carried out; the name leads to this gate at that moment.
pub record GoesThrough (setup : Setting) (t : Trace) (e : Step) (gate : Capability) : Type 0 where
  pub name : ℕ
  pub value : Value
  pub call : after_enter e.enters (phase t e.core) ≡ Open (call_gate name)
  pub decides : e.decides ≡ Some (Ok value)
  pub leads : named (state_before setup t e) e.core name (to_use (only Gate)) ≡ Found gate

-- The liveness number of the component to which a gate leads.
abbrev pub number_through : State → Capability → ℕ
number_through s gate = (comp_in (s.frame gate.frame)).number

-- The component lives at that moment, in the gate's epoch.
abbrev pub EntersTheLiving : Setting → Trace → Step → Type 0
EntersTheLiving setup t e = (gate : Capability) → GoesThrough setup t e gate
    → is_live_in ((state_before setup t e).number (number_through (state_before setup t e) gate)) gate.arg ≡ true

-- A component that was killed before is not entered: where its number was dead after an epoch, the gate is of a later one.
abbrev pub EntersNoneKilled : Setting → Trace → Trace → Type 0
EntersNoneKilled setup [] t = Unit {0}
EntersNoneKilled setup (e ∷ u) t = (gate : Capability) → GoesThrough setup (u ++ t) e gate → (epoch : ℕ)
    → (state_after setup t).number (number_through (state_before setup (u ++ t) e) gate) ≡ Dead epoch → epoch < gate.arg
