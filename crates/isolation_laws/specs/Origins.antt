-- Where the capabilities of legal traces come from.
use Rattle.std.specs.Prelude.{◌≡◌, ◌⊎◌, ◌∷◌, ◌++◌}
use Rattle.kernel_history.specs.{ℕ, true, Option, Some, None, Capability, Setting, IsSetting, Place, Free, Holds}
use Rattle.kernel_history.specs.{Quiescing, Step, state_after, state_before, events_of, IsLegal}
use Rattle.origin_laws.specs.origin_rules.specs.{origin_of, is_own, Gives, HasChain}
use Rattle.origin_laws.specs.{IsForeign, IsCovered}
use Rattle.origin_laws.specs.origin_rules.specs.{declared.chains.Step.Step as Way, Derived.Falls}
use Rattle.{kernel_history.specs.Trace.Trace, isolation_laws.specs.Carried.CarriesOut}

-- What a place shows: what it holds, or held until it was removed.
abbrev pub shown : Place → Option Capability
shown Free = None
shown (Holds k) = Some k
shown (Quiescing k) = Some k

-- The step carries out a call that puts capability k from a parent, to which one of the call's numbers leads in the state in which it is
-- decided: a copy has no right that its parent lacks; what is made, and a gate, have a parent with the right to use it.
pub record PutsBy (setup : Setting) (t : Trace) (e : Step) (k : Capability) : Type 0 where
  pub done : CarriesOut t e
  pub way : Way
  pub parent : Capability
  pub gives : Gives (state_before setup t e) e.core done.call way parent k
  pub falls : Falls way parent k

-- What a place shows after the step it showed before, or the step has put it so: of each capability that cores can name.
abbrev pub PutsFall : Setting → Trace → Step → Type 0
PutsFall setup t e = (f i : ℕ) (k : Capability) → shown ((state_after setup (e ∷ t)).place f i) ≡ Some k → is_own k.kind ≡ true
    → (shown ((state_after setup t).place f i) ≡ Some k) ⊎ PutsBy setup t e k

abbrev pub StepsPutFalling : Type 0
StepsPutFalling = (setup : Setting) → IsSetting setup → (t : Trace) (e : Step) → IsLegal setup (e ∷ t) → PutsFall setup t e

-- Each capability that a place holds after the trace has the chain of that place, by the decisions of the trace.
abbrev pub ChainsStand : Setting → Trace → Type 0
ChainsStand setup t = (f i : ℕ) (k : Capability) → (state_after setup t).place f i ≡ Holds k → is_own k.kind ≡ true
    → HasChain setup (origin_of setup (events_of t) f i).links (origin_of setup (events_of t) f i).start (events_of t) k

abbrev pub TracesHaveChains : Type 0
TracesHaveChains = (setup : Setting) → IsSetting setup → (t : Trace) → IsLegal setup t → ChainsStand setup t

-- Each capability that a place holds after the steps u, made after t, is foreign to core c, or is covered by one that is and that core c
-- has reached in these steps.
abbrev pub CoresAreConfinedIn : Setting → Trace → Trace → Type 0
CoresAreConfinedIn setup u t = (c f i : ℕ) (k : Capability) → (state_after setup (u ++ t)).place f i ≡ Holds k → is_own k.kind ≡ true
    → IsForeign (events_of t) c (events_of (u ++ t)) (origin_of setup (events_of (u ++ t)) f i).links
    ⊎ IsCovered setup (events_of t) c (events_of (u ++ t)) k

abbrev pub StretchesConfine : Type 0
StretchesConfine = (setup : Setting) → IsSetting setup → (u t : Trace) → IsLegal setup (u ++ t) → CoresAreConfinedIn setup u t
