-- What comes next of a call that goes by its plan, where its names have led to some capabilities.
use Rattle.step_ways.proofs.{◌≡◌, ℕ, true, IsTrue, List, [], ◌∷◌, Option, Some, None, refl, sym, ◌∙◌, ap, subst, Capability, Setting}
use Rattle.step_ways.proofs.{IsSetting, Kind, Call, State, Slot, Named, usable, Relies, Trace, Open, phase, state_after, IsLegal, Name}
use Rattle.step_ways.proofs.{Spot, Plan, at_place, names_after, Leads, NextName, next_of, IsSomeAnd, Want}
use Rattle.plan_ways.specs.call_plans.specs.{wants, with_found, want_of, earlier, next_in, next_target, WantsRoot}
use Rattle.plan_ways.specs.call_plans.specs.{declared.plans.Target.Target, Rooted.root_of, Rooted.RootIs}
use Rattle.plan_ways.specs.call_plans.proofs.Roots.{earlier_is, Led, nth_led}
use Rattle.{plan_ways.specs.kernel_rules.specs.Access.root, step_ways.specs.found_stays.proofs.Stays.names_node}
use Rattle.{step_ways.specs.trace_laws.proofs.Stays.relies_usable}

-- The core may use this capability, of a wanted kind, at some slot.
pub record MayUse (s : State) (c n : ℕ) (wanted : Want) (k : Capability) : Type 0 where
  pub at : Slot
  pub usable : usable s c at ≡ Some k
  pub kind : wanted.kinds k.kind ≡ true

-- A root that is wanted is a node.
root_names : (k : Kind) → IsTrue (root k) → IsTrue (names_node k)
root_names Kind.Table is = refl
root_names Kind.Pages is = refl
root_names k is = absurd (cc)

-- The root of a spot, where all names are found, is relied on.
abbrev pub SpotRelies : State → ℕ → List Capability → Spot → Type 0
SpotRelies s c ks spot =
    Relies s c (earlier (with_found [] ks) (root_of spot)).frame × ((earlier (with_found [] ks) (root_of spot)).found ≡ true)

module _ (setup : Setting) (setting : IsSetting setup) (t : Trace) (legal : IsLegal setup t) (c : ℕ) (call : Call)
    (is_open : phase t c ≡ Open call) where
  spot_by : (plan : Plan) (ks : List Capability) (spot : Spot) (o : Option Name) → at_place plan.names (root_of spot) ≡ o
      → IsSomeAnd o (λ name. WantsRoot name.wanted)
      → Leads (MayUse (state_after setup t) c) plan.names [] ks → names_after plan.names ks ≡ []
      → SpotRelies (state_after setup t) c ks spot
  spot_by plan ks spot None is wants leads none = absurd wants
  spot_by plan ks spot (Some name) is wants leads none =
      let led : Led (MayUse (state_after setup t) c) name (at_place ks (root_of spot)) = nth_led (MayUse (state_after setup t) c)
      plan.names ks (root_of spot) name leads none is in
      let root_is = earlier_is ks (root_of spot) led.k led.is in (
        subst (Relies (state_after setup t) c) (sym (ap (λ (x : Named). x.frame) root_is))
            (relies_usable setup setting t legal c call is_open led.leads.at led.k
            (root_names led.k.kind (wants led.caps led.k.kind led.leads.kind)) led.leads.usable),
        ap (λ (x : Named). x.found) root_is,
      )

  pub spot_relies : (plan : Plan) (ks : List Capability) (spot : Spot) → RootIs plan.names spot
      → Leads (MayUse (state_after setup t) c) plan.names [] ks → names_after plan.names ks ≡ []
      → SpotRelies (state_after setup t) c ks spot
  spot_relies plan ks spot wants leads none = spot_by plan ks spot _ refl wants leads none

-- What is looked up next, by what is left of the names.
pub data Rest (plan : Plan) (ks : List Capability) : Type 0 where
  ANameLeft : (name : Name) (rest : List Name) → names_after plan.names ks ≡ name ∷ rest → Rest plan ks
  NoneLeft : names_after plan.names ks ≡ [] → Rest plan ks

pub rest_of : (plan : Plan) (ks : List Capability) → Rest plan ks
rest_of plan ks = by (names_after plan.names ks) refl
  where
    by : (names : List Name) → names_after plan.names ks ≡ names → Rest plan ks
    by [] is = NoneLeft is
    by (name ∷ names) is = ANameLeft name names is

pub next_name : (plan : Plan) (ks : List Capability) (name : Name) (rest : List Name) → names_after plan.names ks ≡ name ∷ rest
    → next_of plan ks ≡ NextName name.number (want_of (with_found [] ks) name)
next_name plan ks name rest is = ap (λ names. next_in (with_found [] ks) names plan.target) is

pub next_end : (plan : Plan) (ks : List Capability) (target : Target) → names_after plan.names ks ≡ [] → plan.target ≡ target
    → next_of plan ks ≡ next_target (with_found [] ks) target
next_end plan ks target is to = ap (λ names. next_in (with_found [] ks) names plan.target) is ∙ ap (next_target (with_found [] ks)) to
