-- What the plan of a call asks first, and what is looked up next of one or two names, by how many have led to capabilities.
use Rattle.step_starts.specs.act_states.specs.{◌≡◌, length, List, [], ◌∷◌, refl, Capability, Call, asks_life, plan_for, Name, want_of}
use Rattle.step_starts.specs.act_states.specs.{names_after, next_in, with_found, NextName}
use Rattle.step_starts.specs.call_plans.specs.{declared.plans.Target.Target, After.next_target}
use Rattle.step_starts.specs.call_plans.proofs.Lives.{lives}
use Rattle.std.proofs.Common.{arith}

pub living : (call : Call) → (plan_for call).living ≡ asks_life call
living = lives

pub none_next : (ks : List Capability) (target : Target)
    → next_target (with_found [] ks) target ≡ next_in (with_found [] ks) (names_after [] ks) target
none_next [] target = refl
none_next (k ∷ ks) target = refl

pub first_next : (name : Name) (names : List Name) (ks : List Capability) (target : Target) → length ks ≡ 0
    → NextName name.number (want_of (with_found [] ks) name) ≡ next_in (with_found [] ks) (names_after (name ∷ names) ks) target
first_next name names [] target zero = refl
first_next name names (k ∷ ks) target zero = absurd (omega arith)

pub one_next : (name : Name) (ks : List Capability) (target : Target) → (length ks ≡ 0 → ⊥)
    → next_target (with_found [] ks) target ≡ next_in (with_found [] ks) (names_after (name ∷ []) ks) target
one_next name [] target some = absurd (some refl)
one_next name (k ∷ []) target some = refl
one_next name (k ∷ j ∷ ks) target some = refl

pub second_next : (a b : Name) (ks : List Capability) (target : Target) → length ks ≡ 1
    → NextName b.number (want_of (with_found [] ks) b) ≡ next_in (with_found [] ks) (names_after (a ∷ b ∷ []) ks) target
second_next a b [] target one = absurd (omega arith)
second_next a b (k ∷ []) target one = refl
second_next a b (k ∷ j ∷ ks) target one = absurd (omega arith)

pub two_next : (a b : Name) (ks : List Capability) (target : Target) → (length ks ≡ 0 → ⊥) → (length ks ≡ 1 → ⊥)
    → next_target (with_found [] ks) target ≡ next_in (with_found [] ks) (names_after (a ∷ b ∷ []) ks) target
two_next a b [] target some more = absurd (some refl)
two_next a b (k ∷ []) target some more = absurd (more refl)
two_next a b (k ∷ j ∷ []) target some more = refl
two_next a b (k ∷ j ∷ i ∷ ks) target some more = refl
