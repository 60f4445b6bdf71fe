-- What look-ups end in, call by call: the causes that refuse a target, the act that begins at one, and what a look answers.
use Rattle.comp_invariant.specs as low
use low.act_states.proofs.{◌≡◌, ℕ, leb as nat_le, ltb as nat_lt, ◌&&◌, Bool, true, false, if◌then◌else◌, IsTrue, List, [], ◌∷◌, Some, None}
use low.act_states.proofs.{refl, sym, ◌∙◌, ap, subst, leb-false, lt-ltb, Capability, Call, Copy, Remove, Shrink, Unmap, Retype, Tick, Gate}
use low.act_states.proofs.{Kill, Grow, Flush, Map, Touch, Ret, Transfer, Delegate, Test, Switch, Make, State, Thing, Holds, PlaceOf, Slot}
use low.act_states.proofs.{Named, found, place_at, held_in, reached, InRoot, Refused, IsFoundAnd, Does, outcome, and_then, or_refuse}
use low.act_states.proofs.{unless, not_vacant, named, vacant, change_of, changed, counted, begins_in, some_inj, First, Second, Name, Spot}
use low.act_states.proofs.{Nowhere, plan_for, names_after, act_begun, Part, Replenish, Target as place, Found as Found_it, does, FrameKind}
use low.kernel_rules.specs.{own, to_look, Look as look_call, Cap, capability, any, held}
use low.act_states.specs.{removes_by, Make as make_call, removes_at}
use low.call_plans.specs.{head, plan_of_make}
use low.call_plans.specs.declared.plans.Target.TheVariants.{Free, Held, Own as own_page}
use low.{act_states.proofs.Reply, act_states.specs.declared.own.Own.Own, spk_nums.specs.declared.calls.Call.TheVariants.Call as call_gate}
use low.{kernel_rules.specs.CapabilityCalls.look_rule, stage_look.specs.declared.look.Found.Found}

-- A target is refused where it has no slot, and one that is to be free where it is held.
pub vacant_no_slot : (s : State) (c : ℕ) (target : place) → reached s c target ≡ None → vacant s c target ≡ Refused Reply.NoSlot
vacant_no_slot s c target none =
    ap (λ o. and_then (or_refuse o Reply.NoSlot) λ at. unless (not_vacant s c (PlaceOf at.node at.index) (place_at s at)) at) none

pub vacant_occupied : (s : State) (c : ℕ) (target : place) (at : Slot) (i : Capability) → reached s c target ≡ Some at
    → place_at s at ≡ Holds i → vacant s c target ≡ Refused Reply.Occupied
vacant_occupied s c target at i is holds =
    ap (λ o. and_then (or_refuse o Reply.NoSlot) λ at. unless (not_vacant s c (PlaceOf at.node at.index) (place_at s at)) at) is
    ∙ ap (λ p. unless (not_vacant s c (PlaceOf at.node at.index) p) at) holds

pub held_no_slot : (s : State) (c : ℕ) (target : place) → reached s c target ≡ None → held s c target ≡ Refused Reply.NoSlot
held_no_slot s c target none =
    ap (λ o. and_then (or_refuse o Reply.NoSlot) λ at. and_then (or_refuse (held_in (place_at s at)) Reply.Empty) λ k. Found_it (at, k))
    none

pub held_empty : (s : State) (c : ℕ) (target : place) (at : Slot) → reached s c target ≡ Some at → held_in (place_at s at) ≡ None
    → held s c target ≡ Refused Reply.Empty
held_empty s c target at is empty =
    ap (λ o. and_then (or_refuse o Reply.NoSlot) λ at. and_then (or_refuse (held_in (place_at s at)) Reply.Empty) λ k. Found_it (at, k)) is
    ∙ ap (λ o. and_then (or_refuse o Reply.Empty) λ k. Found_it (at, k)) empty

-- An entry past its range.
pub past_entry : (i : ℕ) → nat_le i 63 ≡ false → IsTrue (nat_lt 63 i)
past_entry i past = lt-ltb 63 i (leb-false i 63 past)

pub past_entry_unreached : (s : State) (c : ℕ) (root : Named) (i : ℕ) → nat_le i 63 ≡ false → reached s c (InRoot root i) ≡ None
past_entry_unreached s c root i past = by root.found
  where
    slot : Slot
    slot = record { node = root.frame; index = i }

    by : (b : Bool) → (if b && nat_le i 63 then Some slot else None) ≡ None
    by true = ap (λ b. if b then Some slot else None) past
    by false = refl

-- The target of a call that makes an object.
pub make_target : (what : Make) (r u b : ℕ) → (plan_of_make what r u b).target ≡ Free (Spot.Under Second b)
make_target Make.Table r u b = refl
make_target _ r u b = refl

-- A call whose target is a page of its own has no names.
pub own_unnamed : (call : Call) (v : ℕ) → (plan_for call).target ≡ own_page v → (plan_for call).names ≡ []
own_unnamed (Retype r f FrameKind.Untyped) v is = absurd (cc)
own_unnamed (make_call what r f u b) v is = absurd (not_own (sym (make_target what r u b) ∙ is))
  where
    not_own : Free (Spot.Under Second b) ≡ own_page v → ⊥
    not_own h = cc
own_unnamed (Touch w) v is = refl
own_unnamed _ v is = absurd (cc)

-- A place that is to be free is somewhere.
pub free_somewhere : (spot : Spot) → Free spot ≡ Nowhere → ⊥
free_somewhere spot h = cc

-- What is looked up first is all that is looked up of one name.
pub none_after : (ks : List Capability) → names_after [] ks ≡ []
none_after [] = refl
none_after (k ∷ ks) = refl

pub one_left : (one name : Name) (rest : List Name) (ks : List Capability) → names_after (one ∷ []) ks ≡ name ∷ rest → ks ≡ []
one_left one name rest [] is = refl
one_left one name rest (k ∷ ks) is = absurd (not_none (sym (none_after ks) ∙ is))
  where
    not_none : [] ≡ name ∷ rest → ⊥
    not_none h = cc

pub first_same : (name : Name) (rest : List Name) (one : Name) → name ∷ rest ≡ one ∷ [] → name ≡ one
first_same name rest one is = some_inj name one (ap head is)

-- The removing act of a core's call with a target that is to be held.
pub record BeginsRemoval (own : Own) (call : Call) (ks : List Capability) : Type 0 where
  pub removes : removes_by call ≡ true
  pub act : (f : Found) → act_begun own call ks None (Some f) ≡ removes_at own.core (Some f)

pub begins_removal : (own : Own) (call : Call) (spot : Spot) → (plan_for call).target ≡ Held spot → (ks : List Capability)
    → BeginsRemoval own call ks
begins_removal own (look_call a) spot to ks = absurd (not_held to)
  where
    not_held : Nowhere ≡ Held spot → ⊥
    not_held h = cc
begins_removal own (Copy a u b rights) spot to ks = absurd (not_held to)
  where
    not_held : Free (Spot.Under Second b) ≡ Held spot → ⊥
    not_held h = cc
begins_removal own (Replenish x m) spot to ks = absurd (not_held to)
  where
    not_held : Nowhere ≡ Held spot → ⊥
    not_held h = cc
begins_removal own (Part r f n u b) spot to ks = absurd (not_held to)
  where
    not_held : Free (Spot.Under Second b) ≡ Held spot → ⊥
    not_held h = cc
begins_removal own (Grow u i l) spot to ks = absurd (not_held to)
  where
    not_held : Free (Spot.InRoot First i) ≡ Held spot → ⊥
    not_held h = cc
begins_removal own (Remove u b) spot to ks = record { removes = refl; act = λ f. refl }
begins_removal own (Shrink u i) spot to ks = record { removes = refl; act = λ f. refl }
begins_removal own (Map p v r f w) spot to ks = absurd (not_held to)
  where
    not_held : Free (Spot.Under First v) ≡ Held spot → ⊥
    not_held h = cc
begins_removal own (Unmap p v) spot to ks = record { removes = refl; act = λ f. refl }
begins_removal own (Retype r f FrameKind.Untyped) spot to ks = absurd (not_target to)
  where
    not_target : Nowhere ≡ Held spot → ⊥
    not_target h = cc
begins_removal own (Retype r f FrameKind.User) spot to ks = absurd (not_target to)
  where
    not_target : Nowhere ≡ Held spot → ⊥
    not_target h = cc
begins_removal own (Retype r f FrameKind.Kernel) spot to ks = absurd (not_target to)
  where
    not_target : Nowhere ≡ Held spot → ⊥
    not_target h = cc
begins_removal own (make_call what r f u b) spot to ks = absurd (not_held (sym (make_target what r u b) ∙ to))
  where
    not_held : Free (Spot.Under Second b) ≡ Held spot → ⊥
    not_held h = cc
begins_removal own (Touch v) spot to ks = absurd (not_held to)
  where
    not_held : own_page v ≡ Held spot → ⊥
    not_held h = cc
begins_removal own Flush spot to ks = absurd (not_held to)
  where
    not_held : Nowhere ≡ Held spot → ⊥
    not_held h = cc
begins_removal own (Tick n) spot to ks = absurd (not_held to)
  where
    not_held : Nowhere ≡ Held spot → ⊥
    not_held h = cc
begins_removal own (Gate k u b) spot to ks = absurd (not_held to)
  where
    not_held : Free (Spot.Under Second b) ≡ Held spot → ⊥
    not_held h = cc
begins_removal own (Kill n) spot to ks = absurd (not_held to)
  where
    not_held : Nowhere ≡ Held spot → ⊥
    not_held h = cc
begins_removal own (call_gate n) spot to ks = absurd (not_held to)
  where
    not_held : Nowhere ≡ Held spot → ⊥
    not_held h = cc
begins_removal own Ret spot to ks = absurd (not_held to)
  where
    not_held : Nowhere ≡ Held spot → ⊥
    not_held h = cc
begins_removal own (Transfer x y m) spot to ks = absurd (not_held to)
  where
    not_held : Nowhere ≡ Held spot → ⊥
    not_held h = cc
begins_removal own (Delegate x y m) spot to ks = absurd (not_held to)
  where
    not_held : Nowhere ≡ Held spot → ⊥
    not_held h = cc
begins_removal own (Test x y) spot to ks = absurd (not_held to)
  where
    not_held : Nowhere ≡ Held spot → ⊥
    not_held h = cc
begins_removal own (Switch x y) spot to ks = absurd (not_held to)
  where
    not_held : Nowhere ≡ Held spot → ⊥
    not_held h = cc

-- A look that has found its capability answers it.
module _ (s : State) (c a : ℕ) (k : Capability) (is : named s c a (to_look any) ≡ Found_it k) where
  pub look_change : change_of s c (look_call a) ≡ Found_it (does c s (Cap k) [])
  look_change = ap (λ x. and_then x λ k. outcome s c (Does [] (Cap (capability (found k))) [])) is

  pub look_state : counted (changed s (change_of s c (look_call a))) c ≡ counted s c
  look_state = ap (λ x. counted (changed s x) c) look_change

  pub look_begins : (x : Thing) → begins_in (change_of s c (look_call a)) x ≡ false
  look_begins x = ap (λ y. begins_in y x) look_change

  pub look_answers : IsFoundAnd (outcome s c (look_rule a)) (λ change. change.value ≡ Cap k)
  look_answers = subst (λ x. IsFoundAnd x (λ change. change.value ≡ Cap k)) (sym look_change) refl
