-- The frames to which a call's names have led are in the call's footprint.
use Rattle.kernel_history.proofs.{◌≡◌, ℕ, true, ◌||◌, ◌==◌, List, [], ◌∷◌, ◌++◌, map, Some, None, sym, ◌∙◌, ap, subst, flat_map, Capability}
use Rattle.kernel_history.proofs.{Call, State, Want, Named, found, named_by, frame_names, Rule, Vacant as vacant_rule, Does, Found, named}
use Rattle.kernel_history.proofs.{rule_of, wide_ways, target_of, frames_named, frame_at_slot, frame_argument, frames_own, footprint_frames}
use Rattle.call_plans.specs.{at_place, plan_for, OwnPages, own_pages, GoesOn, Leads, LeadsIn}
use Rattle.kernel_history.specs.kernel_rules.specs.{Name as name_rule, Held as held_rule, Mapped as mapped_rule, name_of}
use Rattle.std.proofs.{lemmas.List.Folds.list_any-append, Math.Bool.or-true}
use Rattle.kernel_history.specs.Footprint.{frame_of_name, frames_about}
use Rattle.call_plans.specs.{declared.plans.Nth.Nth, declared.plans.Nth.TheVariants.First, declared.plans.Nth.TheVariants.Second}
use Rattle.call_plans.specs.{declared.plans.Nth.TheVariants.Third, declared.plans.Nth.TheVariants.Fourth, declared.plans.Name.Name}
use Rattle.plan_ways.specs.Laws.{FoundAreNamed, FoundAreInFootprint}
use Rattle.{kernel_history.proofs.is_one_of, call_plans.specs.declared.plans.Target.Target, call_plans.proofs.CallsGoBy.calls_go}

pub one_left : (f : ℕ) (xs ys : List ℕ) → is_one_of f xs ≡ true → is_one_of f (xs ++ ys) ≡ true
one_left f xs ys h = list_any-append (λ m. m == f) xs ys ∙ ap (λ b. b || is_one_of f ys) h

pub one_right : (f : ℕ) (xs ys : List ℕ) → is_one_of f ys ≡ true → is_one_of f (xs ++ ys) ≡ true
one_right f xs ys h = list_any-append (λ m. m == f) xs ys ∙ ap (λ b. is_one_of f xs || b) h ∙ or-true (is_one_of f xs)

-- What a name of the rule leads to, and what the names after it lead to.
by_first : (s : State) (c n : ℕ) (wanted : Want) (rest : Named → Rule) (k : Capability) (f : ℕ)
    → named s c n wanted ≡ Found k
    → is_one_of f (named_by k.kind k.frame) ≡ true → is_one_of f (frames_named s c (name_rule n wanted rest)) ≡ true
by_first s c n wanted rest k f is h =
    one_left f (frame_of_name (named s c n wanted)) (frames_named s c (rest (name_of (named s c n wanted))))
    (subst (λ x. is_one_of f (frame_of_name x) ≡ true) (sym is) h)

by_later : (s : State) (c n : ℕ) (wanted : Want) (rest : Named → Rule) (k : Capability) (f : ℕ)
    → named s c n wanted ≡ Found k
    → is_one_of f (frames_named s c (rest (found k))) ≡ true → is_one_of f (frames_named s c (name_rule n wanted rest)) ≡ true
by_later s c n wanted rest k f is h =
    one_right f (frame_of_name (named s c n wanted)) (frames_named s c (rest (name_of (named s c n wanted))))
    (subst (λ x. is_one_of f (frames_named s c (rest (name_of x))) ≡ true) (sym is) h)

none_some : {A : Type 0} (x : A) → None ≡ Some x → ⊥
none_some x h = cc

some_same : (x y : Capability) → Some x ≡ Some y → x ≡ y
some_same x y h = cc

-- What a name leads to is the first, or one of the later.
by_place : (s : State) (c n : ℕ) (wanted : Want) (rest : Named → Rule) (j k : Capability) (f : ℕ)
    (ks : List Capability) (at : Nth)
    → named s c n wanted ≡ Found j
    → is_one_of f (named_by k.kind k.frame) ≡ true
    → ((at : Nth) → at_place ks at ≡ Some k → is_one_of f (frames_named s c (rest (found j))) ≡ true)
    → at_place (j ∷ ks) at ≡ Some k → is_one_of f (frames_named s c (name_rule n wanted rest)) ≡ true
by_place s c n wanted rest j k f ks First leads names_it later is =
    by_first s c n wanted rest j f leads
    (subst (λ (q : Capability). is_one_of f (named_by q.kind q.frame) ≡ true) (sym (some_same j k is)) names_it)
by_place s c n wanted rest j k f ks Second leads names_it later is = by_later s c n wanted rest j f leads (later First is)
by_place s c n wanted rest j k f ks Third leads names_it later is = by_later s c n wanted rest j f leads (later Second is)
by_place s c n wanted rest j k f ks Fourth leads names_it later is = by_later s c n wanted rest j f leads (later Third is)

-- The names of a rule are read one by one.
module _ (s : State) (c : ℕ) (pages : OwnPages) (target : Target) (k : Capability) (f : ℕ)
    (names_it : is_one_of f (named_by k.kind k.frame) ≡ true) where
  found_named : (names : List Name) (caps : List Named) (rule : Rule) (ks : List Capability) (at : Nth)
      → GoesOn pages names target caps rule → Leads (LeadsIn s c) names caps ks
      → at_place ks at ≡ Some k → is_one_of f (frames_named s c rule) ≡ true
  found_named names caps rule [] First goes leads is = absurd (none_some k is)
  found_named names caps rule [] Second goes leads is = absurd (none_some k is)
  found_named names caps rule [] Third goes leads is = absurd (none_some k is)
  found_named names caps rule [] Fourth goes leads is = absurd (none_some k is)
  found_named [] caps rule (j ∷ ks) at goes leads is = absurd leads
  found_named (name ∷ names) caps (name_rule n wanted rest) (j ∷ ks) at goes leads is =
      by_place s c n wanted rest j k f ks at
      (ap (λ m. named s c m wanted) goes.0 ∙ ap (named s c name.number) goes.1 ∙ leads.0) names_it
      (λ at is. found_named names (caps ++ found j ∷ []) (rest (found j)) ks at (goes.2 (found j)) leads.1 is) is
  found_named (name ∷ names) caps (vacant_rule t rest) (j ∷ ks) at goes leads is = absurd goes
  found_named (name ∷ names) caps (held_rule t rest) (j ∷ ks) at goes leads is = absurd goes
  found_named (name ∷ names) caps (mapped_rule t v rest) (j ∷ ks) at goes leads is = absurd goes
  found_named (name ∷ names) caps (Does causes value edits) (j ∷ ks) at goes leads is = absurd goes

pub named_footprint : FoundAreNamed
named_footprint s c pages plan rule ks goes leads at k is f names_it =
    found_named s c pages plan.target k f names_it plan.names [] rule ks at goes leads is

-- A frame that the call is about is in its footprint.
pub footprint_about : (s : State) (c : ℕ) (call : Call) (f : ℕ)
    → is_one_of f (frames_about s c call) ≡ true → is_one_of f (footprint_frames s c call) ≡ true
footprint_about s c call f h =
    one_right f (frames_own s c) _
    (one_right f (map (λ at. at.node) (wide_ways s c (rule_of s c call))) _
    (one_left f (frames_about s c call) (flat_map (λ g. frame_names (s.frame g)) (frames_about s c call)) h))

-- So is one to which a name of the call has led.
pub footprint_found : (s : State) (c : ℕ) (call : Call) (ks : List Capability) → Leads (LeadsIn s c) (plan_for call).names [] ks
    → (at : Nth) (k : Capability) → at_place ks at ≡ Some k → (f : ℕ) → is_one_of f (named_by k.kind k.frame) ≡ true
    → is_one_of f (footprint_frames s c call) ≡ true
footprint_found s c call ks leads at k is f names_it =
    footprint_about s c call f
    (one_left f (frames_named s c (rule_of s c call)) (frame_at_slot s (target_of s c (rule_of s c call)) ++ frame_argument call)
    (named_footprint s c (own_pages s c) (plan_for call) (rule_of s c call) ks (calls_go s c call) leads at k is f names_it))

pub found_footprint : FoundAreInFootprint
found_footprint s c call ks leads at k is f names_it = record {
  frame = footprint_found s c call ks leads at k is f names_it;
  count = λ d. footprint_found s c call ks leads at k is f names_it;
}
