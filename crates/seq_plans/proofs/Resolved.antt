-- What comes of a rule that goes by a plan is what comes of the plan's look-ups, and then of what is left of the rule.
use Rattle.call_plans.specs as low
use Rattle.seq_state.proofs.{◌≡◌, ℕ, ◌≤◌, Bool, refl, sym, ◌∙◌, subst, List, [], ◌∷◌, ◌++◌, length, Option, Some, Capability, State}
use Rattle.seq_state.proofs.{comp_of, Slot, Named, found, Want, Target as place, Rule, Name as name_rule, Vacant as vacant_rule}
use Rattle.seq_state.proofs.{Held as held_rule, Mapped as mapped_rule, Does, Change, Judged, Refused, Found, and_then, named, vacant, held}
use low.{declared.plans.Name.Name, declared.plans.Target.Target, declared.plans.Target.TheVariants.Nowhere}
use low.{declared.plans.Target.TheVariants.Free, declared.plans.Target.TheVariants.Held, declared.plans.Target.TheVariants.Own as own_page}
use Rattle.seq_plans.specs.Resolving.{named_by, paged_by, aimed_by, from_second, from_third, from_fourth, Comes, ResolvedByPlan}
use Rattle.seq_plans.proofs.ByPlan.{SameEarlier, wants_same, place_same, earlier_0, earlier_1, earlier_2, earlier_3, too_long}
use Rattle.{seq_state.proofs.mapped, seq_state.proofs.outcome, seq_plans.specs.names_in, seq_plans.specs.nothing, seq_plans.specs.rest_by}
use Rattle.{seq_plans.specs.resolved, seq_state.specs.kernel_rules.specs.Access.not_found, seq_plans.specs.declared.walking.Looked.Looked}
use low.{own_pages, OnlyDoes, GoesOn, want_of, place_of_spot, declared.plans.Plan.Plan, GoesBy.GoesTo}

module _ (s : State) (c : ℕ) where
  -- What comes of a rule by what is found after some names: what those have led to stands before the rest of the names.
  abbrev pub ComesOn : (List Named → List Named) → Judged Change → Rule → Judged Looked → Type 0
  ComesOn before o rule (Refused r) = o ≡ Refused r
  ComesOn before o rule (Found l) =
      (pad : List Named) × (names_in l ≡ before pad) × (o ≡ outcome s c (rest_by rule pad l.at l.held))
      × OnlyDoes (rest_by rule pad l.at l.held)

  -- ---- the target

  vacant_comes : (t : place) (rest : Slot → Rule) (pad : List Named) (l : Looked) (before : List Named → List Named)
      → names_in l ≡ before pad → ((at : Slot) → OnlyDoes (rest at)) → (j : Judged Slot)
      → ComesOn before (and_then j (λ at. outcome s c (rest at))) (vacant_rule t rest)
      (and_then j (λ at. Found (record l { at = Some at })))
  vacant_comes t rest pad l before names done (Refused r) = refl
  vacant_comes t rest pad l before names done (Found at) = (pad, names, refl, done at)

  held_comes : (t : place) (rest : Slot → Capability → Rule) (pad : List Named) (l : Looked) (before : List Named → List Named)
      → names_in l ≡ before pad → ((at : Slot) (k : Capability) → OnlyDoes (rest at k)) → (j : Judged (Slot × Capability))
      → ComesOn before (and_then j (λ p. outcome s c (rest p.0 p.1))) (held_rule t rest)
      (and_then j (λ p. Found (record l { at = Some p.0; held = Some p.1 })))
  held_comes t rest pad l before names done (Refused r) = refl
  held_comes t rest pad l before names done (Found p) = (pad, names, refl, done p.0 p.1)

  mapped_comes : (table v : ℕ) (rest : Capability → Rule) (pad : List Named) (l : Looked) (before : List Named → List Named)
      → names_in l ≡ before pad → ((k : Capability) → OnlyDoes (rest k)) → (j : Judged Capability)
      → ComesOn before (and_then j (λ k. outcome s c (rest k))) (mapped_rule table v rest)
      (and_then j (λ k. Found (record l { held = Some k })))
  mapped_comes table v rest pad l before names done (Refused r) = refl
  mapped_comes table v rest pad l before names done (Found k) = (pad, names, refl, done k)

  target_comes : (target : Target) (caps pad : List Named) (l : Looked) (rule : Rule) (before : List Named → List Named)
      → SameEarlier caps (names_in l) → names_in l ≡ before pad → GoesTo (own_pages s c) target caps rule
      → ComesOn before (outcome s c rule) rule (aimed_by s c target l)
  target_comes Nowhere caps pad l (Does causes value edits) before e names goes = (pad, names, refl, tt)
  target_comes Nowhere caps pad l (name_rule n want rest) before e names goes = absurd goes
  target_comes Nowhere caps pad l (vacant_rule t rest) before e names goes = absurd goes
  target_comes Nowhere caps pad l (held_rule t rest) before e names goes = absurd goes
  target_comes Nowhere caps pad l (mapped_rule table v rest) before e names goes = absurd goes
  target_comes (Free spot) caps pad l (vacant_rule t rest) before e names goes =
      let p : t ≡ place_of_spot (names_in l) spot = goes.0 ∙ place_same caps (names_in l) e spot in
      subst (λ (x : place). ComesOn before (and_then (vacant s c x) (λ at. outcome s c (rest at))) (vacant_rule t rest)
      (aimed_by s c (Free spot) l)) (sym p)
      (vacant_comes t rest pad l before names goes.1 (vacant s c (place_of_spot (names_in l) spot)))
  target_comes (Free spot) caps pad l (Does causes value edits) before e names goes = absurd goes
  target_comes (Free spot) caps pad l (name_rule n want rest) before e names goes = absurd goes
  target_comes (Free spot) caps pad l (held_rule t rest) before e names goes = absurd goes
  target_comes (Free spot) caps pad l (mapped_rule table v rest) before e names goes = absurd goes
  target_comes (Held spot) caps pad l (held_rule t rest) before e names goes =
      let p : t ≡ place_of_spot (names_in l) spot = goes.0 ∙ place_same caps (names_in l) e spot in
      subst (λ (x : place). ComesOn before (and_then (held s c x) (λ p. outcome s c (rest p.0 p.1))) (held_rule t rest)
      (aimed_by s c (Held spot) l)) (sym p)
      (held_comes t rest pad l before names goes.1 (held s c (place_of_spot (names_in l) spot)))
  target_comes (Held spot) caps pad l (Does causes value edits) before e names goes = absurd goes
  target_comes (Held spot) caps pad l (name_rule n want rest) before e names goes = absurd goes
  target_comes (Held spot) caps pad l (vacant_rule t rest) before e names goes = absurd goes
  target_comes (Held spot) caps pad l (mapped_rule table v rest) before e names goes = absurd goes
  target_comes (own_page v) caps pad l (mapped_rule table n rest) before e names goes =
      subst (λ (b : Bool). ComesOn before (outcome s c (mapped_rule table n rest)) (mapped_rule table n rest) (paged_by s c v l b))
      (sym goes.2)
      (subst (λ (j : Judged Capability). ComesOn before (and_then j (λ k. outcome s c (rest k))) (mapped_rule table n rest)
      (and_then (mapped s c (comp_of s c).pages v) (λ k. Found (record l { held = Some k }))))
      (sym (λ i. mapped s c (goes.0 i) (goes.1 i)))
      (mapped_comes table n rest pad l before names goes.3 (mapped s c (comp_of s c).pages v)))
  target_comes (own_page v) caps pad l (Does causes value edits) before e names goes =
      subst (λ (b : Bool). ComesOn before (outcome s c (Does causes value edits)) (Does causes value edits) (paged_by s c v l b))
      (sym goes) (pad, names, refl, tt)
  target_comes (own_page v) caps pad l (name_rule n want rest) before e names goes = absurd goes
  target_comes (own_page v) caps pad l (vacant_rule t rest) before e names goes = absurd goes
  target_comes (own_page v) caps pad l (held_rule t rest) before e names goes = absurd goes

  -- ---- one name

  longer : (n : ℕ) (want : Want) (rest : Named → Rule) (before : List Named → List Named) (k : Capability) (j : Judged Looked)
      → ComesOn (λ pad. before (found k ∷ pad)) (outcome s c (rest (found k))) (rest (found k)) j
      → ComesOn before (outcome s c (rest (found k))) (name_rule n want rest) j
  longer n want rest before k (Refused r) h = h
  longer n want rest before k (Found l) h = (found k ∷ h.0, h.1, h.2, h.3)

  named_comes : (n : ℕ) (want : Want) (rest : Named → Rule) (before : List Named → List Named) (f : Option Capability → Judged Looked)
      (j : Judged Capability)
      → ((k : Capability) → ComesOn (λ pad. before (found k ∷ pad)) (outcome s c (rest (found k))) (rest (found k)) (f (Some k)))
      → ComesOn before (and_then j (λ k. outcome s c (rest (found k)))) (name_rule n want rest)
      (and_then (and_then j (λ k. Found (Some k))) f)
  named_comes n want rest before f (Refused r) after = refl
  named_comes n want rest before f (Found k) after = longer n want rest before k (f (Some k)) (after k)

  more : (target : Target) (x : Name) (ns : List Name) (caps : List Named) (l : Looked) (rule : Rule)
      (before : List Named → List Named) (f : Option Capability → Judged Looked)
      → SameEarlier caps (names_in l) → GoesOn (own_pages s c) (x ∷ ns) target caps rule
      → ((k : Capability) (next : Rule) → GoesOn (own_pages s c) ns target (caps ++ found k ∷ []) next
      → ComesOn (λ pad. before (found k ∷ pad)) (outcome s c next) next (f (Some k)))
      → ComesOn before (outcome s c rule) rule (and_then (named_by s c l (Some x)) f)
  more target x ns caps l (name_rule n want rest) before f e goes after =
      let w : want ≡ want_of (names_in l) x = goes.1 ∙ wants_same caps (names_in l) e x in
      let same : named s c n want ≡ named s c x.number (want_of (names_in l) x) = λ i. named s c (goes.0 i) (w i) in
      subst (λ (j : Judged Capability). ComesOn before (and_then j (λ k. outcome s c (rest (found k)))) (name_rule n want rest)
      (and_then (named_by s c l (Some x)) f)) (sym same)
      (named_comes n want rest before f (named s c x.number (want_of (names_in l) x)) (λ k. after k (rest (found k)) (goes.2 (found k))))
  more target x ns caps l (vacant_rule t rest) before f e goes after = absurd goes
  more target x ns caps l _ before f e goes after = absurd goes

  settled : (rule : Rule) (j : Judged Looked) → ComesOn (λ pad. pad) (outcome s c rule) rule j → Comes s c rule j
  settled rule (Refused r) h = h
  settled rule (Found l) h =
      subst (λ (ks : List Named). (outcome s c rule ≡ outcome s c (rest_by rule ks l.at l.held)) × OnlyDoes (rest_by rule ks l.at l.held))
      (sym h.1) (h.2, h.3)

-- ---- all names

module _ (s : State) (c : ℕ) (plan : Plan) where
  abbrev with_names : List Name → Plan
  with_names names = record plan { names = names }

  abbrev l1 : Capability → Looked
  l1 a = record nothing { first = Some a }

  abbrev l2 : Capability → Capability → Looked
  l2 a b = record nothing { first = Some a; second = Some b }

  abbrev l3 : Capability → Capability → Capability → Looked
  l3 a b d = record nothing { first = Some a; second = Some b; third = Some d }

  abbrev l4 : Capability → Capability → Capability → Capability → Looked
  l4 a b d e = record nothing { first = Some a; second = Some b; third = Some d; fourth = Some e }

  abbrev second_of : List Name → Option Capability → Judged Looked
  second_of names k = from_second s c (with_names names) (record nothing { first = k })

  abbrev third_of : List Name → Looked → Option Capability → Judged Looked
  third_of names l k = from_third s c (with_names names) (record l { second = k })

  abbrev fourth_of : List Name → Looked → Option Capability → Judged Looked
  fourth_of names l k = from_fourth s c (with_names names) (record l { third = k })

  abbrev last_of : Looked → Option Capability → Judged Looked
  last_of l k = aimed_by s c plan.target (record l { fourth = k })

  by_names : (names : List Name) → length names ≤ 4 → (rule : Rule) → GoesOn (own_pages s c) names plan.target [] rule
      → ComesOn s c (λ pad. pad) (outcome s c rule) rule (resolved s c (with_names names))
  by_names [] few rule goes = target_comes s c plan.target [] (names_in nothing) nothing rule (λ pad. pad) earlier_0 refl goes
  by_names (x ∷ []) few rule goes =
      more s c plan.target x [] [] nothing rule (λ pad. pad) (second_of (x ∷ [])) earlier_0 goes
      (λ a next on.
      target_comes s c plan.target (found a ∷ []) (not_found ∷ not_found ∷ not_found ∷ []) (l1 a) next (λ pad. found a ∷ pad)
      (earlier_1 (found a)) refl on)
  by_names (x ∷ y ∷ []) few rule goes =
      more s c plan.target x (y ∷ []) [] nothing rule (λ pad. pad) (second_of (x ∷ y ∷ [])) earlier_0 goes
      (λ a next on. more s c plan.target y [] (found a ∷ []) (l1 a) next (λ pad. found a ∷ pad) (third_of (x ∷ y ∷ []) (l1 a))
      (earlier_1 (found a)) on
      (λ b next on.
      target_comes s c plan.target (found a ∷ found b ∷ []) (not_found ∷ not_found ∷ []) (l2 a b) next (λ pad. found a ∷ found b ∷ pad)
      (earlier_2 (found a) (found b)) refl on))
  by_names (x ∷ y ∷ z ∷ []) few rule goes =
      more s c plan.target x (y ∷ z ∷ []) [] nothing rule (λ pad. pad) (second_of (x ∷ y ∷ z ∷ [])) earlier_0 goes
      (λ a next on. more s c plan.target y (z ∷ []) (found a ∷ []) (l1 a) next (λ pad. found a ∷ pad) (third_of (x ∷ y ∷ z ∷ []) (l1 a))
      (earlier_1 (found a)) on
      (λ b next on. more s c plan.target z [] (found a ∷ found b ∷ []) (l2 a b) next (λ pad. found a ∷ found b ∷ pad)
      (fourth_of (x ∷ y ∷ z ∷ []) (l2 a b)) (earlier_2 (found a) (found b)) on
      (λ d next on.
      target_comes s c plan.target (found a ∷ found b ∷ found d ∷ []) (not_found ∷ []) (l3 a b d) next
      (λ pad. found a ∷ found b ∷ found d ∷ pad) (earlier_3 (found a) (found b) (found d)) refl on)))
  by_names (x ∷ y ∷ z ∷ v ∷ []) few rule goes =
      more s c plan.target x (y ∷ z ∷ v ∷ []) [] nothing rule (λ pad. pad) (second_of (x ∷ y ∷ z ∷ v ∷ [])) earlier_0 goes
      (λ a next on. more s c plan.target y (z ∷ v ∷ []) (found a ∷ []) (l1 a) next (λ pad. found a ∷ pad)
      (third_of (x ∷ y ∷ z ∷ v ∷ []) (l1 a)) (earlier_1 (found a)) on
      (λ b next on. more s c plan.target z (v ∷ []) (found a ∷ found b ∷ []) (l2 a b) next (λ pad. found a ∷ found b ∷ pad)
      (fourth_of (x ∷ y ∷ z ∷ v ∷ []) (l2 a b)) (earlier_2 (found a) (found b)) on
      (λ d next on. more s c plan.target v [] (found a ∷ found b ∷ found d ∷ []) (l3 a b d) next
      (λ pad. found a ∷ found b ∷ found d ∷ pad) (last_of (l3 a b d)) (earlier_3 (found a) (found b) (found d)) on
      (λ e next on.
      target_comes s c plan.target (found a ∷ found b ∷ found d ∷ found e ∷ []) [] (l4 a b d e) next
      (λ pad. found a ∷ found b ∷ found d ∷ found e ∷ pad) (λ i. refl) refl on))))
  by_names (x ∷ y ∷ z ∷ v ∷ u ∷ names) few rule goes = absurd (too_long x y z v u names few)

pub resolved_by_plan : ResolvedByPlan
resolved_by_plan s c plan rule few goes = settled s c rule (resolved s c plan) (by_names s c plan plan.names few rule goes)
