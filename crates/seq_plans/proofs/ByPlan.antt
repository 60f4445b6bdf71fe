-- A rule that goes by a plan may be refused exactly where one of the plan's look-ups may be, or one of the causes that are left.
use Rattle.seq_state.specs.kernel_rules.proofs as low
use low.{◌≡◌, ◌⊎◌, inl, inr, ℕ, Bool, true, false, ◌&&◌, refl, sym, ◌∙◌, ap, subst, ltb as nat_lt, if◌then◌else◌, List, [], ◌∷◌, ◌++◌}
use low.{length, ◌≤◌, arith, Option, Some, None, IsFalse, true≢false, ltb-true, lt-leb, option_and_then, Capability, has_rights, Reply}
use low.{comp_of, Slot, Named, Want, Target as place, Under as under, root_at, place_at, held_in, usable, reached, own, Cause, Rule}
use low.{Name as name_rule, Vacant as vacant_rule, Held as held_rule, Mapped as mapped_rule, Does, Refused, Found, and_then, or_refuse}
use low.{unless, of_kind, named, held, mapped, IsFoundAnd, NameMay, VacantMay, HeldMay, MappedMay, OneMay, name_of, RuleMay}
use Rattle.seq_plans.specs.{named_of, names_in, nothing, rest_by, left_of, causes_of, Iff}
use Rattle.call_plans.specs.{own_pages, OnlyDoes, GoesOn, earlier, wants, want_of, place_of_spot}
use Rattle.seq_state.specs.kernel_rules.specs.{not_found, slot_of}
use Rattle.seq_state.specs.kernel_rules.specs.State.{State}
use Rattle.call_plans.specs.{declared.plans.Nth.Nth, declared.plans.Nth.TheVariants.First, declared.plans.Nth.TheVariants.Second}
use Rattle.call_plans.specs.{declared.plans.Nth.TheVariants.Third, declared.plans.Nth.TheVariants.Fourth, declared.plans.Wanted.Wanted}
use Rattle.call_plans.specs.{declared.plans.Wanted.TheVariants.Any, declared.plans.Wanted.TheVariants.Only}
use Rattle.call_plans.specs.{declared.plans.Wanted.TheVariants.Root, declared.plans.Wanted.TheVariants.LeafOf, declared.plans.Name.Name}
use Rattle.call_plans.specs.{declared.plans.Spot.Spot, declared.plans.Spot.TheVariants.Under, declared.plans.Spot.TheVariants.InRoot}
use Rattle.call_plans.specs.{declared.plans.Target.Target, declared.plans.Target.TheVariants.Nowhere}
use Rattle.call_plans.specs.{declared.plans.Target.TheVariants.Free, declared.plans.Target.TheVariants.Held}
use Rattle.call_plans.specs.{declared.plans.Target.TheVariants.Own as own_page, declared.plans.Plan.Plan, GoesBy.GoesTo}
use Rattle.seq_plans.specs.{declared.reaching.Reach.TheVariants.Own, declared.walking.Looked.Looked, Walks.before, Walks.if_wanted}
use Rattle.seq_plans.specs.{Walks.led, Walks.led_by, Walks.slot_by, Walks.held_by, Walks.looked, Refusals.RefusedByPlan}
use Rattle.seq_plans.specs.{Refusals.SomeNameMay, Refusals.NthMay, Refusals.TargetMay}
use Rattle.spk_nums.specs.declared.replies.Reply.TheVariants as reply

-- ---- exactly where

there_of : {A B : Type 0} → Iff A B → A → B
there_of e = e.there

same_iff : (A B : Type 0) → (A → B) → (B → A) → Iff A B
same_iff A B f g = record { there = f; back = g }

-- One more way in front of others.
in_front : (A A' X Y : Type 0) → Iff A A' → Iff X Y → Iff (A ⊎ X) (A' ⊎ Y)
in_front A A' X Y e h = record {
  there = λ x. elim x [ inl a ↦ inl (e.there a) | inr y ↦ inr (h.there y) ];
  back = λ x. elim x [ inl a ↦ inl (e.back a) | inr y ↦ inr (h.back y) ];
}

-- One that there is not.
none_in_front : (X Y : Type 0) → Iff X Y → Iff X (⊥ ⊎ Y)
none_in_front X Y h = record { there = λ x. inr (h.there x); back = λ x. elim x [ inl none ↦ absurd none | inr y ↦ h.back y ] }

regrouped : (X A B C D E O : Type 0) → Iff X (A ⊎ (B ⊎ (C ⊎ (D ⊎ (E ⊎ O))))) → Iff X ((A ⊎ (B ⊎ (C ⊎ (D ⊎ E)))) ⊎ O)
regrouped X A B C D E O h = record {
  there = λ x. elim (h.there x) [
    | inl a ↦ inl (inl a)
    | inr x1 ↦ elim x1 [
      | inl b ↦ inl (inr (inl b))
      | inr x2 ↦ elim x2 [
        | inl d ↦ inl (inr (inr (inl d)))
        | inr x3 ↦ elim x3 [
          | inl d ↦ inl (inr (inr (inr (inl d))))
          | inr x4 ↦ elim x4 [ inl d ↦ inl (inr (inr (inr (inr d)))) | inr o ↦ inr o ]
        ]
      ]
    ]
  ];
  back = λ x. h.back (elim x [
    | inr o ↦ inr (inr (inr (inr (inr o))))
    | inl x1 ↦ elim x1 [
      | inl a ↦ inl a
      | inr x2 ↦ elim x2 [
        | inl b ↦ inr (inl b)
        | inr x3 ↦ elim x3 [
          | inl d ↦ inr (inr (inl d))
          | inr x4 ↦ elim x4 [ inl d ↦ inr (inr (inr (inl d))) | inr e ↦ inr (inr (inr (inr (inl e)))) ]
        ]
      ]
    ]
  ]);
}

along : (A B : Type 0) → A ≡ B → Iff A B
along A B e = subst (λ (X : Type 0). Iff A X) e record { there = λ a. a; back = λ a. a }

-- ---- what a name leads to

wanted_same : (want : Want) (k : Capability) → name_of (of_kind want k) ≡ named_of (if_wanted want k)
wanted_same want k = by_tests (want.kinds k.kind) (has_rights k.rights want.needs)
  where
    by_tests : (a b : Bool)
        → name_of (if a then (if b then Found k else Refused reply.NoRight) else Refused reply.WrongCap)
        ≡ named_of (if a && b then Some k else None)
    by_tests true true = refl
    by_tests true false = refl
    by_tests false b = refl

led_same : (s : State) (c n : ℕ) (want : Want) → name_of (named s c n want) ≡ named_of (led Own s c n want)
led_same s c n want = by_slot (reached s c (own s c n))
  where
    by_cap : (o : Option Capability)
        → name_of (and_then (or_refuse o reply.Empty) (of_kind want)) ≡ named_of (option_and_then (if_wanted want) o)
    by_cap None = refl
    by_cap (Some k) = wanted_same want k

    by_slot : (o : Option Slot)
        → name_of (and_then (or_refuse o reply.NoSlot) λ at. and_then (or_refuse (usable s c at) reply.Empty) λ k. of_kind want k)
        ≡ named_of (option_and_then (λ at. option_and_then (if_wanted want) (usable s c at)) o)
    by_slot None = refl
    by_slot (Some at) = by_cap (usable s c at)

-- Two lists of what names have led to, the one with nothing after its end.
abbrev pub SameEarlier : List Named → List Named → Type 0
SameEarlier caps ks = (i : Nth) → earlier caps i ≡ earlier ks i

pub wants_same : (caps ks : List Named) → SameEarlier caps ks → (name : Name) → want_of caps name ≡ want_of ks name
wants_same caps ks e name = ap (λ kinds. record { kinds = kinds; needs = name.needs.0 }) (by_wanted name.wanted)
  where
    by_wanted : (w : Wanted) → wants caps w ≡ wants ks w
    by_wanted Any = refl
    by_wanted (Only kind) = refl
    by_wanted Root = refl
    by_wanted (LeafOf i) = ap Rattle.seq_state.specs.kernel_rules.specs.CapabilityCalls.leaf_for (e i)

pub place_same : (caps ks : List Named) → SameEarlier caps ks → (spot : Spot) → place_of_spot caps spot ≡ place_of_spot ks spot
place_same caps ks e (Under i n) = ap (λ k. under k n) (e i)
place_same caps ks e (InRoot i n) = ap (λ k. Rattle.seq_state.specs.kernel_rules.specs.Access.InRoot k n) (e i)

pub earlier_0 : SameEarlier [] (not_found ∷ not_found ∷ not_found ∷ not_found ∷ [])
earlier_0 First = refl
earlier_0 _ = refl

pub earlier_1 : (a : Named) → SameEarlier (a ∷ []) (a ∷ not_found ∷ not_found ∷ not_found ∷ [])
earlier_1 a First = refl
earlier_1 a _ = refl

pub earlier_2 : (a b : Named) → SameEarlier (a ∷ b ∷ []) (a ∷ b ∷ not_found ∷ not_found ∷ [])
earlier_2 a b First = refl
earlier_2 a b _ = refl

pub earlier_3 : (a b d : Named) → SameEarlier (a ∷ b ∷ d ∷ []) (a ∷ b ∷ d ∷ not_found ∷ [])
earlier_3 a b d First = refl
earlier_3 a b d _ = refl

-- ---- one name, and the target

module _ (s : State) (c : ℕ) (r : Reply) where
  name_part : (caps : List Named) (l : Looked) (name : Name) (n : ℕ) (want : Want) (rest : Named → Rule) (X : Type 0)
      → SameEarlier caps (names_in l) → n ≡ name.number → want ≡ want_of caps name
      → Iff (RuleMay s c (rest (named_of (led_by Own s c l (Some name)))) r) X
      → Iff (RuleMay s c (name_rule n want rest) r) (SomeNameMay s c l (Some name) r ⊎ X)
  name_part caps l name n want rest X e number wanted h =
      let w : want ≡ want_of (names_in l) name = wanted ∙ wants_same caps (names_in l) e name in
      let next : name_of (named s c n want) ≡ named_of (led_by Own s c l (Some name)) =
      (λ i. name_of (named s c (number i) (w i))) ∙ led_same s c name.number (want_of (names_in l) name) in
      in_front _ _ _ X (along _ _ (λ i. NameMay s c (number i) (w i) r))
      (subst (λ k. Iff (RuleMay s c (rest k) r) X) (sym next) h)

  only : (rule : Rule) → OnlyDoes rule → Iff (RuleMay s c rule r) (OneMay s c (causes_of rule) r)
  only (Does causes value edits) done = record { there = λ h. h; back = λ h. h }
  only (name_rule n want rest) done = absurd done
  only _ done = absurd done

  held_part : (target : place) (rest : Slot → Capability → Rule) (ks : List Named)
      → ((at : Slot) (k : Capability) → OnlyDoes (rest at k)) → (o : Option Slot)
      → Iff (IsFoundAnd {A = Slot × Capability} (and_then (or_refuse o reply.NoSlot) λ at.
      and_then (or_refuse (held_in (place_at s at)) reply.Empty) λ k. Found (at, k))
      (λ p. RuleMay s c (rest p.0 p.1) r))
      (OneMay s c (causes_of (rest_by (held_rule target rest) ks o (option_and_then (λ at. held_in (place_at s at)) o))) r)
  held_part target rest ks done None = record { there = λ h. h; back = λ h. h }
  held_part target rest ks done (Some at) = by_held (held_in (place_at s at))
    where
      by_held : (k : Option Capability)
          → Iff (IsFoundAnd {A = Slot × Capability} (and_then (or_refuse k reply.Empty) λ k. Found (at, k))
          (λ p. RuleMay s c (rest p.0 p.1) r))
          (OneMay s c (causes_of (rest_by (held_rule target rest) ks (Some at) k)) r)
      by_held None = record { there = λ h. h; back = λ h. h }
      by_held (Some k) = only (rest at k) (done at k)

  mapped_part : (table v : ℕ) (rest : Capability → Rule) (ks : List Named) → ((k : Capability) → OnlyDoes (rest k))
      → Iff (IsFoundAnd (mapped s c table v) (λ k. RuleMay s c (rest k) r))
      (OneMay s c (causes_of (rest_by (mapped_rule table v rest) ks (reached s c (under (root_at table) v))
      (option_and_then (λ at. held_in (place_at s at)) (reached s c (under (root_at table) v))))) r)
  mapped_part table v rest ks done = by_number (nat_lt 4095 v) refl
    where
      by_held : (at : Option Slot) (k : Option Capability)
          → Iff (IsFoundAnd (or_refuse k reply.Fault) (λ k. RuleMay s c (rest k) r))
          (OneMay s c (causes_of (rest_by (mapped_rule table v rest) ks at k)) r)
      by_held at None = record { there = λ h. h; back = λ h. h }
      by_held at (Some k) = only (rest k) (done k)

      by_slot : (o : Option Slot)
          → Iff (IsFoundAnd (and_then (or_refuse o reply.Fault) λ at. or_refuse (held_in (place_at s at)) reply.Fault)
          (λ k. RuleMay s c (rest k) r))
          (OneMay s c (causes_of (rest_by (mapped_rule table v rest) ks o (option_and_then (λ at. held_in (place_at s at)) o))) r)
      by_slot None = record { there = λ h. h; back = λ h. h }
      by_slot (Some at) = by_held (Some at) (held_in (place_at s at))

      none : nat_lt 4095 v ≡ true → reached s c (under (root_at table) v) ≡ None
      none big = ap (λ b. if b then Rattle.seq_state.specs.kernel_rules.specs.Access.slot_in (Rattle.seq_state.specs.kernel_rules.specs.Access.linked
          (usable s c (Rattle.seq_state.specs.kernel_rules.specs.Access.root_slot table v))) (Rattle.std.specs.Prelude.◌%◌ v 64) else None)
          (lt-leb v 4095 (ltb-true 4095 v big))

      by_number : (b : Bool) → nat_lt 4095 v ≡ b
          → Iff (IsFoundAnd (and_then (unless (if b then Some reply.NoSlot else None) v) λ v.
          and_then (or_refuse (reached s c (under (root_at table) v)) reply.Fault) λ at.
          or_refuse (held_in (place_at s at)) reply.Fault) (λ k. RuleMay s c (rest k) r))
          (OneMay s c (causes_of (rest_by (mapped_rule table v rest) ks (reached s c (under (root_at table) v))
          (option_and_then (λ at. held_in (place_at s at)) (reached s c (under (root_at table) v))))) r)
      by_number true big = subst (λ o. Iff ⊥ (OneMay s c (causes_of (rest_by (mapped_rule table v rest) ks o
          (option_and_then (λ at. held_in (place_at s at)) o))) r)) (sym (none big)) record { there = λ h. h; back = λ h. h }
      by_number false small = by_slot (reached s c (under (root_at table) v))

  target_part : (target : Target) (caps ks pad : List Named) (rule : Rule)
      → SameEarlier caps ks → GoesTo (own_pages s c) target caps rule
      → Iff (RuleMay s c rule r) (TargetMay s c target ks r ⊎ OneMay s c (causes_of (rest_by rule pad (slot_by Own s c ks target)
      (held_by s target (slot_by Own s c ks target)))) r)
  target_part Nowhere caps ks pad (Does causes value edits) e goes = none_in_front _ _ (record { there = λ h. h; back = λ h. h })
  target_part Nowhere caps ks pad (name_rule n want rest) e goes = absurd goes
  target_part Nowhere caps ks pad (vacant_rule t rest) e goes = absurd goes
  target_part Nowhere caps ks pad (held_rule t rest) e goes = absurd goes
  target_part Nowhere caps ks pad (mapped_rule table v rest) e goes = absurd goes
  target_part (Free spot) caps ks pad (vacant_rule t rest) e goes =
      let p : t ≡ place_of_spot ks spot = goes.0 ∙ place_same caps ks e spot in
      in_front _ _ _ _ (along _ _ (λ i. VacantMay s c (p i) r))
      (subst (λ x. Iff (RuleMay s c (rest (slot_of (reached s c x))) r)
      (OneMay s c (causes_of (rest (slot_of (reached s c (place_of_spot ks spot))))) r)) (sym p)
      (only _ (goes.1 _)))
  target_part (Free spot) caps ks pad (Does causes value edits) e goes = absurd goes
  target_part (Free spot) caps ks pad (name_rule n want rest) e goes = absurd goes
  target_part (Free spot) caps ks pad (held_rule t rest) e goes = absurd goes
  target_part (Free spot) caps ks pad (mapped_rule table v rest) e goes = absurd goes
  target_part (Held spot) caps ks pad (held_rule t rest) e goes =
      let p : t ≡ place_of_spot ks spot = goes.0 ∙ place_same caps ks e spot in
      in_front _ _ _ _ (along _ _ (λ i. HeldMay s c (p i) r))
      (subst (λ x. Iff (IsFoundAnd (held s c x) (λ p. RuleMay s c (rest p.0 p.1) r))
      (OneMay s c (causes_of (rest_by (held_rule t rest) pad (reached s c (place_of_spot ks spot))
      (option_and_then (λ at. held_in (place_at s at)) (reached s c (place_of_spot ks spot))))) r)) (sym p)
      (held_part t rest pad goes.1 (reached s c (place_of_spot ks spot))))
  target_part (Held spot) caps ks pad (Does causes value edits) e goes = absurd goes
  target_part (Held spot) caps ks pad (name_rule n want rest) e goes = absurd goes
  target_part (Held spot) caps ks pad (vacant_rule t rest) e goes = absurd goes
  target_part (Held spot) caps ks pad (mapped_rule table v rest) e goes = absurd goes
  target_part (own_page v) caps ks pad (mapped_rule table n rest) e goes =
      subst (λ t. Iff (RuleMay s c (mapped_rule t n rest) r)
      ((IsFalse ((own_pages s c).cached v) × MappedMay s c (comp_of s c).pages v r)
      ⊎ OneMay s c (causes_of (rest_by (mapped_rule t n rest) pad (reached s c (under (root_at (comp_of s c).pages) v))
      (option_and_then (λ at. held_in (place_at s at)) (reached s c (under (root_at (comp_of s c).pages) v))))) r)) (sym goes.0)
      (subst (λ m. Iff (RuleMay s c (mapped_rule (comp_of s c).pages m rest) r)
      ((IsFalse ((own_pages s c).cached v) × MappedMay s c (comp_of s c).pages v r)
      ⊎ OneMay s c (causes_of (rest_by (mapped_rule (comp_of s c).pages m rest) pad (reached s c (under (root_at (comp_of s c).pages) v))
      (option_and_then (λ at. held_in (place_at s at)) (reached s c (under (root_at (comp_of s c).pages) v))))) r)) (sym goes.1)
      (in_front _ _ _ _ (record { there = λ h. (goes.2, h); back = λ h. h.1 })
      (mapped_part (comp_of s c).pages v rest pad goes.3)))
  target_part (own_page v) caps ks pad (Does causes value edits) e goes = record {
    there = λ h. inr h;
    back = λ h. elim h [ inl p ↦ absurd (true≢false (sym goes ∙ p.0)) | inr q ↦ q ];
  }
  target_part (own_page v) caps ks pad (name_rule n want rest) e goes = absurd goes
  target_part (own_page v) caps ks pad (vacant_rule t rest) e goes = absurd goes
  target_part (own_page v) caps ks pad (held_rule t rest) e goes = absurd goes

  more : (target : Target) (x : Name) (ns : List Name) (caps : List Named) (l : Looked) (rule : Rule) (F : List Cause → Type 0)
      (pad : List Named) (at : Option Slot) (held : Option Capability)
      → SameEarlier caps (names_in l) → GoesOn (own_pages s c) (x ∷ ns) target caps rule
      → ((next : Rule) → GoesOn (own_pages s c) ns target (caps ++ named_of (led_by Own s c l (Some x)) ∷ []) next
      → Iff (RuleMay s c next r) (F (causes_of (rest_by next pad at held))))
      → Iff (RuleMay s c rule r) (SomeNameMay s c l (Some x) r
      ⊎ F (causes_of (rest_by rule (named_of (led_by Own s c l (Some x)) ∷ pad) at held)))
  more target x ns caps l (name_rule n want rest) F pad at held e goes after =
      name_part caps l x n want rest _ e goes.0 goes.1 (after (rest (named_of (led_by Own s c l (Some x)))) (goes.2 _))
  more target x ns caps l (vacant_rule t rest) F pad at held e goes after = absurd goes
  more target x ns caps l _ F pad at held e goes after = absurd goes

-- ---- all names

pub too_long : {A : Type 0} (a b d e f : A) (xs : List A) → length (a ∷ b ∷ d ∷ e ∷ f ∷ xs) ≤ 4 → ⊥
too_long a b d e f xs few = omega (arith, few)

module _ (s : State) (c : ℕ) (plan : Plan) (r : Reply) where
  abbrev with_names : List Name → Plan
  with_names names = record plan { names = names }

  abbrev all : List Name → Looked
  all names = looked Own s c (with_names names)

  abbrev ends : List Name → List Cause → Type 0
  ends names causes = TargetMay s c plan.target (names_in (all names)) r ⊎ OneMay s c causes r

  abbrev ways : List Name → Rule → Type 0
  ways names rule = NthMay s c (with_names names) (all names) First r ⊎ (NthMay s c (with_names names) (all names) Second r
      ⊎ (NthMay s c (with_names names) (all names) Third r ⊎ (NthMay s c (with_names names) (all names) Fourth r
      ⊎ ends names (causes_of (left_of rule (all names))))))

  by_names : (names : List Name) → length names ≤ 4 → (rule : Rule) → GoesOn (own_pages s c) names plan.target [] rule
      → Iff (RuleMay s c rule r) (ways names rule)
  by_names [] few rule goes =
      none_in_front _ _ (none_in_front _ _ (none_in_front _ _ (none_in_front _ _
      (target_part s c r plan.target [] (names_in (all [])) (names_in (all [])) rule earlier_0 goes))))
  by_names (x ∷ []) few rule goes =
      let l = all (x ∷ []) in
      more s c r plan.target x [] [] nothing rule (λ causes. ⊥ ⊎ (⊥ ⊎ (⊥ ⊎ ends (x ∷ []) causes))) (not_found ∷ not_found ∷ not_found ∷ [])
      l.at l.held earlier_0 goes
      (λ next on. none_in_front _ _ (none_in_front _ _ (none_in_front _ _
      (target_part s c r plan.target (named_of l.first ∷ []) (names_in l) (not_found ∷ not_found ∷ not_found ∷ []) next
      (earlier_1 (named_of l.first)) on))))
  by_names (x ∷ y ∷ []) few rule goes =
      let l = all (x ∷ y ∷ []) in
      more s c r plan.target x (y ∷ []) [] nothing rule
      (λ causes. SomeNameMay s c (before l Second) (Some y) r ⊎ (⊥ ⊎ (⊥ ⊎ ends (x ∷ y ∷ []) causes)))
      (named_of l.second ∷ not_found ∷ not_found ∷ []) l.at l.held earlier_0 goes
      (λ next on. more s c r plan.target y [] (named_of l.first ∷ []) (before l Second) next
      (λ causes. ⊥ ⊎ (⊥ ⊎ ends (x ∷ y ∷ []) causes)) (not_found ∷ not_found ∷ []) l.at l.held (earlier_1 (named_of l.first)) on
      (λ next on. none_in_front _ _ (none_in_front _ _
      (target_part s c r plan.target (named_of l.first ∷ named_of l.second ∷ []) (names_in l) (not_found ∷ not_found ∷ []) next
      (earlier_2 (named_of l.first) (named_of l.second)) on))))
  by_names (x ∷ y ∷ z ∷ []) few rule goes =
      let l = all (x ∷ y ∷ z ∷ []) in
      more s c r plan.target x (y ∷ z ∷ []) [] nothing rule
      (λ causes. SomeNameMay s c (before l Second) (Some y) r
      ⊎ (SomeNameMay s c (before l Third) (Some z) r ⊎ (⊥ ⊎ ends (x ∷ y ∷ z ∷ []) causes)))
      (named_of l.second ∷ named_of l.third ∷ not_found ∷ []) l.at l.held earlier_0 goes
      (λ next on. more s c r plan.target y (z ∷ []) (named_of l.first ∷ []) (before l Second) next
      (λ causes. SomeNameMay s c (before l Third) (Some z) r ⊎ (⊥ ⊎ ends (x ∷ y ∷ z ∷ []) causes))
      (named_of l.third ∷ not_found ∷ []) l.at l.held (earlier_1 (named_of l.first)) on
      (λ next on. more s c r plan.target z [] (named_of l.first ∷ named_of l.second ∷ []) (before l Third) next
      (λ causes. ⊥ ⊎ ends (x ∷ y ∷ z ∷ []) causes) (not_found ∷ []) l.at l.held (earlier_2 (named_of l.first) (named_of l.second)) on
      (λ next on. none_in_front _ _
      (target_part s c r plan.target (named_of l.first ∷ named_of l.second ∷ named_of l.third ∷ []) (names_in l) (not_found ∷ []) next
      (earlier_3 (named_of l.first) (named_of l.second) (named_of l.third)) on))))
  by_names (x ∷ y ∷ z ∷ v ∷ []) few rule goes =
      let l = all (x ∷ y ∷ z ∷ v ∷ []) in
      more s c r plan.target x (y ∷ z ∷ v ∷ []) [] nothing rule
      (λ causes. SomeNameMay s c (before l Second) (Some y) r ⊎ (SomeNameMay s c (before l Third) (Some z) r
      ⊎ (SomeNameMay s c (before l Fourth) (Some v) r ⊎ ends (x ∷ y ∷ z ∷ v ∷ []) causes)))
      (named_of l.second ∷ named_of l.third ∷ named_of l.fourth ∷ []) l.at l.held earlier_0 goes
      (λ next on. more s c r plan.target y (z ∷ v ∷ []) (named_of l.first ∷ []) (before l Second) next
      (λ causes. SomeNameMay s c (before l Third) (Some z) r
      ⊎ (SomeNameMay s c (before l Fourth) (Some v) r ⊎ ends (x ∷ y ∷ z ∷ v ∷ []) causes))
      (named_of l.third ∷ named_of l.fourth ∷ []) l.at l.held (earlier_1 (named_of l.first)) on
      (λ next on. more s c r plan.target z (v ∷ []) (named_of l.first ∷ named_of l.second ∷ []) (before l Third) next
      (λ causes. SomeNameMay s c (before l Fourth) (Some v) r ⊎ ends (x ∷ y ∷ z ∷ v ∷ []) causes)
      (named_of l.fourth ∷ []) l.at l.held (earlier_2 (named_of l.first) (named_of l.second)) on
      (λ next on. more s c r plan.target v [] (named_of l.first ∷ named_of l.second ∷ named_of l.third ∷ []) (before l Fourth) next
      (λ causes. ends (x ∷ y ∷ z ∷ v ∷ []) causes) [] l.at l.held
      (earlier_3 (named_of l.first) (named_of l.second) (named_of l.third)) on
      (λ next on.
      target_part s c r plan.target (named_of l.first ∷ named_of l.second ∷ named_of l.third ∷ named_of l.fourth ∷ []) (names_in l) [] next
      (λ i. refl) on))))
  by_names (x ∷ y ∷ z ∷ v ∷ u ∷ names) few rule goes = absurd (too_long x y z v u names few)

pub refused_by_plan : RefusedByPlan
refused_by_plan s c plan rule r few goes = regrouped _ _ _ _ _ _ _ (by_names s c plan r plan.names few rule goes)
