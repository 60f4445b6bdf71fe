-- Which places that a call fills are those of page tables.
use Rattle.count_invariant.specs.act_states.proofs as low
use low.{◌≡◌, ℕ, ◌&&◌, leb as nat_le, if◌then◌else◌, Bool, true, false, List, [], ◌∷◌, Some, None, refl, sym, ◌∙◌, ap, IsTrue, false≢true}
use low.{Capability, Setting, IsSetting, Kind, Call, Grow, Map, Retype}
use low.{Table, Pages, Frame, Kernel, State, Slot, Named, found, only, Target, Under, InRoot, reached}
use low.{fits, some_inj, opened, Nowhere, Plan, plan_for, Leads, LeadsIn, NextNothing, NextHeld, NextOwn, NextFree}
use low.{next_of, to_use, FrameKind}
use Rattle.count_invariant.specs.step_ways.proofs.{events_of, IsLegal, Trace, Open, phase, state_after, sound_of, opened_is}
use Rattle.count_invariant.specs.kernel_laws.proofs.{is_paging, none_some, root, IsGood, named_good}
use Rattle.count_invariant.specs.call_plans.specs.declared.plans.Target.TheVariants.{Free, Held, Own}
use Rattle.count_invariant.specs.call_plans.specs.{of_kind, with_found, names_after, next_in, declared.plans.Name.Name}
use Rattle.count_invariant.specs.call_plans.specs.declared.plans.{Nth.TheVariants.Second, Spot.TheVariants.Under as under_name}
use Rattle.place_invariant.proofs.{CompMakes.IsCompMake, CompMakes.comp_make, ObjectMakes.made_of, ObjectMakes.IsObjectMake}
use Rattle.place_invariant.proofs.{ObjectMakes.object_make, Outside.none_left_of, Vacancy.in_leaf, Vacancy.in_pleaf}
use Rattle.{count_invariant.specs.step_ways.proofs.Make as make_call, count_invariant.specs.act_states.specs.Acts.fills_page}
use Rattle.{count_invariant.specs.call_plans.specs.declared.plans.Target.Target as TargetOf, count_invariant.proofs.Next.next_end}
use Rattle.count_invariant.specs.kernel_laws.specs.spk_nums.specs.declared.calls.Make.TheVariants as make

-- The plan of a call whose target is to be free.
abbrev IsFreeTarget : TargetOf → Type 0
IsFreeTarget Nowhere = ⊥
IsFreeTarget (Free spot) = Unit {0}
IsFreeTarget (Held spot) = ⊥
IsFreeTarget (Own v) = ⊥

free_target : (plan : Plan) (ks : List Capability) (target : Target) → next_of plan ks ≡ NextFree target → IsFreeTarget plan.target
free_target plan ks target next = by plan.target refl
  where
    by : (to : TargetOf) → plan.target ≡ to → IsFreeTarget to
    by Nowhere is = not_free (sym (next_end plan ks Nowhere (none_left_of plan ks target next) is) ∙ next)
      where
        not_free : NextNothing ≡ NextFree target → ⊥
        not_free h = cc
    by (Free spot) is = tt
    by (Held spot) is = not_free _ (sym (next_end plan ks (Held spot) (none_left_of plan ks target next) is) ∙ next)
      where
        not_free : (x : Target) → NextHeld x ≡ NextFree target → ⊥
        not_free x h = cc
    by (Own v) is = not_free (sym (next_end plan ks (Own v) (none_left_of plan ks target next) is) ∙ next)
      where
        not_free : NextOwn v ≡ NextFree target → ⊥
        not_free h = cc

-- A root is one of a page table where its capability is of pages.
root_paging : (k : Kind) (x : Frame) → IsTrue (root k) → IsTrue (fits k x) → is_paging x ≡ only Kind.Pages k
root_paging Kind.Table (Kernel Table) r h = refl
root_paging Kind.Table _ r h = absurd (false≢true h)
root_paging Kind.Pages (Kernel Pages) r h = refl
root_paging Kind.Pages _ r h = absurd (false≢true h)
root_paging _ x r h = absurd (false≢true r)

in_root_node : (table : Named) (i : ℕ) (at : Slot) (b : Bool) → (if b then Some (record { node = table.frame; index = i }) else None) ≡
    Some at
    → table.frame ≡ at.node
in_root_node table i at true h = ap (λ (x : Slot). x.node) (some_inj (record { node = table.frame; index = i }) at h)
in_root_node table i at false h = absurd (none_some at h)

target_in : (p q : Target) → NextFree p ≡ NextFree q → p ≡ q
target_in p q is = cc

module _ (setup : Setting) (setting : IsSetting setup) (t : Trace) (legal : IsLegal setup t) (c : ℕ) (target : Target) (at : Slot)
    (reaches : reached (state_after setup t) c target ≡ Some at) where
  abbrev s : State
  s = state_after setup t

  abbrev PagingIs : Call → List Capability → Type 0
  PagingIs call ks = is_paging (s.frame at.node) ≡ fills_page call ks

  none_free : (call : Call) (ks : List Capability) → next_of (plan_for call) ks ≡ NextFree target → IsFreeTarget (plan_for call).target
  none_free call ks next = free_target (plan_for call) ks target next

  not_free : (call : Call) (ks : List Capability) → next_of (plan_for call) ks ≡ NextFree target
      → (IsFreeTarget (plan_for call).target → ⊥) → is_paging (s.frame at.node) ≡ false
  not_free call ks next none = absurd (none (none_free call ks next))

  -- a place of the table to which the second of two names has led
  under_second : (call : Call) → phase t c ≡ Open call → (x : Name) (u b : ℕ) (ks : List Capability)
      → Leads (LeadsIn s c) (x ∷ of_kind Kind.Table u ∷ []) [] ks
      → next_in (with_found [] ks) (names_after (x ∷ of_kind Kind.Table u ∷ []) ks) (Free (under_name Second b)) ≡ NextFree target
      → is_paging (s.frame at.node) ≡ false
  under_second call is x u b (k ∷ j ∷ []) lead next =
      ap is_paging (in_leaf setup setting t legal c call is u b j at lead.1.0
      (ap (reached s c) (target_in (Under (found j) b) target next) ∙ reaches))
  under_second call is x u b [] lead next = absurd (cc)
  under_second call is x u b (k ∷ []) lead next = absurd (cc)
  under_second call is x u b (k ∷ j ∷ i ∷ ks) lead next = absurd lead.1.1

  -- the place that a call fills is one of a page table exactly where `fills_page` says so
  pub paging_by : (call : Call) → phase t c ≡ Open call → (ks : List Capability)
      → Leads (LeadsIn s c) (plan_for call).names [] ks → next_of (plan_for call) ks ≡ NextFree target → PagingIs call ks
  paging_by (Grow u i l) is (k ∷ j ∷ []) lead next =
      let good : IsGood s k × IsTrue (root k.kind) =
      named_good s (opened (events_of t)) c u (to_use root) k (sound_of setup setting t legal)
      (opened_is t c (Grow u i l) is) lead.0 in
      ap (λ (f : ℕ). is_paging (s.frame f)) (sym (in_root_node (found k) i at (nat_le i 63)
      (ap (reached s c) (target_in (InRoot (found k) i) target next) ∙ reaches)))
      ∙ root_paging k.kind (s.frame k.frame) good.1 good.0.fit
  paging_by (Grow u i l) is [] lead next = absurd (cc)
  paging_by (Grow u i l) is (k ∷ []) lead next = absurd (cc)
  paging_by (Grow u i l) is (k ∷ j ∷ h ∷ ks) lead next = absurd lead.1.1
  paging_by (Map p v r f w) is (k ∷ j ∷ []) lead next =
      ap is_paging (in_pleaf setup setting t legal c (Map p v r f w) is p v k at lead.0
      (ap (reached s c) (target_in (Under (found k) v) target next) ∙ reaches))
  paging_by (Map p v r f w) is [] lead next = absurd (cc)
  paging_by (Map p v r f w) is (k ∷ []) lead next = absurd (cc)
  paging_by (Map p v r f w) is (k ∷ j ∷ h ∷ ks) lead next = absurd lead.1.1
  paging_by (make_call (make.Comp x p live) r f u b) is ks lead next =
      let none = none_left_of (plan_for (make_call (make.Comp x p live) r f u b)) ks target next in
      let made : IsCompMake s c r f u b x p live ks = comp_make s c r f u b x p live ks lead none in
      ap is_paging (in_leaf setup setting t legal c (make_call (make.Comp x p live) r f u b) is u b made.second at made.under
      (ap (reached s c) (target_in (Under (found made.second) b) target (sym made.next ∙ next)) ∙ reaches))
  paging_by (make_call what r f u b) is ks lead next =
      let none = none_left_of (plan_for (make_call what r f u b)) ks target next in
      made_of what tt r f u b ks none (PagingIs (make_call what r f u b) ks) (λ object of.
      let make : IsObjectMake s c r f u b what object ks = object_make s c r f u b what object ks of lead none in
      ap is_paging (in_leaf setup setting t legal c (make_call what r f u b) is u b make.two.table at make.two.second
      (ap (reached s c) (target_in (Under (found make.two.table) b) target (sym make.next ∙ next)) ∙ reaches)))
  paging_by (Retype r f FrameKind.Untyped) is ks lead next = absurd (none_free (Retype r f FrameKind.Untyped) ks next)
  paging_by call is ks lead next = search (under_second call is, not_free call ks next)
