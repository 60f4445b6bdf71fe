-- The refusal of a call whose frame is outside its range.
use Rattle.count_invariant.specs.step_ways.proofs as low
use low.{Want, ◌≡◌, ◌⊎◌, inl, inr, ℕ, ◌<◌, not, false, IsTrue, List, [], ◌∷◌, Option, Some, None, refl, sym, ◌∙◌, ap, subst, if◌then◌else◌}
use low.{IsSome, false≢true, Capability, Setting, IsSetting, Call, Reply, entry_of_word, EntryAt, Move, LoadOf, word_of, State, PlaceOf}
use low.{Kernel, Leaf, Slot, Target, Under, found, place_at, reached, page_cap, slot_relies, Cause, Vacant, Does, RuleMay, Refused, Found}
use low.{and_then, or_refuse, unless, first_of, first_cause, vacant, not_vacant, outcome, is_node, has_frame, outside, not_blank, rule_of}
use low.{change_of, IsAlone, Trace, Open, state_after, last_left, own_read, Plan, plan_for, GoesBy, own_pages, Leads, LeadsIn, rule_after}
use low.{names_after, NextName, NextFree, next_of, left_may, outcome_left, NewObject, object_made, ActiveCall, Core, IsSpot, MayFill}
use low.{NamesAre, phase_at, Invariant, limits_of, Bool, Make as make_call, Part, does, step_to, call_is, IsMarked, IsUnmarked, place_reads}
use low.{Edit, plain_cap, Kind}
use Rattle.count_invariant.specs.boot_words.specs.kernel_rules.specs.{Map, Make, part_of, not_user, When, not_taken, has_frames}
use Rattle.count_invariant.specs.boot_words.specs.kernel_rules.specs.{Component as component_edit, Fill as fill_edit, Nothing as no_value}
use Rattle.count_invariant.proofs.{plan_leads, goes_by, Rest, ANameLeft, NoneLeft, rest_of, next_name}
use Rattle.count_invariant.specs.core_invariant.specs.Acting.{OutsideBy, OutsideObject, OutsideComp}
use Rattle.place_invariant.proofs.{CompMakes.IsCompMake, CompMakes.comp_make, CompMakes.comp_rest, CompMakes.new_comp, ObjectMakes.made_by}
use Rattle.place_invariant.proofs.{ObjectMakes.make_rest, ObjectMakes.IsObjectMake, ObjectMakes.object_make, Starts.IsRefusedOutside}
use Rattle.place_invariant.proofs.{Vacancy.in_leaf, Vacancy.IsVacant, Vacancy.vacant_by}
use Rattle.{std.proofs.lemmas.Bool.cases_eq, count_invariant.specs.kernel_history.proofs.Laws.not_changed}
use Rattle.{count_invariant.specs.act_states.specs.Objects.object_kind}

-- A slot that is reached and vacant.
pub vacant_slot : (s : State) (c : ℕ) (target : Target) (at : Slot) → reached s c target ≡ Some at
    → not_vacant s c (PlaceOf at.node at.index) (place_at s at) ≡ None → vacant s c target ≡ Found at
vacant_slot s c target at is free =
    ap (λ o. and_then (or_refuse o Reply.NoSlot) λ at. unless (not_vacant s c (PlaceOf at.node at.index) (place_at s at)) at) is
    ∙ ap (λ o. unless o at) free

-- The call is one that makes an object, in a frame that is not in its range.
pub record IsOutsideMake (call : Call) (ks : List Capability) : Type 0 where
  pub what : Make
  pub name : ℕ
  pub frame : ℕ
  pub root : ℕ
  pub slot : ℕ
  pub object : NewObject
  pub range : Capability
  pub rest : List Capability
  pub call_is : call ≡ make_call what name frame root slot
  pub found_is : ks ≡ range ∷ rest
  pub object_is : object_made what ks ≡ Some object
  pub outside : has_frame (found range) frame ≡ false

some_of : {A : Type 0} (o : Option A) → IsSome o → (R : Type 0) → ((x : A) → o ≡ Some x → R) → R
some_of None some R f = absurd (false≢true some)
some_of (Some x) some R f = f x refl

outside_make : (what : Make) (r f u b : ℕ) (ks : List Capability) → OutsideObject (make_call what r f u b) ks
    → IsOutsideMake (make_call what r f u b) ks
outside_make what r f u b (range ∷ ks) is = some_of (object_made what (range ∷ ks)) is.object
    (IsOutsideMake (make_call what r f u b) (range ∷ ks))
    (λ object object_is. record {
      what = what;
      name = r;
      frame = f;
      root = u;
      slot = b;
      object = object;
      range = range;
      rest = ks;
      call_is = refl;
      found_is = refl;
      object_is = object_is;
      outside = is.outside;
    })
outside_make what r f u b [] is = absurd is

-- No name is left where a target that is to be free is looked up next.
pub none_left_of : (plan : Plan) (ks : List Capability) (target : Target) → next_of plan ks ≡ NextFree target
    → names_after plan.names ks ≡ []
none_left_of plan ks target next = by (rest_of plan ks)
  where
    not_free : (n : ℕ) (wanted : Want) → NextName n wanted ≡ NextFree target → ⊥
    not_free n wanted h = cc

    by : Rest plan ks → names_after plan.names ks ≡ []
    by (ANameLeft name rest is) = absurd (not_free _ _ (sym (next_name plan ks name rest is) ∙ next))
    by (NoneLeft none) = none

-- What is left of the rule of a call after its names that is refused where its frame is not in its range: its target is to be free, and the
-- first of its own causes is that.
record IsRefusable (s : State) (c : ℕ) (call : Call) (ks : List Capability) (target : Target) : Type 0 where
  has : Bool
  causes : List Cause
  edits : Slot → List Edit
  rule : rule_after (rule_of s c call) ks ≡ Vacant target (λ at. Does (When (not has) Reply.OutOfRange ∷ causes) no_value (edits at))
  is_outside : has ≡ false

target_in : (p q : Target) → NextFree p ≡ NextFree q → p ≡ q
target_in p q h = cc

made_refusable : (s : State) (c : ℕ) (call : Call) (ks : List Capability) (target : Target) → IsOutsideMake call ks
    → Leads (LeadsIn s c) (plan_for call).names [] ks → next_of (plan_for call) ks ≡ NextFree target → IsRefusable s c call ks target
made_refusable s c call ks target is leads next =
    let call_is = is.call_is in
    let make : IsObjectMake s c is.name is.frame is.root is.slot is.what is.object ks =
    object_make s c is.name is.frame is.root is.slot is.what is.object ks is.object_is
    (subst (λ (x : Call). Leads (LeadsIn s c) (plan_for x).names [] ks) call_is leads)
    (subst (λ (x : Call). names_after (plan_for x).names ks ≡ []) call_is (none_left_of (plan_for call) ks target next)) in
    let to : Under (found make.two.table) is.slot ≡ target = target_in _ _ (sym make.next ∙ ap (λ x. next_of (plan_for x) ks)
    (sym call_is) ∙ next)
    in
    record {
      has = has_frame (found make.two.range) is.frame;
      causes = not_blank s is.frame ∷ [];
      edits = λ at. made_by is.object is.frame ∷ fill_edit at (plain_cap (object_kind is.object) is.frame) ∷ [];
      rule = ap (λ x. rule_after (rule_of s c x) ks) call_is ∙ make.rule
          ∙ ap (λ x. make_rest s make.two.range is.frame is.object x) to;
      is_outside = ap (λ (k : Capability). has_frame (found k) is.frame) (first_same _ _ _ _ (sym make.two.found_is ∙ is.found_is))
          ∙ is.outside;
    }
  where
    first_same : (k j : Capability) (ks js : List Capability) → k ∷ ks ≡ j ∷ js → k ≡ j
    first_same k j ks js h = cc

-- So is a call that makes a component.
comp_refusable : (s : State) (c : ℕ) (call : Call) (ks : List Capability) (target : Target) → OutsideComp call ks
    → Leads (LeadsIn s c) (plan_for call).names [] ks → next_of (plan_for call) ks ≡ NextFree target → IsRefusable s c call ks target
comp_refusable s c (make_call (Make.Comp x p live) r f u b) (range ∷ second ∷ table ∷ pages ∷ []) target out leads next =
    let call : Call = make_call (Make.Comp x p live) r f u b in
    let ks : List Capability = range ∷ second ∷ table ∷ pages ∷ [] in
    let make : IsCompMake s c r f u b x p live ks = comp_make s c r f u b x p live ks leads (none_left_of (plan_for call) ks target next) in
    record {
      has = has_frame (found make.range) f;
      causes = not_blank s f ∷ not_taken s live;
      edits = λ at.
          component_edit f (new_comp s make.table.frame make.pages.frame live) ∷ fill_edit at (plain_cap Kind.Comp f) ∷ [];
      rule = make.rule ∙ ap (λ to. comp_rest s make.range f make.table.frame make.pages.frame live to)
          (target_in _ _ (sym make.next ∙ next));
      is_outside = ap (λ (k : Capability). has_frame (found k) f) (first_same _ _ _ _ (sym make.found_is)) ∙ out;
    }
  where
    first_same : (k j : Capability) (ks js : List Capability) → k ∷ ks ≡ j ∷ js → k ≡ j
    first_same k j ks js h = cc
comp_refusable s c (make_call (Make.Comp x p live) r f u b) [] target out leads next = absurd out
comp_refusable s c (make_call (Make.Comp x p live) r f u b) (k ∷ []) target out leads next = absurd out
comp_refusable s c (make_call (Make.Comp x p live) r f u b) (k ∷ j ∷ []) target out leads next = absurd out
comp_refusable s c (make_call (Make.Comp x p live) r f u b) (k ∷ j ∷ i ∷ []) target out leads next = absurd out
comp_refusable s c (make_call (Make.Comp x p live) r f u b) (k ∷ j ∷ i ∷ h ∷ g ∷ ks) target out leads next = absurd out
comp_refusable s c (make_call what r f u b) ks target out leads next = absurd out
comp_refusable s c call ks target out leads next = absurd out

refusable : (s : State) (c : ℕ) (call : Call) (ks : List Capability) (target : Target) → OutsideBy call ks
    → Leads (LeadsIn s c) (plan_for call).names [] ks → next_of (plan_for call) ks ≡ NextFree target → IsRefusable s c call ks target
refusable s c (make_call what r f u b) ks target out leads next = elim out [
  | inl is ↦ made_refusable s c (make_call what r f u b) ks target (outside_make what r f u b ks is) leads next
  | inr is ↦ comp_refusable s c (make_call what r f u b) ks target is leads next
]
refusable s c (Map p v r f w) (k ∷ j ∷ []) target out leads next =
    subst (IsRefusable s c (Map p v r f w) (k ∷ j ∷ [])) (target_in (Under (found k) v) target next) (record {
      has = has_frame (found j) f;
      causes = not_user s f ∷ [];
      edits = λ at. fill_edit at (page_cap f w) ∷ [];
      rule = refl;
      is_outside = out;
    })
refusable s c (Map p v r f w) [] target out leads next = absurd out
refusable s c (Map p v r f w) (k ∷ []) target out leads next = absurd out
refusable s c (Map p v r f w) (k ∷ j ∷ i ∷ ks) target out leads next = absurd leads.1.1
refusable s c (Part r f n u b) (k ∷ j ∷ []) target out leads next =
    subst (IsRefusable s c (Part r f n u b) (k ∷ j ∷ [])) (target_in (Under (found j) b) target next) (record {
      has = has_frames (found k) f n;
      causes = [];
      edits = λ at. fill_edit at (part_of k f n) ∷ [];
      rule = refl;
      is_outside = out;
    })
refusable s c (Part r f n u b) [] target out leads next = absurd out
refusable s c (Part r f n u b) (k ∷ []) target out leads next = absurd (cc)
refusable s c (Part r f n u b) (k ∷ j ∷ i ∷ ks) target out leads next = absurd leads.1.1
refusable s c call ks target out leads next = absurd out

-- A call is refused whose frame is outside its range, where its target is reached and, if the call is alone, vacant.
module _ (setup : Setting) (setting : IsSetting setup) (cores : ℕ → Core) (t : Trace) (stands : Invariant setup cores t) (c : ℕ)
    (here : c < setup.cores)
    (a : ActiveCall) (active : (cores c).active ≡ Some a)
    (names : NamesAre setup t c (cores c).own.table (plan_for a.call) a.found) (node index : ℕ) (target : Target)
    (next : next_of (plan_for a.call) a.found ≡ NextFree target)
    (reaches : reached (state_after setup t) c target ≡ Some (record { node = node; index = index }))
    (out : OutsideBy a.call a.found) (move : Move)
    (vacant_alone : IsAlone t (step_to c None move (last_left setup t (word_of move)) (Some Reply.OutOfRange) None)
    → IsVacant (state_after setup t) c node index) where
  abbrev s : State
  s = state_after setup t

  abbrev slot : Slot
  slot = record { node = node; index = index }

  leads : Leads (LeadsIn s c) (plan_for a.call).names [] a.found
  leads = plan_leads setup setting cores t stands c here a active names

  by_plan : GoesBy (own_pages s c) (plan_for a.call) (rule_of s c a.call)
  by_plan = goes_by setup setting cores t stands c here a active names

  is : IsRefusable s c a.call a.found target
  is = refusable s c a.call a.found target out leads
      next

  first : IsAlone t (step_to c None move (last_left setup t (word_of move)) (Some Reply.OutOfRange) None)
      → change_of s c a.call ≡ Refused Reply.OutOfRange
  first alone =
      outcome_left s c (own_pages s c) (plan_for a.call) (rule_of s c a.call) a.found by_plan leads ∙ ap (outcome s c) is.rule
      ∙ ap (λ x. and_then x λ at. unless (first_of (if not is.has then Some Reply.OutOfRange else None)
      (first_cause s c is.causes)) (does c s no_value (is.edits at)))
      (vacant_slot s c target slot reaches (vacant_alone alone).vacant)
      ∙ ap (λ b. unless (first_of (if not b then Some Reply.OutOfRange else None) (first_cause s c is.causes))
      (does c s no_value (is.edits slot))) is.is_outside

  pub refused_vacant : IsRefusedOutside setup t c a.call move
  refused_vacant = record {
    may = left_may s c (own_pages s c) (plan_for a.call) (rule_of s c a.call) a.found by_plan leads Reply.OutOfRange
        (subst (λ x. RuleMay s c x Reply.OutOfRange) (sym is.rule) (inr (inl (ap (λ b. not b) is.is_outside, refl))));
    first = first;
  }

-- Where a call is alone, a word stands as its last step there has read it.
pub stands_alone : (setup : Setting) (t : Trace) (c node index word : ℕ) → own_read t c (EntryAt node index) ≡ Some word → (move : Move)
    (r : Reply) → IsAlone t (step_to c None move (last_left setup t (word_of move)) (Some r) None)
    → last_left setup t (EntryAt node index) ≡ word
stands_alone setup t c node index word own move r alone = elim (cases_eq (last_left setup t (EntryAt node index)) word) [
  | inl same ↦ same
  | inr changed ↦ absurd (not_changed setup t
      (step_to c None (LoadOf (EntryAt node index)) (last_left setup t (EntryAt node index)) None None) refl
      (record { others_out = alone.others_out; undisturbed = alone.undisturbed }) word own changed)
]

-- It is vacant where its word stands still that the call has read there, as it does if the call is alone.
module _ (setup : Setting) (setting : IsSetting setup) (cores : ℕ → Core) (t : Trace) (stands : Invariant setup cores t) (c : ℕ)
    (here : c < setup.cores)
    (a : ActiveCall) (active : (cores c).active ≡ Some a) (opens : phase_at a.call a.stage ≡ Open a.call)
    (names : NamesAre setup t c (cores c).own.table (plan_for a.call) a.found) (node index word : ℕ)
    (spot : IsSpot setup t c (plan_for a.call) a.found setup.cores node index word) where
  pub vacant_node : (index < 64) → IsTrue (is_node ((state_after setup t).frame node)) → last_left setup t (EntryAt node index) ≡ word
      → IsVacant (state_after setup t) c node index
  vacant_node small in_node same =
      vacant_by setup t c node index (ap (λ l. l.cores) (limits_of setup t)) setup.frames
      (entry_of_word (last_left setup t (EntryAt node index))) unmarked.says may
    where
      may : MayFill setup t c (PlaceOf node index) setup.cores (entry_of_word (last_left setup t (EntryAt node index)))
      may = subst (MayFill setup t c (PlaceOf node index) setup.cores) (sym (ap entry_of_word same)) spot.vacant

      unmarked : IsUnmarked setup t node index
      unmarked = by_read (place_reads setup cores t stands node index in_node small)
        where
          by_read : IsMarked setup t node index ⊎ IsUnmarked setup t node index → IsUnmarked setup t node index
          by_read (inl m) = absurd (subst (MayFill setup t c (PlaceOf node index) setup.cores) m.says may)
          by_read (inr p) = p

  pub vacant_here : (index < 64) → (state_after setup t).frame node ≡ Kernel Leaf → last_left setup t (EntryAt node index) ≡ word
      → IsVacant (state_after setup t) c node index
  vacant_here small in_leaf same = vacant_node small (ap is_node in_leaf) same

  in_node : IsTrue (is_node ((state_after setup t).frame node))
  in_node = (slot_relies setup setting t stands.legal c a.call
      ((call_is setup setting cores t stands c here a active).phase ∙ opens) spot.target
      (record { node = node; index = index }) spot.way).node

  pub refused_outside : (index < 64) → OutsideBy a.call a.found → (move : Move) → IsRefusedOutside setup t c a.call move
  refused_outside small out move =
      refused_vacant setup setting cores t stands c here a active names node index spot.target spot.next spot.way.reached out move
      (λ alone. vacant_node small in_node (stands_alone setup t c node index word spot.own move Reply.OutOfRange alone))
