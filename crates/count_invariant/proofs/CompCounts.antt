-- A call that makes a component: what it is, its counts, and what it has still to store where it is refused.
use Rattle.step_ways.proofs.{◌≡◌, true, false, Some, ◌∙◌, refl, ℕ, ◌||◌, sym, [], ◌∷◌, ◌++◌, ap, subst, IsTrue, eq-eqb, false≢true}
use Rattle.step_ways.proofs.{Capability, Setting, Call, Kind, found, to_use, only, has_frame, named_by, State, only_is, counts_references}
use Rattle.step_ways.proofs.{changes_frames, changes_places, footprint_frames, is_one_of, frame_argument, Trace, plan_for, Leads, LeadsIn}
use Rattle.step_ways.proofs.{Acquired, comp_dues, comp_due_list, CompAt, CompMaking, Due, KnowsTail, KnowsCompAt, List, ℤ}
use Rattle.step_ways.specs.act_states.specs.{Third, Fourth, comp_undo, comp_meets_number}
use Rattle.count_invariant.proofs.MakingCounts.{argument_footprint, blank_left, named_kind, no_due}
use Rattle.{step_ways.proofs.Make as make_call, plan_ways.specs.kernel_history.specs.changes_numbers}
use Rattle.{plan_ways.specs.kernel_history.specs.footprint_numbers, plan_ways.proofs.one_left, plan_ways.proofs.footprint_found}
use Rattle.{step_ways.specs.core_invariant.specs.Acting.MakesCompBy, plan_ways.specs.spk_nums.specs.declared.calls.Make.Make}

-- It makes this component in this frame, which the range has to which its first name has led, with what its third and its fourth have led
-- to.
pub record IsCompCall (call : Call) (ks : List Capability) (m : CompMaking) : Type 0 where
  pub x : ℕ
  pub p : ℕ
  pub name : ℕ
  pub root : ℕ
  pub slot : ℕ
  pub range : Capability
  pub second : Capability
  pub table : Capability
  pub pages : Capability
  pub call_is : call ≡ make_call (Make.Comp x p m.number) name m.frame root slot
  pub found_is : ks ≡ range ∷ second ∷ table ∷ pages ∷ []
  pub table_is : m.table ≡ table.frame
  pub pages_is : m.pages ≡ pages.frame
  pub within : has_frame (found range) m.frame ≡ true

pub comp_call : (call : Call) (ks : List Capability) (m : CompMaking) → MakesCompBy call ks m → IsCompCall call ks m
comp_call (make_call (Make.Comp x p live) r f u b) (range ∷ second ∷ table ∷ pages ∷ []) m is = record {
  x = x;
  p = p;
  name = r;
  root = u;
  slot = b;
  range = range;
  second = second;
  table = table;
  pages = pages;
  call_is = ap (λ (n : ℕ). make_call (Make.Comp x p n) r f u b) (sym is.number)
      ∙ ap (λ (g : ℕ). make_call (Make.Comp x p m.number) r g u b) (sym is.frame);
  found_is = refl;
  table_is = is.table;
  pages_is = is.pages;
  within = ap (has_frame (found range)) is.frame ∙ is.within;
}
comp_call (make_call (Make.Comp x p live) r f u b) [] m is = absurd is
comp_call (make_call (Make.Comp x p live) r f u b) (k ∷ []) m is = absurd is
comp_call (make_call (Make.Comp x p live) r f u b) (k ∷ j ∷ []) m is = absurd is
comp_call (make_call (Make.Comp x p live) r f u b) (k ∷ j ∷ i ∷ []) m is = absurd is
comp_call (make_call (Make.Comp x p live) r f u b) (k ∷ j ∷ i ∷ h ∷ g ∷ ks) m is = absurd is
comp_call (make_call what r f u b) ks m is = absurd is
comp_call call ks m is = absurd is

-- It makes it wherever its steps stand.
pub makes_comp_on : (call : Call) (ks : List Capability) (m : CompMaking) (at : CompAt) → MakesCompBy call ks m
    → MakesCompBy call ks (record m { at = at })
makes_comp_on (make_call (Make.Comp x p live) r f u b) (range ∷ second ∷ table ∷ pages ∷ []) m at is =
    record { frame = is.frame; number = is.number; table = is.table; pages = is.pages; within = is.within }
makes_comp_on (make_call (Make.Comp x p live) r f u b) [] m at is = absurd is
makes_comp_on (make_call (Make.Comp x p live) r f u b) (k ∷ []) m at is = absurd is
makes_comp_on (make_call (Make.Comp x p live) r f u b) (k ∷ j ∷ []) m at is = absurd is
makes_comp_on (make_call (Make.Comp x p live) r f u b) (k ∷ j ∷ i ∷ []) m at is = absurd is
makes_comp_on (make_call (Make.Comp x p live) r f u b) (k ∷ j ∷ i ∷ h ∷ g ∷ ks) m at is = absurd is
makes_comp_on (make_call what r f u b) ks m at is = absurd is
makes_comp_on call ks m at is = absurd is

module _ (call : Call) (ks : List Capability) (m : CompMaking) (is : IsCompCall call ks m) where
  pub comp_counts : IsTrue (counts_references call)
  comp_counts = subst (λ x. IsTrue (counts_references x)) (sym is.call_is) refl

  pub comp_changes : changes_frames call ≡ true
  comp_changes = ap changes_frames is.call_is

  pub comp_places : changes_places call ≡ true
  comp_places = ap changes_places is.call_is

  pub comp_numbers : changes_numbers call ≡ true
  comp_numbers = ap changes_numbers is.call_is

  pub comp_argument : is_one_of m.frame (frame_argument call) ≡ true
  comp_argument = ap (λ x. is_one_of m.frame (frame_argument x)) is.call_is ∙ ap (λ b. b || false) (eq-eqb m.frame m.frame refl)

  pub comp_footprint : (s : State) (c : ℕ) → is_one_of m.frame (footprint_frames s c call) ≡ true
  comp_footprint s c = argument_footprint s c call m.frame comp_argument

  pub number_footprint : (s : State) (c : ℕ) → is_one_of m.number (footprint_numbers s c call) ≡ true
  number_footprint s c = ap (λ x. is_one_of m.number (footprint_numbers s c x)) is.call_is
      ∙ one_left m.number (m.number ∷ []) _ (ap (λ b. b || false) (eq-eqb m.number m.number refl))

-- What its third and its fourth name have led to is in its footprint.
same_cap : (x y : Capability) → Some x ≡ Some y → x ≡ y
same_cap x y h = cc

module _ (s : State) (c : ℕ) (call : Call) (ks : List Capability) (m : CompMaking) (is : IsCompCall call ks m)
    (lead : Leads (LeadsIn s c) (plan_for call).names [] ks) where
  abbrev whole : Call
  whole = make_call (Make.Comp is.x is.p m.number) is.name m.frame is.root is.slot

  abbrev all : List Capability
  all = is.range ∷ is.second ∷ is.table ∷ is.pages ∷ []

  leads : Leads (LeadsIn s c) (plan_for whole).names [] all
  leads = subst (λ x. Leads (LeadsIn s c) (plan_for x).names [] all) is.call_is
      (subst (λ x. Leads (LeadsIn s c) (plan_for call).names [] x) is.found_is lead)

  named_one : (k : Capability) (want : Kind) → named_by want k.frame ≡ k.frame ∷ [] → only want k.kind ≡ true → (g : ℕ) → k.frame ≡ g
      → is_one_of g (named_by k.kind k.frame) ≡ true
  named_one k want one wanted g same =
      ap (λ (j : Kind). is_one_of g (named_by j k.frame)) (only_is want k.kind wanted) ∙ ap (is_one_of g) one
      ∙ ap (λ b. b || false) (eq-eqb k.frame g same)

  pub table_footprint : is_one_of m.table (footprint_frames s c call) ≡ true
  table_footprint = ap (λ x. is_one_of m.table (footprint_frames s c x)) is.call_is
      ∙ footprint_found s c whole all leads Third is.table refl m.table
      (named_one is.table Kind.Table refl (named_kind s c is.x (to_use (only Kind.Table)) is.table leads.1.1.0) m.table (sym is.table_is))

  pub pages_footprint : is_one_of m.pages (footprint_frames s c call) ≡ true
  pages_footprint = ap (λ x. is_one_of m.pages (footprint_frames s c x)) is.call_is
      ∙ footprint_found s c whole all leads Fourth is.pages refl m.pages
      (named_one is.pages Kind.Pages refl (named_kind s c is.p (to_use (only Kind.Pages)) is.pages leads.1.1.1.0) m.pages (sym is.pages_is))

  head_same : (x y : Due) (xs ys : List Due) → x ∷ xs ≡ y ∷ ys → x ≡ y
  head_same x y xs ys h = cc

  tail_same : (x y : Due) (xs ys : List Due) → x ∷ xs ≡ y ∷ ys → xs ≡ ys
  tail_same x y xs ys h = cc

  list_footprint : (xs : List Due) (d : Due) (rest : List Due) → comp_due_list m ≡ xs ++ d ∷ rest
      → is_one_of d.frame (footprint_frames s c call) ≡ true
  list_footprint [] d rest h = subst (λ (y : Due). is_one_of y.frame (footprint_frames s c call) ≡ true) (head_same _ _ _ _ h)
      (comp_footprint call ks m is s c)
  list_footprint (y ∷ []) d rest h = subst (λ (y : Due). is_one_of y.frame (footprint_frames s c call) ≡ true)
      (head_same _ _ _ _ (tail_same _ _ _ _ h)) table_footprint
  list_footprint (y ∷ z ∷ []) d rest h = subst (λ (y : Due). is_one_of y.frame (footprint_frames s c call) ≡ true)
      (head_same _ _ _ _ (tail_same _ _ _ _ (tail_same _ _ _ _ h))) pages_footprint
  list_footprint (y ∷ z ∷ w ∷ ys) d rest h =
      absurd (no_due ys d rest (tail_same _ _ _ _ (tail_same _ _ _ _ (tail_same _ _ _ _ h))))

  pub comp_due_footprint : (at : CompAt) (xs : List Due) (d : Due) (rest : List Due) → comp_dues m at ≡ xs ++ d ∷ rest
      → is_one_of d.frame (footprint_frames s c call) ≡ true
  comp_due_footprint CompAt.Load xs d rest h = absurd (no_due xs d rest h)
  comp_due_footprint (CompAt.Mark word) xs d rest h = absurd (no_due xs d rest h)
  comp_due_footprint _ xs d rest h = list_footprint xs d rest h

-- While its counts are acquired it has to store the word of its frame, as it was found.
pub comp_left : (setup : Setting) (t u : Trace) (c : ℕ) (counts : List Acquired) (call : Call) (ks : List Capability) (m : CompMaking)
    → IsCompCall call ks m
    → (at : CompAt) → comp_meets_number at ≡ false → KnowsCompAt setup t c m at → KnowsTail setup u c call counts (comp_undo m at)
comp_left setup t u c counts call ks m is CompAt.Load early knows = tt
comp_left setup t u c counts call ks m is (CompAt.Mark word) early knows = tt
comp_left setup t u c counts call ks m is (CompAt.LoadLive word) early knows =
    blank_left m.frame word call (comp_changes call ks m is) (comp_argument call ks m is) knows
comp_left setup t u c counts call ks m is (CompAt.Scan word last q) early knows = absurd (false≢true (sym early))
comp_left setup t u c counts call ks m is (CompAt.Close word last) early knows = absurd (false≢true (sym early))
comp_left setup t u c counts call ks m is (CompAt.Store word last n) early knows = absurd (false≢true (sym early))
comp_left setup t u c counts call ks m is (CompAt.Fill word last) early knows = absurd (false≢true (sym early))
