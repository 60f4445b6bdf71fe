-- A call that makes an object: its names, and what is left of its rule after them.
use Rattle.count_invariant.specs.step_ways.proofs as low
use low.{to_use, ◌≡◌, ◌≢◌, ℕ, Bool, true, List, [], ◌∷◌, Some, None, refl, sym, ◌∙◌, ap, subst, IsTrue, if◌then◌else◌, false≢true}
use low.{Capability, Place, Free, Grace, Object, Blank, Table, Leaf, Pages, Pleaf, Thread, Tcap, Kernel, Thing, State, put, Target, Under}
use low.{found, only, fits, Rule, Vacant, Does, Found, named, outside, not_blank, rule_of, named_fit, IsSound, of_kind, plan_for, Leads}
use low.{LeadsIn, rule_after, names_after, NextFree, next_of, NewObject, object_made, object_dues, Due, AreDuesApart, Make as make_call}
use low.{plain_cap, Edit, ◌++◌, Kind, Holds, with_frame, with_place, place_names, frame_names, Slot, Change, does}
use Rattle.count_invariant.specs.boot_words.specs.kernel_rules.specs.{Make, no_grace, is_place_of, Fill, Node, Become, Nothing}
use Rattle.std.proofs.lemmas.List.Elements.{All-nil, All-cons}
use Rattle.count_invariant.specs.act_states.specs.Objects.{object_kind, one_more}

-- The object that is made.
abbrev pub new_object : NewObject → Object
new_object NewObject.Table = Table
new_object NewObject.Leaf = Leaf
new_object NewObject.Pages = Pages
new_object NewObject.Pleaf = Pleaf
new_object (NewObject.Thread comp) = Thread (record { stack = comp ∷ []; runs_on = None })
new_object (NewObject.Tcap sched quality) = Tcap (record { budget = 0; qualities = (sched, quality) ∷ [] })

-- The state in which the frame is made ready for it: every place of a node is free, without a grace period.
abbrev pub ready_place : NewObject → State → ℕ → ℕ → ℕ → Place
ready_place NewObject.Table s f = put s.place f (λ i. Free)
ready_place NewObject.Leaf s f = put s.place f (λ i. Free)
ready_place NewObject.Pages s f = put s.place f (λ i. Free)
ready_place NewObject.Pleaf s f = put s.place f (λ i. Free)
ready_place (NewObject.Thread comp) s f = s.place
ready_place (NewObject.Tcap sched quality) s f = s.place

abbrev pub ready_grace : NewObject → State → ℕ → Thing → Grace
ready_grace NewObject.Table s f = λ x. if is_place_of f x then no_grace else s.grace x
ready_grace NewObject.Leaf s f = λ x. if is_place_of f x then no_grace else s.grace x
ready_grace NewObject.Pages s f = λ x. if is_place_of f x then no_grace else s.grace x
ready_grace NewObject.Pleaf s f = λ x. if is_place_of f x then no_grace else s.grace x
ready_grace (NewObject.Thread comp) s f = s.grace
ready_grace (NewObject.Tcap sched quality) s f = s.grace

abbrev pub readied : NewObject → State → ℕ → State
readied object s f = record s { place = ready_place object s f; grace = ready_grace object s f }

-- The edit that makes it.
abbrev pub made_by : NewObject → ℕ → Edit
made_by NewObject.Table f = Node f Table
made_by NewObject.Leaf f = Node f Leaf
made_by NewObject.Pages f = Node f Pages
made_by NewObject.Pleaf f = Node f Pleaf
made_by (NewObject.Thread comp) f = Become f (Kernel (Thread (record { stack = comp ∷ []; runs_on = None })))
made_by (NewObject.Tcap sched quality) f = Become f (Kernel (Tcap (record { budget = 0; qualities = (sched, quality) ∷ [] })))

-- The change of such a call, in the state that is made ready.
abbrev pub makes : State → ℕ → Object → Kind → Slot → Change
makes s f object k at = record {
  value = Nothing;
  next = with_place (with_frame s f (Kernel object)) at.node at.index (Holds (plain_cap k f));
  takes = place_names (Holds (plain_cap k f)) ++ frame_names (Kernel object);
  begins = [];
}

pub made_is : (c : ℕ) (s : State) (object : NewObject) (f : ℕ) (at : Slot)
    → does c s Nothing (made_by object f ∷ Fill at (plain_cap (object_kind object) f) ∷ [])
    ≡ makes (readied object s f) f (new_object object) (object_kind object) at
made_is c s NewObject.Table f at = refl
made_is c s _ f at = refl

-- What is left of the rule of such a call after its names.
abbrev pub make_rest : State → Capability → ℕ → NewObject → Target → Rule
make_rest s range f object target =
    Vacant target λ at. Does (outside (found range) f ∷ not_blank s f ∷ []) Nothing
    (made_by object f ∷ Fill at (plain_cap (object_kind object) f) ∷ [])

-- Its first two names have led to a range and a table.
pub record TwoFound (s : State) (c r u : ℕ) (ks : List Capability) : Type 0 where
  pub range : Capability
  pub table : Capability
  pub rest : List Capability
  pub found_is : ks ≡ range ∷ table ∷ rest
  pub first : named s c r (to_use (only Kind.Range)) ≡ Found range
  pub second : named s c u (to_use (only Kind.Table)) ≡ Found table

two_found : (s : State) (c r u : ℕ) (ks : List Capability) → Leads (LeadsIn s c) (of_kind Kind.Range r ∷ of_kind Kind.Table u ∷ []) [] ks
    → names_after (of_kind Kind.Range r ∷ of_kind Kind.Table u ∷ []) ks ≡ []
    → (k : Capability) × (j : Capability) × (ks ≡ k ∷ j ∷ []) × (named s c r (to_use (only Kind.Range)) ≡ Found k)
    × (named s c u (to_use (only Kind.Table)) ≡ Found j)
two_found s c r u [] leads none = absurd (not_none none)
  where
    not_none : of_kind Kind.Range r ∷ of_kind Kind.Table u ∷ [] ≡ [] → ⊥
    not_none h = cc
two_found s c r u (k ∷ []) leads none = absurd (not_none none)
  where
    not_none : of_kind Kind.Table u ∷ [] ≡ [] → ⊥
    not_none h = cc
two_found s c r u (k ∷ j ∷ []) leads none = (k, j, refl, leads.0, leads.1.0)
two_found s c r u (k ∷ j ∷ i ∷ ks) leads none = absurd leads.1.1

-- A thread's third name has led to a component.
three_found : (s : State) (c r u n : ℕ) (ks : List Capability)
    → Leads (LeadsIn s c) (of_kind Kind.Range r ∷ of_kind Kind.Table u ∷ of_kind Kind.Comp n ∷ []) [] ks
    → names_after (of_kind Kind.Range r ∷ of_kind Kind.Table u ∷ of_kind Kind.Comp n ∷ []) ks ≡ []
    → (k : Capability) × (j : Capability) × (i : Capability) × (ks ≡ k ∷ j ∷ i ∷ []) × (named s c r (to_use (only Kind.Range)) ≡ Found k)
    × (named s c u (to_use (only Kind.Table)) ≡ Found j) × (named s c n (to_use (only Kind.Comp)) ≡ Found i)
three_found s c r u n [] leads none = absurd (not_none none)
  where
    not_none : of_kind Kind.Range r ∷ of_kind Kind.Table u ∷ of_kind Kind.Comp n ∷ [] ≡ [] → ⊥
    not_none h = cc
three_found s c r u n (k ∷ []) leads none = absurd (not_none none)
  where
    not_none : of_kind Kind.Table u ∷ of_kind Kind.Comp n ∷ [] ≡ [] → ⊥
    not_none h = cc
three_found s c r u n (k ∷ j ∷ []) leads none = absurd (not_none none)
  where
    not_none : of_kind Kind.Comp n ∷ [] ≡ [] → ⊥
    not_none h = cc
three_found s c r u n (k ∷ j ∷ i ∷ []) leads none = (k, j, i, refl, leads.0, leads.1.0, leads.1.1.0)
three_found s c r u n (k ∷ j ∷ i ∷ h ∷ ks) leads none = absurd leads.1.1.1

-- The frames that an object names have objects of their own.
abbrev pub HasObjects : State → NewObject → Type 0
HasObjects s (NewObject.Thread comp) = IsTrue (fits Kind.Comp (s.frame comp))
HasObjects s object = Unit {0}

-- A call that makes an object.
pub record IsObjectMake (s : State) (c r f u b : ℕ) (what : Make) (object : NewObject) (ks : List Capability) : Type 0 where
  pub two : TwoFound s c r u ks
  pub rule : rule_after (rule_of s c (make_call what r f u b)) ks ≡ make_rest s two.range f object (Under (found two.table) b)
  pub next : next_of (plan_for (make_call what r f u b)) ks ≡ NextFree (Under (found two.table) b)
  pub names : (o : ℕ → Bool) → IsSound s o → o c ≡ true → HasObjects s object

some_object : (x y : NewObject) → Some x ≡ Some y → x ≡ y
some_object x y h = cc

module _ (s : State) (c r f u b : ℕ) where
  -- a node, or a temporal capability, which have two names
  by_two : (what : Make) (object made : NewObject) → Some made ≡ Some object → (ks : List Capability)
      → Leads (LeadsIn s c) (of_kind Kind.Range r ∷ of_kind Kind.Table u ∷ []) [] ks
      → names_after (of_kind Kind.Range r ∷ of_kind Kind.Table u ∷ []) ks ≡ []
      → ((k j : Capability) → rule_after (rule_of s c (make_call what r f u b)) (k ∷ j ∷ []) ≡ make_rest s k f made (Under (found j) b))
      → ((k j : Capability) → next_of (plan_for (make_call what r f u b)) (k ∷ j ∷ []) ≡ NextFree (Under (found j) b))
      → HasObjects s made
      → IsObjectMake s c r f u b what object ks
  by_two what object made is ks leads none rule next names =
      let two = two_found s c r u ks leads none in record {
        two = record { range = two.0; table = two.1; rest = []; found_is = two.2; first = two.3; second = two.4 };
        rule = ap (rule_after (rule_of s c (make_call what r f u b))) two.2 ∙ rule two.0 two.1
            ∙ ap (λ o. make_rest s two.0 f o (Under (found two.1) b)) (some_object made object is);
        next = ap (next_of (plan_for (make_call what r f u b))) two.2 ∙ next two.0 two.1;
        names = λ o sound inside. subst (HasObjects s) (some_object made object is) names;
      }

  pub object_make : (what : Make) (object : NewObject) (ks : List Capability) → object_made what ks ≡ Some object
      → Leads (LeadsIn s c) (plan_for (make_call what r f u b)).names [] ks
      → names_after (plan_for (make_call what r f u b)).names ks ≡ []
      → IsObjectMake s c r f u b what object ks
  object_make Make.Table object ks is leads none =
      by_two Make.Table object NewObject.Table is ks leads none (λ k j. refl) (λ k j. refl) tt
  object_make Make.Leaf object ks is leads none =
      by_two Make.Leaf object NewObject.Leaf is ks leads none (λ k j. refl) (λ k j. refl) tt
  object_make Make.Pages object ks is leads none =
      by_two Make.Pages object NewObject.Pages is ks leads none (λ k j. refl) (λ k j. refl) tt
  object_make Make.Pleaf object ks is leads none =
      by_two Make.Pleaf object NewObject.Pleaf is ks leads none (λ k j. refl) (λ k j. refl) tt
  object_make (Make.Tcap sched quality) object ks is leads none =
      by_two (Make.Tcap sched quality) object (NewObject.Tcap sched quality) is ks leads none (λ k j. refl) (λ k j. refl) tt
  object_make (Make.Thread comp) object ks is leads none =
      let three = three_found s c r u comp ks leads none in
      let made : NewObject = NewObject.Thread three.2.frame in
      let same : made ≡ object = some_object made object (sym (ap (object_made (Make.Thread comp)) three.3) ∙ is) in
      record {
        two = record {
          range = three.0;
          table = three.1;
          rest = three.2 ∷ [];
          found_is = three.3;
          first = three.4;
          second = three.5;
        };
        rule = ap (rule_after (rule_of s c (make_call (Make.Thread comp) r f u b))) three.3
            ∙ ap (λ o. make_rest s three.0 f o (Under (found three.1) b)) same;
        next = ap (next_of (plan_for (make_call (Make.Thread comp) r f u b))) three.3;
        names = λ o sound inside. subst (HasObjects s) same (named_fit s o c comp Kind.Comp three.2 sound inside three.6);
      }
  object_make (Make.Comp table pages live) object ks is leads none = absurd (cc)

-- A make of another object than a component.
abbrev pub IsObject : Make → Type 0
IsObject (Make.Comp table pages live) = ⊥
IsObject what = Unit {0}

-- The object that a call makes whose names have all led to something.
pub made_of : (what : Make) → IsObject what → (r f u b : ℕ) (ks : List Capability)
    → names_after (plan_for (make_call what r f u b)).names ks ≡ []
    → (R : Type 0) → ((object : NewObject) → object_made what ks ≡ Some object → R) → R
made_of Make.Table other r f u b ks none R by = by NewObject.Table refl
made_of Make.Leaf other r f u b ks none R by = by NewObject.Leaf refl
made_of Make.Pages other r f u b ks none R by = by NewObject.Pages refl
made_of Make.Pleaf other r f u b ks none R by = by NewObject.Pleaf refl
made_of (Make.Tcap sched quality) other r f u b ks none R by = by (NewObject.Tcap sched quality) refl
made_of (Make.Thread comp) other r f u b [] none R by = absurd (not_none none)
  where
    not_none : of_kind Kind.Range r ∷ of_kind Kind.Table u ∷ of_kind Kind.Comp comp ∷ [] ≡ [] → ⊥
    not_none h = cc
made_of (Make.Thread comp) other r f u b (k ∷ []) none R by = absurd (not_none none)
  where
    not_none : of_kind Kind.Table u ∷ of_kind Kind.Comp comp ∷ [] ≡ [] → ⊥
    not_none h = cc
made_of (Make.Thread comp) other r f u b (k ∷ j ∷ []) none R by = absurd (not_none none)
  where
    not_none : of_kind Kind.Comp comp ∷ [] ≡ [] → ⊥
    not_none h = cc
made_of (Make.Thread comp) other r f u b (k ∷ j ∷ i ∷ ks) none R by = by (NewObject.Thread i.frame) refl
made_of (Make.Comp table pages live) other r f u b ks none R by = absurd other

-- What such an object names is not its frame, which is blank.
pub dues_apart : (s : State) (f : ℕ) (object : NewObject) → s.frame f ≡ Kernel Blank → HasObjects s object
    → AreDuesApart (object_dues object f)
dues_apart s f (NewObject.Thread comp) blank names = (
  All-cons (λ (x : Due). f ≢ x.frame) (one_more comp) []
      (λ same. false≢true (sym (ap (fits Kind.Comp) (sym (ap s.frame same) ∙ blank)) ∙ names)) (All-nil (λ (x : Due). f ≢ x.frame)),
  (All-nil (λ (x : Due). comp ≢ x.frame), tt),
)
dues_apart s f _ blank names = (All-nil (λ (x : Due). f ≢ x.frame), tt)
