-- What a core in an open call has found, and relies on, stays through the events of other cores.
use Rattle.kernel_invariant.specs.kernel_rules.proofs as low
use low.{◌≡◌, ◌≢◌, inl, inr, ℕ, zero, suc, ◌<◌, ◌≤◌, ◌%◌, ◌&&◌, arith, Bool, true, false, refl, sym, ◌∙◌, ap, subst, leb as nat_le}
use low.{if◌then◌else◌, IsTrue, List, [], ◌∷◌, Option, Some, None, false≢true, Setting, IsSetting, Capability, Kind, Place, Free, Holds}
use low.{Quiescing, CompFields, Table, Leaf, Pages, Pleaf, Comp, Thread, Frame, Kernel, Core, PlaceOf, comp_in, thread_in, first_of_stack}
use low.{thread_of, comp_of, named_by, place_names, frame_names, times, refs, Want, Slot, Named, Under, place_at, usable_in, usable, linked}
use low.{slot_in, reached, root_slot, root_at, only, own, Found, and_then, or_refuse, of_kind, named, fits, IsGood, Event, after, core_of}
use low.{Phase, Open, is_in, is_open, phase_of, IsRun, is_node, is_fixed, IsGuarded, Reply}
use Rattle.kernel_invariant.proofs.{IsStack, IsObjectGood, WaitsForAll, IsSound, only_is, unnamed, below_by, opened, limits_stay}
use Rattle.kernel_invariant.proofs.{runs_sound, times_first, times_cons, some_inj, none_some, then_parts, or_found, usable_good}
use Rattle.kernel_invariant.specs.kernel_rules.specs.{State.State, Life.may_act, Relies.Relies}
use Rattle.found_stays.proofs.SparesRuns.{SparesAll, inside_of, inside_facts, event_spares}
use Rattle.{std.proofs.lemmas.Bool.cases_lt, found_stays.proofs.Apart.node_fixed, found_stays.proofs.Apart.acts_in}

-- What core c in an open call has and relies on in s, it has and relies on in t.
pub record Stay (s t : State) (c : ℕ) : Type 0 where
  pub core : t.core c ≡ s.core c
  pub thread : thread_of t c ≡ thread_of s c
  pub comp : comp_of t c ≡ comp_of s c
  pub guarded : (f : ℕ) → IsGuarded s c f → IsGuarded t c f
  pub frame : (f : ℕ) → IsTrue (is_fixed (s.frame f)) → IsGuarded s c f → t.frame f ≡ s.frame f
  pub relies : (f : ℕ) → Relies s c f → Relies t c f
  pub usable : (at : Slot) (k : Capability) → Relies s c at.node → usable s c at ≡ Some k → usable t c at ≡ Some k
  pub reached : (table : Named) (n : ℕ) (at : Slot) → Relies s c table.frame
      → reached s c (Under table n) ≡ Some at → reached t c (Under table n) ≡ Some at
  pub acts : IsTrue (may_act s c) → IsTrue (may_act t c)
  pub named : (n : ℕ) (wanted : Want) (k : Capability) → named s c n wanted ≡ Found k → named t c n wanted ≡ Found k

pub stay_same : (s : State) (c : ℕ) → Stay s s c
stay_same s c = record {
  core = refl;
  thread = refl;
  comp = refl;
  guarded = λ f g. g;
  frame = λ f fixed g. refl;
  relies = λ f r. r;
  usable = λ at k r e. e;
  reached = λ table n at r e. e;
  acts = λ may. may;
  named = λ n wanted k e. e;
}

pub stay_then : (s t u : State) (c : ℕ) → Stay s t c → Stay t u c → Stay s u c
stay_then s t u c a b = record {
  core = b.core ∙ a.core;
  thread = b.thread ∙ a.thread;
  comp = b.comp ∙ a.comp;
  guarded = λ f g. b.guarded f (a.guarded f g);
  frame = λ f fixed g. let e : t.frame f ≡ s.frame f = a.frame f fixed g in
      b.frame f (subst (λ x. IsTrue (is_fixed x)) (sym e) fixed) (a.guarded f g) ∙ e;
  relies = λ f r. b.relies f (a.relies f r);
  usable = λ at k r e. b.usable at k (a.relies at.node r) (a.usable at k r e);
  reached = λ table n at r e. b.reached table n at (a.relies table.frame r) (a.reached table n at r e);
  acts = λ may. b.acts (a.acts may);
  named = λ n wanted k e. b.named n wanted k (a.named n wanted k e);
}

-- What is named is referenced.
pub object_named : (s : State) (o : ℕ → Bool) (g f : ℕ) → IsSound s o → 1 ≤ times f (frame_names (s.frame g)) → 0 < refs s f
object_named s o g f h one = by_refs (refs s f) refl
  where
    none : refs s f ≡ 0 → times f (frame_names (s.frame g)) ≡ 0
    none nothing = elim (cases_lt g s.limits.frames) [
      | inl below ↦ (unnamed s f nothing).objects g below
      | inr past ↦ ap (λ x. times f (frame_names x)) (h.beyond g past)
    ]

    by_refs : (n : ℕ) → refs s f ≡ n → 0 < refs s f
    by_refs zero is = absurd (let z = none is in omega (arith, one, z))
    by_refs (suc n) is = omega (arith, is)

pub place_named : (s : State) (o : ℕ → Bool) (g i f : ℕ) (k : Capability) → IsSound s o
    → s.place g i ≡ Holds k → 1 ≤ times f (named_by k.kind k.frame) → 0 < refs s f
place_named s o g i f k h at one = by_refs (refs s f) refl
  where
    none : refs s f ≡ 0 → times f (named_by k.kind k.frame) ≡ 0
    none nothing =
        let b : IsTrue (is_node (s.frame g)) × (i < 64) = h.bare g i k at in
        subst (λ p. times f (place_names p) ≡ 0) at ((unnamed s f nothing).places g i (below_by s o g h is_node refl b.0) b.1)

    by_refs : (n : ℕ) → refs s f ≡ n → 0 < refs s f
    by_refs zero is = absurd (let z = none is in omega (arith, one, z))
    by_refs (suc n) is = omega (arith, is)

-- Whether a capability of a kind names a node.
abbrev pub names_node : Kind → Bool
names_node Kind.Table = true
names_node Kind.Leaf = true
names_node Kind.Pages = true
names_node Kind.Pleaf = true
names_node Kind.Link = true
names_node _ = false

node_fit : (k : Kind) (x : Frame) → IsTrue (names_node k) → IsTrue (fits k x) → IsTrue (is_node x)
node_fit Kind.Table (Kernel Table) n h = refl
node_fit Kind.Table _ n h = absurd (false≢true h)
node_fit Kind.Leaf (Kernel Leaf) n h = refl
node_fit Kind.Leaf _ n h = absurd (false≢true h)
node_fit Kind.Pages (Kernel Pages) n h = refl
node_fit Kind.Pages _ n h = absurd (false≢true h)
node_fit Kind.Pleaf (Kernel Pleaf) n h = refl
node_fit Kind.Pleaf _ n h = absurd (false≢true h)
node_fit Kind.Link (Kernel Leaf) n h = refl
node_fit Kind.Link (Kernel Pleaf) n h = refl
node_fit Kind.Link _ n h = absurd (false≢true h)
node_fit _ x n h = absurd (false≢true n)

node_names : (k : Kind) (f : ℕ) → IsTrue (names_node k) → named_by k f ≡ f ∷ []
node_names Kind.Range f n = absurd (false≢true n)
node_names _ f n = refl

-- A slot that is reached under a number is in the leaf of a link.
pub link_of : (u : Option Capability) (b : Bool) (i : ℕ) (at : Slot) → (if b then slot_in (linked u) i else None) ≡ Some at
    → (j : Capability) × (u ≡ Some j) × IsTrue (only Kind.Link j.kind) × (j.frame ≡ at.node)
link_of u false i at e = absurd (none_some at e)
link_of None true i at e = absurd (none_some at e)
link_of (Some j) true i at e = by_kind (only Kind.Link j.kind) refl e
  where
    by_kind : (b : Bool) → only Kind.Link j.kind ≡ b → slot_in (if b then Some j.frame else None) i ≡ Some at
        → (k : Capability) × (Some j ≡ Some k) × IsTrue (only Kind.Link k.kind) × (k.frame ≡ at.node)
    by_kind true is e = (j, refl, is, ap (λ (x : Slot). x.node) (some_inj record { node = j.frame; index = i } at e))
    by_kind false is e = absurd (none_some at e)

link_names : (k : Kind) → IsTrue (only Kind.Link k) → IsTrue (names_node k)
link_names k is = subst (λ j. IsTrue (names_node j)) (sym (only_is Kind.Link k is)) refl

-- The frame of the component in which a core works.
abbrev pub own_comp : State → ℕ → ℕ
own_comp s c = first_of_stack (thread_of s c).stack

-- The component in which a core of the machine works is one, and is referenced.
module _ (s : State) (o : ℕ → Bool) (c : ℕ) (h : IsSound s o) (below : c < s.limits.cores) where
  own_thread : IsTrue (fits Kind.Thread (s.frame (s.core c).thread))
  own_thread = (h.cores c below).0

  stack_of : (x : Frame) → IsTrue (fits Kind.Thread x) → IsObjectGood s x → IsStack s (thread_in x).stack
  stack_of (Kernel (Thread t)) fit good = good
  stack_of _ fit good = absurd (false≢true fit)

  names_of : (x : Frame) → IsTrue (fits Kind.Thread x) → frame_names x ≡ (thread_in x).stack
  names_of (Kernel (Thread t)) fit = refl
  names_of _ fit = absurd (false≢true fit)

  top_fit : (fs : List ℕ) → IsStack s fs → IsTrue (fits Kind.Comp (s.frame (first_of_stack fs)))
  top_fit [] is = absurd is
  top_fit (f ∷ fs) is = is.0

  top_named : (fs : List ℕ) → IsStack s fs → 1 ≤ times (first_of_stack fs) fs
  top_named [] is = absurd is
  top_named (f ∷ fs) is = times_first f fs

  own_stack : IsStack s (thread_of s c).stack
  own_stack = stack_of (s.frame (s.core c).thread) own_thread (h.objects (s.core c).thread)

  pub comp_fit : IsTrue (fits Kind.Comp (s.frame (own_comp s c)))
  comp_fit = top_fit (thread_of s c).stack own_stack

  pub comp_named : 0 < refs s (own_comp s c)
  comp_named = object_named s o (s.core c).thread (own_comp s c) h
      (subst (λ l. 1 ≤ times (own_comp s c) l) (sym (names_of (s.frame (s.core c).thread) own_thread))
      (top_named (thread_of s c).stack own_stack))

comp_is : (x : Frame) → IsTrue (fits Kind.Comp x) → (x ≡ Kernel (Comp (comp_in x))) × IsTrue (is_fixed x)
comp_is (Kernel (Comp k)) fit = (refl, refl)
comp_is _ fit = absurd (false≢true fit)

module _ (s : State) (o : ℕ → Bool) (c : ℕ) (h : IsSound s o) (q : o c ≡ true) where
  -- The frame that a capability names which core c may use, but a range, is guarded for it.
  pub usable_guarded : (at : Slot) (k : Capability)
      → named_by k.kind k.frame ≡ k.frame ∷ [] → usable s c at ≡ Some k → IsGuarded s c k.frame
  usable_guarded at k names e = by_place (place_at s at) refl e
    where
      by_wait : (j : Capability) (b : Bool) → (if b then Some j else None) ≡ Some k → (b ≡ true) × (j ≡ k)
      by_wait j true q = (refl, some_inj j k q)
      by_wait j false q = absurd (none_some k q)

      by_place : (p : Place) → place_at s at ≡ p
          → usable_in p ((s.grace (PlaceOf at.node at.index)).waits c) ≡ Some k → IsGuarded s c k.frame
      by_place Free is e = absurd (none_some k e)
      by_place (Holds j) is e =
          let same : j ≡ k = some_inj j k e in
          inl (place_named s o at.node at.index k.frame k h (is ∙ ap Holds same)
          (subst (λ l. 1 ≤ times k.frame l) (sym names) (times_first k.frame [])))
      by_place (Quiescing j) is e =
          let w : ((s.grace (PlaceOf at.node at.index)).waits c ≡ true) × (j ≡ k) =
          by_wait j ((s.grace (PlaceOf at.node at.index)).waits c) e in
          let a : IsGood s k × WaitsForAll s c (named_by k.kind k.frame) = h.waiting at.node at.index k c (is ∙ ap Quiescing w.1) q w.0 in
          let l : WaitsForAll s c (k.frame ∷ []) = subst (WaitsForAll s c) names a.1 in
          inr l.0

  pub usable_relies : (at : Slot) (k : Capability) → IsTrue (names_node k.kind) → usable s c at ≡ Some k → Relies s c k.frame
  usable_relies at k n e = record {
    node = node_fit k.kind (s.frame k.frame) n (usable_good s o c at k h q e).fit;
    guarded = usable_guarded at k (node_names k.kind k.frame n) e;
  }

  -- The component in which core c works, and its table and pages.
  below : c < s.limits.cores
  below = (h.inside c q).1

  pub comp_guarded : IsGuarded s c (own_comp s c)
  comp_guarded = inl (comp_named s o c h below)

  pub comp_fixed : IsTrue (is_fixed (s.frame (own_comp s c)))
  comp_fixed = (comp_is (s.frame (own_comp s c)) (comp_fit s o c h below)).1

  pub fields : IsTrue (fits Kind.Table (s.frame (comp_of s c).table)) × IsTrue (fits Kind.Pages (s.frame (comp_of s c).pages))
  fields = subst (IsObjectGood s) (comp_is (s.frame (own_comp s c)) (comp_fit s o c h below)).0 (h.objects (own_comp s c))

  field_names : frame_names (s.frame (own_comp s c)) ≡ (comp_of s c).table ∷ (comp_of s c).pages ∷ []
  field_names = ap frame_names (comp_is (s.frame (own_comp s c)) (comp_fit s o c h below)).0

  pub table_relies : Relies s c (comp_of s c).table
  table_relies = record {
    node = node_fit Kind.Table (s.frame (comp_of s c).table) refl fields.0;
    guarded = inl (object_named s o (own_comp s c) (comp_of s c).table h
        (subst (λ l. 1 ≤ times (comp_of s c).table l) (sym field_names) (times_first (comp_of s c).table ((comp_of s c).pages ∷ []))));
  }

  pub pages_relies : Relies s c (comp_of s c).pages
  pages_relies = record {
    node = node_fit Kind.Pages (s.frame (comp_of s c).pages) refl fields.1;
    guarded = inl (object_named s o (own_comp s c) (comp_of s c).pages h
        (subst (λ l. 1 ≤ times (comp_of s c).pages l) (sym field_names)
        (let p = times_cons (comp_of s c).pages (comp_of s c).table ((comp_of s c).pages ∷ []) in
        let q = times_first (comp_of s c).pages [] in omega (arith, p, q))));
  }

  -- The leaf in which a slot is reached under a number.
  pub reached_relies : (table : Named) (n : ℕ) (at : Slot) → reached s c (Under table n) ≡ Some at → Relies s c at.node
  reached_relies table n at e =
      let l = link_of (usable s c (root_slot table.frame n)) (table.found && nat_le n 4095) (n % 64) at e in
      subst (Relies s c) l.3 (usable_relies (root_slot table.frame n) l.0 (link_names l.0.kind l.2) l.1)

-- A name that is found: a slot is reached, and what may be used there is of the wanted kind.
pub name_parts : (s : State) (c n : ℕ) (wanted : Want) (k : Capability) → named s c n wanted ≡ Found k
    → (at : Slot) × (reached s c (own s c n) ≡ Some at) × (j : Capability) × (usable s c at ≡ Some j) × (of_kind wanted j ≡ Found k)
name_parts s c n wanted k e =
    let a = then_parts (or_refuse (reached s c (own s c n)) Reply.NoSlot)
    (λ at. and_then (or_refuse (usable s c at) Reply.Empty) λ k. of_kind wanted k) k e in
    let b = then_parts (or_refuse (usable s c a.0) Reply.Empty) (λ k. of_kind wanted k) k a.2 in
    (a.0, or_found (reached s c (own s c n)) Reply.NoSlot a.0 a.1, b.0, or_found (usable s c a.0) Reply.Empty b.0 b.1, b.2)

name_from : (s : State) (c n : ℕ) (wanted : Want) (at : Slot) (j k : Capability)
    → reached s c (own s c n) ≡ Some at → usable s c at ≡ Some j
    → of_kind wanted j ≡ Found k → named s c n wanted ≡ Found k
name_from s c n wanted at j k r u f =
    ap (λ x. and_then (or_refuse x Reply.NoSlot) λ at. and_then (or_refuse (usable s c at) Reply.Empty) λ k. of_kind wanted k) r
    ∙ ap (λ x. and_then (or_refuse x Reply.Empty) λ k. of_kind wanted k) u ∙ f

-- What is a core's own stays through another core's change, whether it is in a call or not.
pub record OwnStay (s t : State) (c : ℕ) : Type 0 where
  pub core : t.core c ≡ s.core c
  pub thread : thread_of t c ≡ thread_of s c
  pub comp : comp_of t c ≡ comp_of s c

pub own_by : (s t : State) (o u : ℕ → Bool) (d c : ℕ) → IsSound s o → c < s.limits.cores → c ≢ d → SparesAll s t u d → OwnStay s t c
own_by s t o u d c h below other a = record { core = core; thread = thread; comp = comp }
  where
    core : t.core c ≡ s.core c
    core = a.spares.core c other

    thread : thread_of t c ≡ thread_of s c
    thread = ap (λ (x : Core). thread_in (t.frame x.thread)) core ∙ ap thread_in (a.spares.thread c other below)

    comp : comp_of t c ≡ comp_of s c
    comp = ap (λ x. comp_in (t.frame (first_of_stack x.stack))) thread
        ∙ ap comp_in (a.spares.named (own_comp s c)
        (comp_is (s.frame (own_comp s c)) (comp_fit s o c h below)).1 (comp_named s o c h below))

-- What core c, in a call, relies on in s, it relies on in t.
pub record StayIn (s t : State) (c : ℕ) : Type 0 where
  pub own : OwnStay s t c
  pub guarded : (f : ℕ) → IsGuarded s c f → IsGuarded t c f
  pub frame : (f : ℕ) → IsTrue (is_fixed (s.frame f)) → IsGuarded s c f → t.frame f ≡ s.frame f
  pub relies : (f : ℕ) → Relies s c f → Relies t c f
  pub usable : (at : Slot) (k : Capability) → Relies s c at.node → usable s c at ≡ Some k → usable t c at ≡ Some k
  pub reached : (table : Named) (n : ℕ) (at : Slot) → Relies s c table.frame
      → reached s c (Under table n) ≡ Some at → reached t c (Under table n) ≡ Some at
  pub acts : IsTrue (may_act s c) → IsTrue (may_act t c)

pub stay_in_same : (s : State) (c : ℕ) → StayIn s s c
stay_in_same s c = record {
  own = record { core = refl; thread = refl; comp = refl };
  guarded = λ f g. g;
  frame = λ f fixed g. refl;
  relies = λ f r. r;
  usable = λ at k r e. e;
  reached = λ table n at r e. e;
  acts = λ may. may;
}

pub stay_in_then : (s t u : State) (c : ℕ) → StayIn s t c → StayIn t u c → StayIn s u c
stay_in_then s t u c a b = record {
  own = record { core = b.own.core ∙ a.own.core; thread = b.own.thread ∙ a.own.thread; comp = b.own.comp ∙ a.own.comp };
  guarded = λ f g. b.guarded f (a.guarded f g);
  frame = λ f fixed g. let e : t.frame f ≡ s.frame f = a.frame f fixed g in
      b.frame f (subst (λ x. IsTrue (is_fixed x)) (sym e) fixed) (a.guarded f g) ∙ e;
  relies = λ f r. b.relies f (a.relies f r);
  usable = λ at k r e. b.usable at k (a.relies at.node r) (a.usable at k r e);
  reached = λ table n at r e. b.reached table n at (a.relies table.frame r) (a.reached table n at r e);
  acts = λ may. b.acts (a.acts may);
}

-- What another core's change spares stays; u are cores in a call.
pub stay_in_by : (s t : State) (o u : ℕ → Bool) (d c : ℕ) → IsSound s o
    → c < s.limits.cores → u c ≡ true → c ≢ d → SparesAll s t u d → StayIn s t c
stay_in_by s t o u d c h below q other a = record {
  own = own_by s t o u d c h below other a;
  guarded = λ f g. a.guarded c f other q g;
  frame = λ f fixed g. a.spares.frame c f other q fixed g;
  relies = λ f r. record {
    node = subst (λ x. IsTrue (is_node x))
        (sym (a.spares.frame c f other q (node_fixed (s.frame f) r.node) r.guarded)) r.node;
    guarded = a.guarded c f other q r.guarded;
  };
  usable = λ at k r e. stays at k r e;
  reached = λ table n at r e. reaches table n at r e;
  acts = λ may. subst (λ (k : CompFields). IsTrue (acts_in t c k.number k.epoch)) (sym (own_by s t o u d c h below other a).comp)
      (a.spares.acts c (comp_of s c).number (comp_of s c).epoch other q may);
}
  where
    stays : (at : Slot) (k : Capability) → Relies s c at.node → usable s c at ≡ Some k → usable t c at ≡ Some k
    stays at k r e = a.spares.place c at.node at.index k other q r.node e

    reaches : (table : Named) (n : ℕ) (at : Slot) → Relies s c table.frame
        → reached s c (Under table n) ≡ Some at → reached t c (Under table n) ≡ Some at
    reaches table n at r e =
        let l = link_of (usable s c (root_slot table.frame n)) (table.found && nat_le n 4095) (n % 64) at e in
        ap (λ u. if table.found && nat_le n 4095 then slot_in (linked u) (n % 64) else None)
        (stays (root_slot table.frame n) l.0 r l.1 ∙ sym l.1) ∙ e

-- Where its call is open, a name that it has found stays found.
stay_by : (s t : State) (o : ℕ → Bool) (c : ℕ) → IsSound s o → o c ≡ true → StayIn s t c → Stay s t c
stay_by s t o c h q a = record {
  core = a.own.core;
  thread = a.own.thread;
  comp = a.own.comp;
  guarded = a.guarded;
  frame = a.frame;
  relies = a.relies;
  usable = a.usable;
  reached = a.reached;
  acts = a.acts;
  named = λ n wanted k e.
      let p = name_parts s c n wanted k e in
      let own_root : own t c n ≡ own s c n = ap (λ (x : CompFields). Under (root_at x.table) n) a.own.comp in
      name_from t c n wanted p.0 p.2 k
      (ap (reached t c) own_root ∙ a.reached (root_at (comp_of s c).table) n p.0 (table_relies s o c h q) p.1)
      (a.usable p.0 p.2 (reached_relies s o c h q (root_at (comp_of s c).table) n p.0 p.1) p.3) p.4;
}

-- An event of another core in a run.
pub event_stay_in : (setting : Setting) → IsSetting setting → (e : Event) (events : List Event) → IsRun setting (e ∷ events)
    → (c : ℕ) → c ≢ core_of e → inside_of events c ≡ true → StayIn (after setting events) (after setting (e ∷ events)) c
event_stay_in setting lim e events run c other inside =
    stay_in_by (after setting events) (after setting (e ∷ events)) (opened events)
    (inside_of events) (core_of e) c (runs_sound setting lim events run.0)
    (inside_facts setting events run.0 c inside).1 inside other (event_spares setting lim e events run)

open_in : (p : Phase) → IsTrue (is_open p) → is_in p ≡ true
open_in (Open call) h = refl
open_in _ h = absurd (false≢true h)

pub event_stay : (setting : Setting) → IsSetting setting → (e : Event) (events : List Event) → IsRun setting (e ∷ events)
    → (c : ℕ) → c ≢ core_of e → IsTrue (is_open (phase_of events c)) → Stay (after setting events) (after setting (e ∷ events)) c
event_stay setting lim e events run c other is =
    stay_by (after setting events) (after setting (e ∷ events)) (opened events) c (runs_sound setting lim events run.0) is
    (event_stay_in setting lim e events run c other (open_in (phase_of events c) is))

pub event_own : (setting : Setting) → IsSetting setting → (e : Event) (events : List Event) → IsRun setting (e ∷ events)
    → (c : ℕ) → c < setting.cores → c ≢ core_of e → OwnStay (after setting events) (after setting (e ∷ events)) c
event_own setting lim e events run c below other =
    own_by (after setting events) (after setting (e ∷ events)) (opened events)
    (inside_of events) (core_of e) c (runs_sound setting lim events run.0)
    (subst (λ l. c < l.cores) (sym (limits_stay setting events)) below) other (event_spares setting lim e events run)
