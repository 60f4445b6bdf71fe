-- What an open call looks up is the same in two states that are one on a region, one of them reached, where the call's core reaches nothing
-- outside of it; and so it is in two states that are one for all that the machine has.
use Rattle.kernel_laws.proofs.{◌≡◌, inl, inr, ℕ, ◌+◌, ◌%◌, ◌<◌, ◌≤◌, ◌==◌, Bool, true, false, not, ◌&&◌, refl, ◌∙◌, ap, subst, arith}
use Rattle.kernel_laws.proofs.{leb as nat_le, ltb as nat_lt, if◌then◌else◌, IsTrue, List, [], ◌∷◌, Option, Some, None, find, false≢true}
use Rattle.kernel_laws.proofs.{leb-true, ltb-true, lt-ltb, Capability, Kind, Reply, Place, Free, Holds, Quiescing, CompFields, ThreadFields}
use Rattle.kernel_laws.proofs.{Table, Pages, Comp, Thread, Frame, Untyped, Kernel, Thing, PlaceOf, Limits, Core, State, thread_in, comp_in}
use Rattle.kernel_laws.proofs.{first_of_stack, thread_of, comp_of, Want, Slot, Named, found, to_use, only, root, root_at, Target, Under}
use Rattle.kernel_laws.proofs.{InRoot, place_at, held_in, usable_in, usable, linked, slot_in, reached, root_slot, own, lowest, unflushed_by}
use Rattle.kernel_laws.proofs.{Judged, Refused, Found, and_then, unless, or_refuse, of_kind, named, refusal_of, first_of, waits_of}
use Rattle.kernel_laws.proofs.{flushes_of, not_vacant, vacant, held, mapped, outside, fits, EndsWithin, FrameInRange, InRanges, is_node}
use Rattle.kernel_laws.proofs.{IsSound, IsStack, IsObjectGood, only_is, named_good, suits, some_inj, none_some, then_parts, or_found}
use Rattle.kernel_laws.specs.kernel_invariant.proofs.{AreComps, usable_good, when_not, not_not}
use Rattle.same_changes.specs.{whole, IsIn, AgreeOn}
use Rattle.same_changes.specs.Region.{Region, SameRefs, LeadsIn, ReachesOnly}
use Rattle.{seq_lookups.specs.seq_state.proofs.SameState, seq_lookups.specs.seq_state.proofs.same_refs, std.specs.List.range_with_len}
use Rattle.{std.specs.List.AllByRecursion, std.proofs.lemmas.Bool.cases_lt, kernel_laws.specs.kernel_rules.specs.GracePeriods.quiescing_by}
use Rattle.{seq_lookups.proofs.Lowest.found_alike, same_changes.proofs.Agreeing.on_whole}

-- A frame that has something is one of the machine's.
pub below : (s : State) (o : ℕ → Bool) (f : ℕ) → IsSound s o → (s.frame f ≡ Untyped → ⊥) → f < s.limits.frames
below s o f h typed = elim (cases_lt f s.limits.frames) [
  | inl less ↦ less
  | inr past ↦ absurd (typed (h.beyond f past))
]

-- A frame with a node, a component, a thread or a temporal capability is one of the machine's.
pub node_below : (s : State) (o : ℕ → Bool) (f : ℕ) → IsSound s o → IsTrue (is_node (s.frame f)) → f < s.limits.frames
node_below s o f h node = below s o f h (λ none. false≢true (subst (λ x. IsTrue (is_node x)) none node))

-- Whether a kind of capability names a frame that has something.
abbrev pub is_some_kind : Kind → Bool
is_some_kind Kind.Range = false
is_some_kind _ = true

fit_typed : (j : Kind) → is_some_kind j ≡ true → IsTrue (fits j Untyped) → ⊥
fit_typed Kind.Range some fit = false≢true some
fit_typed _ some fit = false≢true fit

pub fit_below : (s : State) (o : ℕ → Bool) (j : Kind) (f : ℕ) → IsSound s o → is_some_kind j ≡ true → IsTrue (fits j (s.frame f))
    → f < s.limits.frames
fit_below s o j f h some fit = below s o f h (λ none. fit_typed j some (subst (λ x. IsTrue (fits j x)) none fit))

-- The frame that a root fits is a node.
pub table_node : (x : Frame) → IsTrue (fits Kind.Table x) → IsTrue (is_node x)
table_node (Kernel Table) fit = refl
table_node _ fit = absurd (false≢true fit)

pub pages_node : (x : Frame) → IsTrue (fits Kind.Pages x) → IsTrue (is_node x)
pages_node (Kernel Pages) fit = refl
pages_node _ fit = absurd (false≢true fit)

-- The component on top of a thread's stack.
top_fit : (s : State) (x : Frame) → IsTrue (fits Kind.Thread x) → IsObjectGood s x
    → IsTrue (fits Kind.Comp (s.frame (first_of_stack (thread_in x).stack)))
top_fit s (Kernel (Thread t)) fit good = by_stack t.stack good
  where
    by_stack : (fs : List ℕ) → IsStack s fs → IsTrue (fits Kind.Comp (s.frame (first_of_stack fs)))
    by_stack [] bad = absurd bad
    by_stack (f ∷ fs) ok = ok.0
top_fit s _ fit good = absurd (false≢true fit)

comp_fit : (s : State) (x : Frame) → IsTrue (fits Kind.Comp x) → IsObjectGood s x
    → IsTrue (fits Kind.Table (s.frame (comp_in x).table)) × IsTrue (fits Kind.Pages (s.frame (comp_in x).pages))
comp_fit s (Kernel (Comp k)) fit good = good
comp_fit s _ fit good = absurd (false≢true fit)

comp_is : (x : Frame) → IsTrue (fits Kind.Comp x) → x ≡ Kernel (Comp (comp_in x))
comp_is (Kernel (Comp k)) fit = refl
comp_is _ fit = absurd (false≢true fit)

-- ---- judging by what was reached

-- What follows on what is found is the same, where it is the same for what is found.
pub then_same : {A B : Type 0} (x y : Judged A) (f g : A → Judged B) → x ≡ y → ((a : A) → y ≡ Found a → f a ≡ g a)
    → and_then x f ≡ and_then y g
then_same {A} {B} x y f g e same = ap (λ j. and_then j f) e ∙ by_judged y refl
  where
    by_judged : (z : Judged A) → y ≡ z → and_then z f ≡ and_then z g
    by_judged (Refused r) is = refl
    by_judged (Found a) is = same a is

pub found_part : (a b : Bool) → (a && b) ≡ true → a ≡ true
found_part true b h = refl
found_part false b h = absurd (false≢true h)

pub number_part : (a b : Bool) → (a && b) ≡ true → b ≡ true
number_part true b h = h
number_part false b h = absurd (false≢true h)

-- ---- what lies in a region

-- A slot of a node of a region.
pub record IsSlotIn (r : Region) (at : Slot) : Type 0 where
  pub node : r.frame at.node ≡ true
  pub index : at.index < 64

-- The root of a target is in a region, where it was found.
abbrev pub RootIn : Region → Target → Type 0
RootIn r (Under table n) = table.found ≡ true → r.frame table.frame ≡ true
RootIn r (InRoot table i) = r.frame table.frame ≡ true

-- What leads into a region, and is no range, names a frame of it.
pub leads_at : (r : Region) (j : Kind) (k : Capability) → is_some_kind j ≡ true → LeadsIn r j k → r.frame k.frame ≡ true
leads_at r Kind.Range k some leads = absurd (false≢true some)
leads_at r j k some leads = leads

root_some : (j : Kind) → IsTrue (root j) → is_some_kind j ≡ true
root_some Kind.Range h = absurd (false≢true h)
root_some _ h = refl

-- A root that is known by its slot: a number of it leads to a slot of it.
root_slot_in : (r : Region) (table : Named) (n : ℕ) → RootIn r (Under table n) → (table.found && nat_le n 4095) ≡ true
    → IsSlotIn r (root_slot table.frame n)
root_slot_in r table n good on = record {
  node = good (found_part table.found (nat_le n 4095) on);
  index = let most : n ≤ 4095 = leb-true n 4095 (number_part table.found (nat_le n 4095) on) in omega arith;
}

-- The component on top of the stack of a thread whose components are in a region.
top_in : (r : Region) (s : State) (x : Frame) → IsTrue (fits Kind.Thread x) → IsObjectGood s x
    → ((h : ThreadFields) → x ≡ Kernel (Thread h) → AllByRecursion (λ g. r.frame g ≡ true) h.stack)
    → r.frame (first_of_stack (thread_in x).stack) ≡ true
top_in r s (Kernel (Thread h)) fit good all = by_stack h.stack good (all h refl)
  where
    by_stack : (fs : List ℕ) → IsStack s fs → AllByRecursion (λ g. r.frame g ≡ true) fs → r.frame (first_of_stack fs) ≡ true
    by_stack [] bad all = absurd bad
    by_stack (f ∷ fs) ok all = all.0
top_in r s _ fit good all = absurd (false≢true fit)

-- The frame of the component that the core works in.
abbrev pub here : State → ℕ → ℕ
here s c = first_of_stack (thread_of s c).stack

-- A reached state with an open call of core c, which reaches nothing outside a region, and a state that is one with it there.
pub record TwinsOn (r : Region) (t s : State) (o : ℕ → Bool) (c : ℕ) : Type 0 where
  pub sound : IsSound s o
  pub is_open : o c ≡ true
  pub within : ReachesOnly r s c
  pub agree : AgreeOn r t s
  pub referred : SameRefs r t s

module _ {r : Region} {t s : State} {o : ℕ → Bool} {c : ℕ} (w : TwinsOn r t s o c) where
  pub below_cores : c < s.limits.cores
  below_cores = (w.sound.inside c w.is_open).1

  pub core_agree : t.core c ≡ s.core c
  core_agree = w.agree.core c w.within.core

  -- ---- the current thread, and the component that the core works in

  pub thread_frame_agree : t.frame (t.core c).thread ≡ s.frame (s.core c).thread
  thread_frame_agree = ap (λ (k : Core). t.frame k.thread) core_agree ∙ w.agree.frame (s.core c).thread w.within.thread

  pub tcap_frame_agree : t.frame (t.core c).tcap ≡ s.frame (s.core c).tcap
  tcap_frame_agree = ap (λ (k : Core). t.frame k.tcap) core_agree ∙ w.agree.frame (s.core c).tcap w.within.tcap

  pub thread_agree : thread_of t c ≡ thread_of s c
  thread_agree = ap thread_in thread_frame_agree

  thread_fits : IsTrue (fits Kind.Thread (s.frame (s.core c).thread))
  thread_fits = (w.sound.cores c below_cores).0

  pub here_in : r.frame (here s c) ≡ true
  here_in = top_in r s (s.frame (s.core c).thread) thread_fits (w.sound.objects (s.core c).thread)
      (λ h is. w.within.stacks (s.core c).thread h w.within.thread is)

  pub comp_agree : comp_of t c ≡ comp_of s c
  comp_agree = ap (λ (k : ThreadFields). comp_in (t.frame (first_of_stack k.stack))) thread_agree
      ∙ ap comp_in (w.agree.frame (here s c) here_in)

  -- The table, the pages and the liveness number of a component in the region.
  pub comp_parts : (f : ℕ) → r.frame f ≡ true → IsTrue (fits Kind.Comp (s.frame f))
      → (r.frame (comp_in (s.frame f)).table ≡ true) × (r.frame (comp_in (s.frame f)).pages ≡ true)
      × (r.number (comp_in (s.frame f)).number ≡ true)
  comp_parts f is fit = w.within.comps f (comp_in (s.frame f)) is (comp_is (s.frame f) fit)

  own_parts : (r.frame (comp_of s c).table ≡ true) × (r.frame (comp_of s c).pages ≡ true) × (r.number (comp_of s c).number ≡ true)
  own_parts = comp_parts (here s c) here_in (top_fit s (s.frame (s.core c).thread) thread_fits (w.sound.objects (s.core c).thread))

  -- The pages of the component that the core works in are in the region, and so is its liveness number.
  pub pages_in : r.frame (comp_of s c).pages ≡ true
  pages_in = own_parts.1

  pub number_in : r.number (comp_of s c).number ≡ true
  number_in = own_parts.2

  -- ---- places

  pub place_agree : (at : Slot) → IsSlotIn r at → place_at t at ≡ place_at s at
  place_agree at is = w.agree.place at.node at.index is.node is.index

  pub usable_agree : (at : Slot) → IsSlotIn r at → usable t c at ≡ usable s c at
  usable_agree at is = λ i.
      usable_in (place_agree at is i) ((w.agree.grace (PlaceOf at.node at.index) (is.node, is.index)).waits c below_cores i)

  pub reached_agree : (target : Target) → RootIn r target → reached t c target ≡ reached s c target
  reached_agree (Under table n) good = by_number (table.found && nat_le n 4095) refl
    where
      by_number : (b : Bool) → (table.found && nat_le n 4095) ≡ b
          → (if b then slot_in (linked (usable t c (root_slot table.frame n))) (n % 64) else None) ≡
          (if b then slot_in (linked (usable s c (root_slot table.frame n))) (n % 64) else None)
      by_number true on = ap (λ u. slot_in (linked u) (n % 64)) (usable_agree (root_slot table.frame n) (root_slot_in r table n good on))
      by_number false on = refl
  reached_agree (InRoot table i) good = refl

  -- A reached slot is in the region.
  pub slot_within : (target : Target) (at : Slot) → RootIn r target → reached s c target ≡ Some at → IsSlotIn r at
  slot_within (Under table n) at good e = by_number (table.found && nat_le n 4095) refl e
    where
      by_link : (k : Capability) (b : Bool) → only Kind.Link k.kind ≡ b → usable s c (root_slot table.frame n) ≡ Some k
          → r.frame table.frame ≡ true → slot_in (if b then Some k.frame else None) (n % 64) ≡ Some at → IsSlotIn r at
      by_link k true link is inside q =
          let slot = some_inj (record { node = k.frame; index = n % 64 }) at q in record {
            node = subst (λ f. r.frame f ≡ true) (ap (λ (x : Slot). x.node) slot) (subst (λ j. LeadsIn r j k)
                (only_is Kind.Link k.kind link) (w.within.places (root_slot table.frame n) k inside is));
            index = let i : n % 64 ≡ at.index = ap (λ (x : Slot). x.index) slot in omega (arith, i);
          }
      by_link k false link is inside q = absurd (none_some at q)

      by_use : (u : Option Capability) → usable s c (root_slot table.frame n) ≡ u → r.frame table.frame ≡ true
          → slot_in (linked u) (n % 64) ≡ Some at → IsSlotIn r at
      by_use None is inside q = absurd (none_some at q)
      by_use (Some k) is inside q = by_link k (only Kind.Link k.kind) refl is inside q

      by_number : (b : Bool) → (table.found && nat_le n 4095) ≡ b
          → (if b then slot_in (linked (usable s c (root_slot table.frame n))) (n % 64) else None) ≡ Some at → IsSlotIn r at
      by_number true on q =
          by_use (usable s c (root_slot table.frame n)) refl (good (found_part table.found (nat_le n 4095) on)) q
      by_number false on q = absurd (none_some at q)
  slot_within (InRoot table i) at good e = by_entry (table.found && nat_le i 63) refl e
    where
      slot : Slot
      slot = record { node = table.frame; index = i }

      by_entry : (b : Bool) → (table.found && nat_le i 63) ≡ b → (if b then Some slot else None) ≡ Some at → IsSlotIn r at
      by_entry true on q = record {
        node = subst (λ f. r.frame f ≡ true) (ap (λ (x : Slot). x.node) (some_inj slot at q)) good;
        index =
            let small : i ≤ 63 = leb-true i 63 (number_part table.found (nat_le i 63) on) in
            let index : i ≡ at.index = ap (λ (x : Slot). x.index) (some_inj slot at q) in omega (arith, small, index);
      }
      by_entry false on q = absurd (none_some at q)

  -- A slot that was reached, or else refused.
  slot_found : (target : Target) (q : Reply) (at : Slot) → RootIn r target → or_refuse (reached s c target) q ≡ Found at → IsSlotIn r at
  slot_found target q at good is = slot_within target at good (or_found (reached s c target) q at is)

  -- ---- names

  -- The target of a name has its root in the region.
  pub own_in : (n : ℕ) → RootIn r (own s c n)
  own_in n = λ found. own_parts.0

  pub own_agree : (n : ℕ) → own t c n ≡ own s c n
  own_agree n = ap (λ (k : CompFields). Under (root_at k.table) n) comp_agree

  pub named_agree : (n : ℕ) (wanted : Want) → named t c n wanted ≡ named s c n wanted
  named_agree n wanted =
      then_same (or_refuse (reached t c (own t c n)) Reply.NoSlot) (or_refuse (reached s c (own s c n)) Reply.NoSlot) _ _
      (ap (λ r. or_refuse r Reply.NoSlot) (ap (reached t c) (own_agree n) ∙ reached_agree (own s c n) (own_in n)))
      (λ at is. ap (λ u. and_then (or_refuse u Reply.Empty) (of_kind wanted))
      (usable_agree at (slot_found (own s c n) Reply.NoSlot at (own_in n) is)))

  -- What a name leads to leads into the region.
  pub named_leads : (n : ℕ) (wanted : Want) (k : Capability) → named s c n wanted ≡ Found k → LeadsIn r k.kind k
  named_leads n wanted k e =
      let a = then_parts (or_refuse (reached s c (own s c n)) Reply.NoSlot)
      (λ at. and_then (or_refuse (usable s c at) Reply.Empty) λ k. of_kind wanted k) k e in
      let b = then_parts (or_refuse (usable s c a.0) Reply.Empty) (λ k. of_kind wanted k) k a.2 in
      subst (λ (j : Capability). LeadsIn r j.kind j) (suits wanted b.0 k b.2).is
      (w.within.places a.0 b.0 (slot_found (own s c n) Reply.NoSlot a.0 (own_in n) a.1).node
      (or_found (usable s c a.0) Reply.Empty b.0 b.1))

  -- What a name of one kind leads to is in the region, and the same in both states.
  pub named_at : (n : ℕ) (j : Kind) (k : Capability) → is_some_kind j ≡ true → named s c n (to_use (only j)) ≡ Found k
      → r.frame k.frame ≡ true
  named_at n j k some is = leads_at r j k some (subst (λ i. LeadsIn r i k)
      (only_is j k.kind (named_good s o c n (to_use (only j)) k w.sound w.is_open is).1) (named_leads n (to_use (only j)) k is))

  pub named_agrees : (n : ℕ) (j : Kind) (k : Capability) → is_some_kind j ≡ true → named s c n (to_use (only j)) ≡ Found k
      → t.frame k.frame ≡ s.frame k.frame
  named_agrees n j k some is = w.agree.frame k.frame (named_at n j k some is)

  pub table_at : (n : ℕ) (k : Capability) → named s c n (to_use (only Kind.Table)) ≡ Found k → r.frame k.frame ≡ true
  table_at n k is = named_at n Kind.Table k refl is

  pub pages_at : (n : ℕ) (k : Capability) → named s c n (to_use (only Kind.Pages)) ≡ Found k → r.frame k.frame ≡ true
  pages_at n k is = named_at n Kind.Pages k refl is

  pub root_within : (n : ℕ) (k : Capability) → named s c n (to_use root) ≡ Found k → r.frame k.frame ≡ true
  root_within n k is = leads_at r k.kind k (root_some k.kind (named_good s o c n (to_use root) k w.sound w.is_open is).1)
      (named_leads n (to_use root) k is)

  -- A frame of a named range is in the region.
  pub range_at : (n : ℕ) (k : Capability) (f : ℕ) → named s c n (to_use (only Kind.Range)) ≡ Found k
      → refusal_of s c (outside (found k) f) ≡ None → r.frame f ≡ true
  range_at n k f is calm =
      subst (λ j. LeadsIn r j k) (only_is Kind.Range k.kind (named_good s o c n (to_use (only Kind.Range)) k w.sound w.is_open is).1)
      (named_leads n (to_use (only Kind.Range)) k is) f (not_not _ (when_not _ Reply.OutOfRange calm))

  -- A cause about a frame of the region.
  pub frame_agree : (f : ℕ) (test : Frame → Bool) → r.frame f ≡ true
      → (nat_lt f t.limits.frames && test (t.frame f)) ≡ (nat_lt f s.limits.frames && test (s.frame f))
  frame_agree f test is = ap (λ (l : Limits). nat_lt f l.frames && test (t.frame f)) w.agree.limits
      ∙ ap (λ x. nat_lt f s.limits.frames && test x) (w.agree.frame f is)

  -- ---- who waits, and who has not flushed

  lowest_agree : (p q : ℕ → Bool) → ((e : ℕ) → e < s.limits.cores → p e ≡ q e) → lowest t p ≡ lowest s q
  lowest_agree p q same =
      ap (λ (l : Limits). find p (range_with_len 0 l.cores)) w.agree.limits
      ∙ found_alike p q 0 s.limits.cores (λ e least less. same e (omega (arith, less)))

  pub waits_agree : (x : Thing) → IsIn r x → waits_of t c x ≡ waits_of s c x
  waits_agree x is =
      ap quiescing_by (lowest_agree (λ e. (t.grace x).waits e && not (e == c)) (λ e. (s.grace x).waits e && not (e == c))
      (λ e less. ap (λ b. b && not (e == c)) ((w.agree.grace x is).waits e less)))

  pub flushes_agree : (x : Thing) → IsIn r x → flushes_of t x ≡ flushes_of s x
  flushes_agree x is = ap unflushed_by
      (lowest_agree (t.grace x).unflushed (s.grace x).unflushed (λ e less. (w.agree.grace x is).unflushed e less))

  not_vacant_agree : (x : Thing) (p : Place) → IsIn r x → not_vacant t c x p ≡ not_vacant s c x p
  not_vacant_agree x Free is = refl
  not_vacant_agree x (Holds k) is = refl
  not_vacant_agree x (Quiescing k) is = λ i. first_of (waits_agree x is i) (flushes_agree x is i)

  -- ---- targets

  pub vacant_agree : (target : Target) → RootIn r target → vacant t c target ≡ vacant s c target
  vacant_agree target good =
      then_same (or_refuse (reached t c target) Reply.NoSlot) (or_refuse (reached s c target) Reply.NoSlot) _ _
      (ap (λ r. or_refuse r Reply.NoSlot) (reached_agree target good))
      (λ at is.
      let slot = slot_found target Reply.NoSlot at good is in
      let x = PlaceOf at.node at.index in
      ap (λ p. unless (not_vacant t c x p) at) (place_agree at slot)
      ∙ ap (λ r. unless r at) (not_vacant_agree x (place_at s at) (slot.node, slot.index)))

  pub held_agree : (target : Target) → RootIn r target → held t c target ≡ held s c target
  held_agree target good =
      then_same (or_refuse (reached t c target) Reply.NoSlot) (or_refuse (reached s c target) Reply.NoSlot) _ _
      (ap (λ r. or_refuse r Reply.NoSlot) (reached_agree target good))
      (λ at is. ap (λ p. and_then (or_refuse (held_in p) Reply.Empty) λ k. Found (at, k))
      (place_agree at (slot_found target Reply.NoSlot at good is)))

  pub mapped_agree : (table v : ℕ) → r.frame table ≡ true → mapped t c table v ≡ mapped s c table v
  mapped_agree table v is_in =
      then_same (unless (if nat_lt 4095 v then Some Reply.NoSlot else None) v)
      (unless (if nat_lt 4095 v then Some Reply.NoSlot else None) v) _ _ refl
      (λ v is. then_same (or_refuse (reached t c (Under (root_at table) v)) Reply.Fault)
      (or_refuse (reached s c (Under (root_at table) v)) Reply.Fault) _ _
      (ap (λ r. or_refuse r Reply.Fault) (reached_agree (Under (root_at table) v) (λ found. is_in)))
      (λ at is. ap (λ p. or_refuse (held_in p) Reply.Fault)
      (place_agree at (slot_found (Under (root_at table) v) Reply.Fault at (λ found. is_in) is))))

-- ---- the whole machine

-- A reached state with an open call of core c, and a state that is one with it.
pub record Twins (t s : State) (o : ℕ → Bool) (c : ℕ) : Type 0 where
  pub sound : IsSound s o
  pub ranges : InRanges s
  pub is_open : o c ≡ true
  pub same : SameState t s

-- A slot of a node of the machine.
pub record IsSlot (s : State) (at : Slot) : Type 0 where
  pub node : at.node < s.limits.frames
  pub index : at.index < 64

-- The root of a target is a node of the machine, where it was found.
abbrev pub RootGood : State → Target → Type 0
RootGood s (Under table n) = table.found ≡ true → IsTrue (is_node (s.frame table.frame))
RootGood s (InRoot table i) = IsTrue (is_node (s.frame table.frame))

-- What names an object of its kind leads to frames of the machine.
leads_whole : (s : State) (o : ℕ → Bool) (j : Kind) (k : Capability) → IsSound s o → IsTrue (fits j (s.frame k.frame))
    → EndsWithin j k.frame k.arg s.limits.frames → LeadsIn (whole s.limits) j k
leads_whole s o Kind.Range k h fit ends = λ f has.
    let less : f < k.frame + k.arg = ltb-true f (k.frame + k.arg) (number_part (nat_le k.frame f) (nat_lt f (k.frame + k.arg)) has) in
    lt-ltb f s.limits.frames (omega (arith, ends, less))
leads_whole s o j k h fit ends = lt-ltb k.frame s.limits.frames (fit_below s o j k.frame h refl fit)

-- A core with an open call reaches nothing outside the machine.
module _ (s : State) (o : ℕ → Bool) (h : IsSound s o) (ranges : InRanges s) where
  fits_whole : (j : Kind) (f : ℕ) → is_some_kind j ≡ true → IsTrue (fits j (s.frame f)) → (whole s.limits).frame f ≡ true
  fits_whole j f some fit = lt-ltb f s.limits.frames (fit_below s o j f h some fit)

  comps_whole : (fs : List ℕ) → AreComps s fs → AllByRecursion (λ g. (whole s.limits).frame g ≡ true) fs
  comps_whole [] ok = tt
  comps_whole (g ∷ fs) ok = (fits_whole Kind.Comp g refl ok.0, comps_whole fs ok.1)

  stack_whole : (fs : List ℕ) → IsStack s fs → AllByRecursion (λ g. (whole s.limits).frame g ≡ true) fs
  stack_whole [] ok = absurd ok
  stack_whole (g ∷ fs) ok = (fits_whole Kind.Comp g refl ok.0, comps_whole fs ok.1)

  pub reaches_whole : (c : ℕ) → o c ≡ true → ReachesOnly (whole s.limits) s c
  reaches_whole c inc =
      let below : c < s.limits.cores = (h.inside c inc).1 in record {
        core = lt-ltb c s.limits.cores below;
        thread = fits_whole Kind.Thread (s.core c).thread refl (h.cores c below).0;
        tcap = fits_whole Kind.Tcap (s.core c).tcap refl (h.cores c below).1;
        places = λ at k is has. let good = usable_good s o c at k h inc has in leads_whole s o k.kind k h good.fit good.within;
        comps = λ f k is has.
            let good = subst (IsObjectGood s) has (h.objects f) in
            let range = subst (FrameInRange s.limits.epochs) has (ranges.frames f) in (
              fits_whole Kind.Table k.table refl good.0,
              fits_whole Kind.Pages k.pages refl good.1,
              lt-ltb k.number 64 range.number,
            );
        stacks = λ f x is has. stack_whole x.stack (subst (IsObjectGood s) has (h.objects f));
      }

pub on_machine : {t s : State} {o : ℕ → Bool} {c : ℕ} → Twins t s o c → TwinsOn (whole s.limits) t s o c
on_machine {t} {s} {o} {c} w = record {
  sound = w.sound;
  is_open = w.is_open;
  within = reaches_whole s o w.sound w.ranges c w.is_open;
  agree = on_whole t s w.same;
  referred = λ f is. same_refs t s f w.same;
}

pub core_below : {t s : State} {o : ℕ → Bool} {c : ℕ} → Twins t s o c → c < s.limits.cores
core_below {c = c} w = (w.sound.inside c w.is_open).1

pub root_is : (s : State) (o : ℕ → Bool) (table : Named) (n : ℕ) → IsSound s o → RootGood s (Under table n)
    → (table.found && nat_le n 4095) ≡ true → IsSlot s (root_slot table.frame n)
root_is s o table n h good on = record {
  node = node_below s o table.frame h (good (found_part table.found (nat_le n 4095) on));
  index = let most : n ≤ 4095 = leb-true n 4095 (number_part table.found (nat_le n 4095) on) in omega arith;
}

module _ {t s : State} {o : ℕ → Bool} {c : ℕ} (w : Twins t s o c) where
  pub core_same : t.core c ≡ s.core c
  core_same = core_agree (on_machine w)

  pub frame_same : (j : Kind) (f : ℕ) → is_some_kind j ≡ true → IsTrue (fits j (s.frame f)) → t.frame f ≡ s.frame f
  frame_same j f some fit = w.same.frame f (fit_below s o j f w.sound some fit)

  pub tcap_frame_same : t.frame (t.core c).tcap ≡ s.frame (s.core c).tcap
  tcap_frame_same = tcap_frame_agree (on_machine w)

  pub thread_same : thread_of t c ≡ thread_of s c
  thread_same = thread_agree (on_machine w)

  pub here_fit : IsTrue (fits Kind.Comp (s.frame (here s c)))
  here_fit = top_fit s (s.frame (s.core c).thread) (w.sound.cores c (core_below w)).0 (w.sound.objects (s.core c).thread)

  pub comp_same : comp_of t c ≡ comp_of s c
  comp_same = comp_agree (on_machine w)

  -- The roots of the component that the core works in are nodes.
  own_nodes : IsTrue (is_node (s.frame (comp_of s c).table)) × IsTrue (is_node (s.frame (comp_of s c).pages))
  own_nodes =
      let fit = comp_fit s (s.frame (here s c)) here_fit (w.sound.objects (here s c)) in
      (table_node (s.frame (comp_of s c).table) fit.0, pages_node (s.frame (comp_of s c).pages) fit.1)

  -- The pages of the component that the core works in are a node.
  pub pages_good : IsTrue (is_node (s.frame (comp_of s c).pages))
  pages_good = own_nodes.1

  -- A node is one of the machine's.
  node_whole : (f : ℕ) → IsTrue (is_node (s.frame f)) → (whole s.limits).frame f ≡ true
  node_whole f node = lt-ltb f s.limits.frames (node_below s o f w.sound node)

  root_whole : (target : Target) → RootGood s target → RootIn (whole s.limits) target
  root_whole (Under table n) good = λ found. node_whole table.frame (good found)
  root_whole (InRoot table i) good = node_whole table.frame good

  slot_whole : (at : Slot) → IsSlot s at → IsSlotIn (whole s.limits) at
  slot_whole at is = record { node = lt-ltb at.node s.limits.frames is.node; index = is.index }

  pub place_same : (at : Slot) → IsSlot s at → place_at t at ≡ place_at s at
  place_same at is = w.same.place at.node at.index is.node is.index

  pub usable_same : (at : Slot) → IsSlot s at → usable t c at ≡ usable s c at
  usable_same at is = usable_agree (on_machine w) at (slot_whole at is)

  pub reached_same : (target : Target) → RootGood s target → reached t c target ≡ reached s c target
  reached_same target good = reached_agree (on_machine w) target (root_whole target good)

  -- A reached slot is one of the machine's.
  pub slot_good : (target : Target) (at : Slot) → RootGood s target → reached s c target ≡ Some at → IsSlot s at
  slot_good target at good is =
      let slot = slot_within (on_machine w) target at (root_whole target good) is in
      record { node = ltb-true at.node s.limits.frames slot.node; index = slot.index }

  -- The target of a name has a good root.
  pub own_good : (n : ℕ) → RootGood s (own s c n)
  own_good n = λ found. own_nodes.0

  pub own_same : (n : ℕ) → own t c n ≡ own s c n
  own_same n = own_agree (on_machine w) n

  pub named_same : (n : ℕ) (wanted : Want) → named t c n wanted ≡ named s c n wanted
  named_same n wanted = named_agree (on_machine w) n wanted

  pub held_same : (target : Target) → RootGood s target → held t c target ≡ held s c target
  held_same target good = held_agree (on_machine w) target (root_whole target good)

  pub mapped_same : (table v : ℕ) → IsTrue (is_node (s.frame table)) → mapped t c table v ≡ mapped s c table v
  mapped_same table v node = mapped_agree (on_machine w) table v (node_whole table node)
