-- What a core names where a world is split is on the core's side.
use Rattle.same_changes.specs.kernel_laws.proofs as low
use low.{◌≡◌, ◌⊎◌, inl, inr, ℕ, ◌<◌, Bool, true, false, not, refl, sym, ◌∙◌, ap, subst, if◌then◌else◌, IsTrue, List, [], ◌∷◌, Option, Some}
use low.{None, false≢true, true≢false, Capability, kept, part_of, Kind, Call, Place, Holds, ThreadFields, Comp, Thread, Frame, Kernel}
use low.{PlaceOf, State, comp_in, comp_of, thread_in, first_of_stack, plain_cap, Slot, Want, Under, only, to_use, linked, usable_in, usable}
use low.{held_in, place_at, reached, root_at, own, found, fits, Cause, Found, named, mapped, and_then, or_refuse, unless, first_cause}
use low.{has_frame, outside, IsStack, IsObjectGood, only_is, IsOpen, some_inj, none_some, then_parts, or_found, suits, name_parts, Reply}
use Rattle.world_laws.specs.authority_laws.proofs.{LedTo, InRange, InNode, IsGiven}
use Rattle.world_laws.specs.authority_laws.proofs.Acts.{IsCopied, IsParted, is_given, under_leaf}
use Rattle.{split_laws.specs.World, split_laws.specs.IsSplit, split_laws.specs.side, world_laws.specs.kernel_invariant.proofs.none_parts}
use Rattle.{world_laws.specs.kernel_invariant.proofs.when_not, world_laws.specs.kernel_invariant.proofs.not_not, world_laws.specs.works_in}
use Rattle.{world_laws.specs.LeadsTo, world_laws.specs.authority_laws.specs.IsUnder, world_laws.specs.authority_laws.specs.MayUse}
use Rattle.{std.specs.List.AllByRecursion, world_laws.specs.kernel_rules.proofs.PartFrames.frame_in}
use Rattle.{world_laws.specs.found_stays.proofs.Stays.comp_fit, world_laws.proofs.Puts.Put, world_laws.proofs.Outside.leads_plain}

-- Core c works on a side of a world that is split: its component's table and pages, and its thread, are there.
pub record WorksOn (w : World) (s : State) (c : ℕ) (b : Bool) : Type 0 where
  pub split : IsSplit w s
  pub is_core : c < s.limits.cores
  pub table : w.frame (comp_of s c).table ≡ b
  pub pages : w.frame (comp_of s c).pages ≡ b
  pub thread : w.frame (s.core c).thread ≡ b

-- The component in which a core works is on the side of its thread.
pub thread_side : (w : World) (s : State) (c : ℕ) → IsSplit w s → IsTrue (fits Kind.Thread (s.frame (s.core c).thread))
    → IsObjectGood s (s.frame (s.core c).thread) → side w s c ≡ w.frame (s.core c).thread
thread_side w s c split = by_frame (s.frame (s.core c).thread) (split.stacks (s.core c).thread)
  where
    b : Bool
    b = w.frame (s.core c).thread

    top : (fs : List ℕ) → IsStack s fs → AllByRecursion (λ g. w.frame g ≡ b) fs → w.frame (first_of_stack fs) ≡ b
    top [] stack on = absurd stack
    top (f ∷ fs) stack on = on.0

    by_frame : (x : Frame) → ((t : ThreadFields) → x ≡ Kernel (Thread t) → AllByRecursion (λ g. w.frame g ≡ b) t.stack)
        → IsTrue (fits Kind.Thread x) → IsObjectGood s x → w.frame (first_of_stack (thread_in x).stack) ≡ b
    by_frame (Kernel (Thread t)) on fit good = top t.stack good (on t refl)
    by_frame _ on fit good = absurd (false≢true fit)

pub comp_is : (x : Frame) → IsTrue (fits Kind.Comp x) → x ≡ Kernel (Comp (comp_in x))
comp_is (Kernel (Comp k)) fit = refl
comp_is _ fit = absurd (false≢true fit)

pub works_on : (w : World) (s : State) (c : ℕ) (o : ℕ → Bool) → IsOpen s o c → IsSplit w s → WorksOn w s c (side w s c)
works_on w s c o h split =
    let below : c < s.limits.cores = (h.sound.inside c h.is).1 in
    let own = split.comps (works_in s c) (comp_of s c) (comp_is (s.frame (works_in s c)) (comp_fit s o c h.sound below)) in
    record {
      split = split;
      is_core = below;
      table = own.0;
      pages = own.1;
      thread = sym (thread_side w s c split (h.sound.cores c below).0 (h.sound.objects (s.core c).thread));
    }

given_plain : (j : Kind) → IsTrue (is_given j) → only Kind.Range j ≡ false
given_plain Kind.Leaf given = refl
given_plain Kind.Pleaf given = refl
given_plain Kind.Comp given = refl
given_plain _ given = absurd (false≢true given)

held_uses : (p : Place) (waits : Bool) (k : Capability) → held_in p ≡ Some k → usable_in p waits ≡ Some k
held_uses (Holds j) waits k e = e
held_uses _ waits k e = absurd (none_some k e)

module _ (w : World) (s : State) (c : ℕ) (b : Bool) (h : WorksOn w s c b) where
  -- All that a capability leads to is on the side.
  abbrev pub LeadsOn : Capability → Type 0
  LeadsOn k = (g : ℕ) → LeadsTo k.kind k g → w.frame g ≡ b

  -- A capability of one kind leads to what a capability of this kind leads to.
  as_kind : (j : Kind) (k : Capability) (f : ℕ) → k.kind ≡ j → LeadsTo j k f → LeadsTo k.kind k f
  as_kind j k f is leads = subst (λ i. LeadsTo i k f) (sym is) leads

  led_on : (at : Slot) (k : Capability) → w.frame at.node ≡ b → usable s c at ≡ Some k → LeadsOn k
  led_on at k on e g leads = h.split.places at.node at.index c g k e leads ∙ on

  under_on : (root f : ℕ) → w.frame root ≡ b → IsUnder s c root f → w.frame f ≡ b
  under_on root f on (inl same) = ap w.frame same ∙ on
  under_on root f on (inr (i, e)) = by_link (usable s c (record { node = root; index = i })) refl e
    where
      by_kind : (j : Capability) (t : Bool) → only Kind.Link j.kind ≡ t → usable s c (record { node = root; index = i }) ≡ Some j
          → (if t then Some j.frame else None) ≡ Some f → w.frame f ≡ b
      by_kind j false is u q = absurd (none_some f q)
      by_kind j true is u q = led_on (record { node = root; index = i }) j on u f
          (as_kind Kind.Link j f (only_is Kind.Link j.kind is) (sym (some_inj j.frame f q)))

      by_link : (u : Option Capability) → usable s c (record { node = root; index = i }) ≡ u → linked u ≡ Some f → w.frame f ≡ b
      by_link None is q = absurd (none_some f q)
      by_link (Some j) is q = by_kind j (only Kind.Link j.kind) refl is q

  -- what core c reaches by a number
  own_on : (n : ℕ) (at : Slot) → reached s c (own s c n) ≡ Some at → w.frame at.node ≡ b
  own_on n at e = under_on (comp_of s c).table at.node h.table (under_leaf s c (plain_cap Kind.Table (comp_of s c).table) n at e)

  -- what it names
  pub named_on : (n : ℕ) (want : Want) (k : Capability) → named s c n want ≡ Found k → LeadsOn k
  named_on n want k e =
      let p = name_parts s c n want k e in
      led_on p.0 k (own_on n p.0 p.1) (p.3 ∙ ap Some (suits want p.2 k p.4).is)

  named_kind : (n : ℕ) (j : Kind) (k : Capability) → named s c n (to_use (only j)) ≡ Found k → k.kind ≡ j
  named_kind n j k e =
      let p = name_parts s c n (to_use (only j)) k e in
      let x = suits (to_use (only j)) p.2 k p.4 in
      only_is j k.kind (subst (λ (i : Capability). IsTrue (only j i.kind)) x.is x.kind)

  pub named_frame : (n : ℕ) (j : Kind) (k : Capability) → only Kind.Range j ≡ false → named s c n (to_use (only j)) ≡ Found k
      → w.frame k.frame ≡ b
  named_frame n j k other e =
      named_on n (to_use (only j)) k e k.frame (as_kind j k k.frame (named_kind n j k e) (leads_plain j k k.frame other refl))

  -- a frame of a call that is in the range which it names
  pub range_frame : (n f : ℕ) (range : Capability) (causes : List Cause) → named s c n (to_use (only Kind.Range)) ≡ Found range
      → first_cause s c (outside (found range) f ∷ causes) ≡ None → w.frame f ≡ b
  range_frame n f range causes e calm =
      let has : has_frame (found range) f ≡ true =
      not_not (has_frame (found range) f) (when_not (not (has_frame (found range) f)) Reply.OutOfRange (none_parts _ _ calm).0) in
      named_on n (to_use (only Kind.Range)) range e f (as_kind Kind.Range range f (named_kind n Kind.Range range e) has)

  -- what a page of its component's pages maps
  pub mapped_on : (v : ℕ) (k : Capability) → mapped s c (comp_of s c).pages v ≡ Found k → k.kind ≡ Kind.Page → w.frame k.frame ≡ b
  mapped_on v k e is =
      let pages : ℕ = (comp_of s c).pages in
      let a = then_parts (unless _ v) (λ v. and_then (or_refuse (reached s c (Under (root_at pages) v)) Reply.Fault)
      λ at. or_refuse (held_in (place_at s at)) Reply.Fault) k e in
      let d = then_parts (or_refuse (reached s c (Under (root_at pages) a.0)) Reply.Fault)
      (λ at. or_refuse (held_in (place_at s at)) Reply.Fault) k a.2 in
      let at : Slot = d.0 in
      let reaches : reached s c (Under (root_at pages) a.0) ≡ Some at = or_found _ Reply.Fault at d.1 in
      let on : w.frame at.node ≡ b =
      under_on pages at.node h.pages (under_leaf s c (plain_cap Kind.Table pages) a.0 at reaches) in
      let held : held_in (place_at s at) ≡ Some k = or_found (held_in (place_at s at)) Reply.Fault k d.2 in
      led_on at k on (held_uses (place_at s at) ((s.grace (PlaceOf at.node at.index)).waits c) k held) k.frame
      (as_kind Kind.Page k k.frame is refl)

  -- ---- what it puts

  used_on : {call : Call} (k : Capability) → MayUse call s c k → LeadsOn k
  used_on k m = named_on m.number (to_use m.kinds) k m.leads

  range_on : {call : Call} (f : ℕ) → InRange call s c f → w.frame f ≡ b
  range_on f r = used_on r.range r.may f (as_kind Kind.Range r.range f r.kind r.has)

  pub node_on : {call : Call} (f : ℕ) → InNode call s c f → w.frame f ≡ b
  node_on f n = under_on n.root.frame f (by_kind n.kind) n.under
    where
      by_kind : (n.root.kind ≡ Kind.Table) ⊎ (n.root.kind ≡ Kind.Pages) → w.frame n.root.frame ≡ b
      by_kind (inl is) = used_on n.root n.may n.root.frame (as_kind Kind.Table n.root n.root.frame is refl)
      by_kind (inr is) = used_on n.root n.may n.root.frame (as_kind Kind.Pages n.root n.root.frame is refl)

  copied_on : (k : Capability) → IsCopied s c k → LeadsOn k
  copied_on k x = subst LeadsOn (sym x.is) (λ g leads.
      led_on x.at x.source (own_on x.number x.at x.reaches) x.from g (leads_kept x.source.kind g leads))
    where
      leads_kept : (j : Kind) (g : ℕ) → LeadsTo j (kept x.source x.rights) g → LeadsTo j x.source g
      leads_kept Kind.Range g leads = leads
      leads_kept _ g leads = leads

  parted_on : (k : Capability) → IsParted s c k → LeadsOn k
  parted_on k x = subst LeadsOn (sym x.is) (λ g leads.
      led_on x.at x.source (own_on x.number x.at x.reaches) x.from g (as_kind Kind.Range x.source g x.kind
      (frame_in (found x.source) (found (part_of x.source x.frame x.count)) g x.has leads)))

  given_on : {call : Call} (k : Capability) → IsGiven call s c k → LeadsOn k
  given_on {call = call} k x g leads = ap w.frame (leads_frame k.kind x.kind leads) ∙ by_frame x.frame
    where
      leads_frame : (j : Kind) → only Kind.Range j ≡ false → LeadsTo j k g → g ≡ k.frame
      leads_frame Kind.Range other l = absurd (true≢false other)
      leads_frame _ other l = l

      by_frame : InRange call s c k.frame ⊎ LedTo call s c is_given k.frame → w.frame k.frame ≡ b
      by_frame (inl r) = range_on k.frame r
      by_frame (inr l) = used_on l.cap l.may k.frame
          (leads_plain l.cap.kind l.cap k.frame (given_plain l.cap.kind l.kind) (sym l.frame))

  pub put_on : {call : Call} (f : ℕ) (k : Capability) → Put call s c f k → LeadsOn k
  put_on f k (node, inl (inl x)) = copied_on k x
  put_on f k (node, inl (inr x)) = parted_on k x
  put_on f k (node, inr x) = given_on k x
