-- What the places show after a call that is carried out: what it puts, or what they showed before.
use Rattle.kernel_invariant.specs.kernel_rules.proofs as low
use low.{◌≡◌, ◌⊎◌, inl, inr, ℕ, true, false, not, ◌==◌, refl, sym, ◌∙◌, ap, subst, IsTrue, List, [], ◌∷◌, Option, Some, None, false≢true}
use low.{Capability, cap_of, kept, has_rights, part_of, Kind, FrameKind, Make, Call, Nothing, Place, Free, Holds, Quiescing}
use low.{Object, Table, Leaf, Pages, Pleaf, put, comp_of, comp_in, plain_cap, Want, Slot, found, any, only, to_copy, to_use}
use low.{Target, Under, InRoot, own, reached, usable, to_part, Change, does, Cause, Found, or_refuse, and_then, of_kind, named, name_of}
use low.{vacant, held, first_cause, has_frame, outside, not_blank, make_node, make_rule, not_taken, Fill, cleared, translation_of}
use Rattle.kernel_invariant.proofs.{ChangesFrom, none_some, some_inj, then_parts, or_found, Suits, suits, vacant_facts, held_facts}
use Rattle.origin_rules.specs.{declared.chains.Step.Step, declared.chains.Step.TheVariants.Copied, declared.chains.Step.TheVariants.Made}
use Rattle.origin_rules.specs.{declared.chains.Step.TheVariants.Gated, declared.chains.Step.TheVariants.Parted, Chains.put_from}
use low.{retype_rule, rule_of, put_same, put_other, Reply, Within.either}
use Rattle.{kernel_invariant.proofs.none_parts, kernel_invariant.proofs.when_not, kernel_invariant.proofs.not_not}
use Rattle.{kernel_invariant.proofs.within_by, origin_rules.specs.Put, origin_rules.specs.puts, origin_rules.specs.is_own}
use Rattle.{origin_rules.specs.Gives, std.proofs.lemmas.Bool.cases_eq, kernel_invariant.specs.kernel_rules.specs.State.State}
use Rattle.{kernel_invariant.specs.kernel_rules.specs.Edits.Remove, origin_rules.specs.Chains.slot_named}
use Rattle.{kernel_invariant.specs.kernel_rules.proofs.Rows.by_cached, kernel_invariant.proofs.Facts.from_left}
use Rattle.{origin_rules.specs.Chains.slot_under, origin_rules.specs.Derived.kind_of}

-- What a place shows.
abbrev pub shown : Place → Option Capability
shown Free = None
shown (Holds k) = Some k
shown (Quiescing k) = Some k

-- Capability k is what the call puts at place i of frame f.
pub record IsNew (s : State) (c : ℕ) (call : Call) (f i : ℕ) (k : Capability) : Type 0 where
  pub put : Put
  pub is : puts s c call ≡ Some put
  pub node : f ≡ put.at.node
  pub index : i ≡ put.at.index
  pub parent : Capability
  pub from : usable s c put.parent ≡ Some parent
  pub gives : Gives s c call put.what parent k

-- The place showed it before, and the call puts nothing there.
pub record IsKept (s : State) (c : ℕ) (call : Call) (f i : ℕ) (k : Capability) : Type 0 where
  pub was : shown (s.place f i) ≡ Some k
  pub apart : (p : Put) → puts s c call ≡ Some p → f ≡ p.at.node → i ≡ p.at.index → ⊥

abbrev pub Shows : State → ℕ → Call → ℕ → ℕ → Place → Type 0
Shows s c call f i p = (k : Capability) → shown p ≡ Some k → is_own k.kind ≡ true → IsNew s c call f i k ⊎ IsKept s c call f i k

pub record Placed (s : State) (c : ℕ) (call : Call) (change : Change) : Type 0 where
  pub shows : (f i : ℕ) → Shows s c call f i (change.next.place f i)

-- ---- places

by_place : (places : ℕ → ℕ → Place) (n j : ℕ) (p : Place) (f i : ℕ) (Q : Place → Type 0) → (f ≡ n → i ≡ j → Q p)
    → ((f ≡ n → i ≡ j → ⊥) → Q (places f i)) → Q (put places n (put (places n) j p) f i)
by_place places n j p f i Q new old = elim (cases_eq f n) [
  | inl here ↦ subst (λ row. Q (row i)) (sym (put_same places n (put (places n) j p) f here)) (elim (cases_eq i j) [
    | inl at ↦ subst Q (sym (put_same (places n) j p i at)) (new here at)
    | inr off ↦ subst Q (sym (put_other (places n) j p i off ∙ ap (λ g. places g i) (sym here))) (old (λ a b. off b))
  ])
  | inr away ↦ subst (λ row. Q (row i)) (sym (put_other places n (put (places n) j p) f away)) (old (λ a b. away a))
]

-- ---- names

-- A name leads to a slot, where core c may use a capability such as is wanted.
pub record NamedAt (s : State) (c n : ℕ) (want : Want) (k : Capability) : Type 0 where
  pub at : Slot
  pub reaches : slot_named s c n ≡ Some at
  pub from : usable s c at ≡ Some k
  pub kind : IsTrue (want.kinds k.kind)
  pub rights : IsTrue (has_rights k.rights want.needs)

pub named_at : (s : State) (c n : ℕ) (want : Want) (k : Capability) → named s c n want ≡ Found k → NamedAt s c n want k
named_at s c n want k e =
    let a = then_parts (or_refuse (reached s c (own s c n)) Reply.NoSlot)
    (λ at. and_then (or_refuse (usable s c at) Reply.Empty) λ k. of_kind want k) k e in
    let b = then_parts (or_refuse (usable s c a.0) Reply.Empty) (λ k. of_kind want k) k a.2 in
    let w : Suits want b.0 k = suits want b.0 k b.2 in
    record {
      at = a.0;
      reaches = or_found (reached s c (own s c n)) Reply.NoSlot a.0 a.1;
      from = or_found (usable s c a.0) Reply.Empty b.0 b.1 ∙ ap Some w.is;
      kind = subst (λ j. IsTrue (want.kinds j.kind)) w.is w.kind;
      rights = subst (λ j. IsTrue (has_rights j.rights want.needs)) w.is w.rights;
    }

module _ (s : State) (c : ℕ) where
  -- a call puts nothing, and changes no place
  kept_places : (call : Call) (change : Change) → puts s c call ≡ None → change.next.place ≡ s.place → Placed s c call change
  kept_places call change none same = record {
    shows = λ f i k is owned. inr (record {
      was = ap (λ (places : ℕ → ℕ → Place). shown (places f i)) (sym same) ∙ is;
      apart = λ p e at on. none_some p (sym none ∙ e);
    });
  }

  -- a call puts nothing, and fills a place with a link or a page
  filled_with_other : (call : Call) (at : Slot) (j : Capability) → puts s c call ≡ None → is_own j.kind ≡ false
      → Placed s c call (does c s Nothing (Fill at j ∷ []))
  filled_with_other call at j none other = record {
    shows = λ f i. by_place s.place at.node at.index (Holds j) f i (Shows s c call f i)
        (λ here on k is owned. absurd (false≢true (sym other ∙ ap (λ (x : Capability). is_own x.kind) (some_inj j k is) ∙ owned)))
        (λ apart k is owned. inr (record { was = is; apart = λ p e a b. none_some p (sym none ∙ e) }));
  }

  -- a call puts nothing, and removes what a place holds
  removed_from : (call : Call) (target : Target) (at : Slot) (j : Capability) → puts s c call ≡ None → held s c target ≡ Found (at, j)
      → Placed s c call (does c s Nothing (Remove at j ∷ []))
  removed_from call target at j none e = record {
    shows = λ f i. by_place s.place at.node at.index (Quiescing j) f i (Shows s c call f i)
        (λ here on k is owned. inr (record {
          was = ap shown ((λ x. s.place (here x) (on x)) ∙ (held_facts s c target at j e).1) ∙ is;
          apart = λ p q a b. none_some p (sym none ∙ q);
        }))
        (λ apart k is owned. inr (record { was = is; apart = λ p q a b. none_some p (sym none ∙ q) }));
  }

  -- what a call puts from a capability that it names, at a place of a table that it names
  pub named_put : (what : Step) (n t b : ℕ) (want : Want) (parent table : Capability) (at : Slot) (x : NamedAt s c n want parent)
      → named s c t (to_use (only Kind.Table)) ≡ Found table → vacant s c (Under (found table) b) ≡ Found at
      → put_from what (slot_named s c n) (slot_under s c t b) ≡ Some record { at = at; what = what; parent = x.at }
  named_put what n t b want parent table at x is_table g = λ i. put_from what (x.reaches i) ((
      ap (λ j. reached s c (Under (name_of j) b)) is_table ∙ (vacant_facts s c (Under (found table) b) at g).0
      ) i)

  -- so a place that is filled shows what is put, and the others what they showed
  put_at : (call : Call) (what : Step) (n : ℕ) (want : Want) (parent k : Capability) (at : Slot) (x : NamedAt s c n want parent)
      → puts s c call ≡ Some record { at = at; what = what; parent = x.at } → Gives s c call what parent k
      → (places : ℕ → ℕ → Place) → ((f i : ℕ) (j : Capability) → shown (places f i) ≡ Some j → shown (s.place f i) ≡ Some j)
      → (f i : ℕ) → Shows s c call f i (put places at.node (put (places at.node) at.index (Holds k)) f i)
  put_at call what n want parent k at x is gives places fewer f i =
      by_place places at.node at.index (Holds k) f i (Shows s c call f i)
      (λ here on j e owned. inl (record {
        put = record { at = at; what = what; parent = x.at };
        is = is;
        node = here;
        index = on;
        parent = parent;
        from = x.from;
        gives = subst (Gives s c call what parent) (some_inj k j e) gives;
      }))
      (λ apart j e owned. inr (record {
        was = fewer f i j e;
        apart = λ p q a b.
            let one : p ≡ record { at = at; what = what; parent = x.at } = some_inj _ _ (sym q ∙ is) in
            apart (a ∙ ap (λ (y : Put). y.at.node) one) (b ∙ ap (λ (y : Put). y.at.index) one);
      }))

  -- a node's places are free when it is made
  cleared_fewer : (g f i : ℕ) (j : Capability) → shown ((cleared s g).place f i) ≡ Some j → shown (s.place f i) ≡ Some j
  cleared_fewer g f i j =
      either (λ (row : ℕ → Place). shown (row i) ≡ Some j → shown (s.place f i) ≡ Some j) (f == g) (λ i. Free) (s.place f)
      (λ e. absurd (none_some j e)) (λ e. e)

  -- the frame of a `make` is in its range
  in_its_range : (range : Capability) (f : ℕ) (causes : List Cause) → first_cause s c (outside (found range) f ∷ causes) ≡ None
      → has_frame (found range) f ≡ true
  in_its_range range f causes calm =
      not_not (has_frame (found range) f) (when_not (not (has_frame (found range) f)) Reply.OutOfRange (none_parts _ _ calm).0)

  node_placed : (what : Make) (object : Object) (k : Kind) (r f t b : ℕ) → k ≡ kind_of what
      → ChangesFrom (Placed s c (Call.Make what r f t b)) s c (make_node s object k r f t b)
  node_placed what object k r f t b same = λ range e table g at h calm.
      let x = named_at s c r (to_use (only Kind.Range)) range e in
      record {
        shows = put_at (Call.Make what r f t b) Made r (to_use (only Kind.Range)) range (plain_cap k f) at x
            (named_put Made r t b (to_use (only Kind.Range)) range table at x g h)
            (record { names = e; frame = in_its_range range f (not_blank s f ∷ []) calm; is = ap (λ j. plain_cap j f) same })
            (cleared s f).place (cleared_fewer f);
      }

  made_placed : (what : Make) (r f t b : ℕ) → ChangesFrom (Placed s c (Call.Make what r f t b)) s c (make_rule s what r f t b)
  made_placed Make.Table r f t b = node_placed Make.Table Table Kind.Table r f t b refl
  made_placed Make.Leaf r f t b = node_placed Make.Leaf Leaf Kind.Leaf r f t b refl
  made_placed Make.Pages r f t b = node_placed Make.Pages Pages Kind.Pages r f t b refl
  made_placed Make.Pleaf r f t b = node_placed Make.Pleaf Pleaf Kind.Pleaf r f t b refl
  made_placed (Make.Thread comp) r f t b = λ range e table g comp_cap is_comp at h calm.
      let x = named_at s c r (to_use (only Kind.Range)) range e in
      record {
        shows = put_at (Call.Make (Make.Thread comp) r f t b) Made r (to_use (only Kind.Range)) range (plain_cap Kind.Thread f) at x
            (named_put Made r t b (to_use (only Kind.Range)) range table at x g h)
            (record { names = e; frame = in_its_range range f (not_blank s f ∷ []) calm; is = refl }) s.place (λ f i j e. e);
      }
  made_placed (Make.Tcap sched quality) r f t b = λ range e table g at h calm.
      let x = named_at s c r (to_use (only Kind.Range)) range e in
      record {
        shows = put_at (Call.Make (Make.Tcap sched quality) r f t b) Made r (to_use (only Kind.Range)) range (plain_cap Kind.Tcap f) at x
            (named_put Made r t b (to_use (only Kind.Range)) range table at x g h)
            (record { names = e; frame = in_its_range range f (not_blank s f ∷ []) calm; is = refl }) s.place (λ f i j e. e);
      }
  made_placed (Make.Comp own_table pages live) r f t b = λ range e table g x_cap is_x p_cap is_p at h calm.
      let x = named_at s c r (to_use (only Kind.Range)) range e in
      record {
        shows = put_at (Call.Make (Make.Comp own_table pages live) r f t b) Made r (to_use (only Kind.Range)) range
            (plain_cap Kind.Comp f) at x (named_put Made r t b (to_use (only Kind.Range)) range table at x g h)
            (record { names = e; frame = in_its_range range f (not_blank s f ∷ not_taken s live) calm; is = refl }) s.place (λ f i j e. e);
      }

  retype_placed : (r f : ℕ) (k : FrameKind) → ChangesFrom (Placed s c (Call.Retype r f k)) s c (retype_rule s r f k)
  retype_placed r f FrameKind.Untyped = λ range e calm. kept_places (Call.Retype r f FrameKind.Untyped) _ refl refl
  retype_placed r f FrameKind.User = λ range e calm. kept_places (Call.Retype r f FrameKind.User) _ refl refl
  retype_placed r f FrameKind.Kernel = λ range e calm. kept_places (Call.Retype r f FrameKind.Kernel) _ refl refl

  pub call_placed : (call : Call) → ChangesFrom (Placed s c call) s c (rule_of s c call)
  call_placed (Call.Copy a t b rights) = λ cap e table g at h calm.
      let x = named_at s c a (to_copy any) cap e in
      record {
        shows = put_at (Call.Copy a t b rights) Copied a (to_copy any) cap (kept cap rights.0) at x
            (named_put Copied a t b (to_copy any) cap table at x g h) (record { names = e; is = refl }) s.place (λ f i j e. e);
      }
  call_placed (Call.Remove t b) = λ table e at k g calm. removed_from (Call.Remove t b) (Under (found table) b) at k refl g
  call_placed (Call.Grow t i l) = λ table e leaf f at g calm.
      filled_with_other (Call.Grow t i l) at (plain_cap Kind.Link leaf.frame) refl refl
  call_placed (Call.Shrink t i) = λ table e at k g calm. removed_from (Call.Shrink t i) (InRoot (found table) i) at k refl g
  call_placed (Call.Retype r f k) = retype_placed r f k
  call_placed (Call.Make what r f t b) = made_placed what r f t b
  call_placed (Call.Map p v r f w) = λ pages e range g at u calm.
      filled_with_other (Call.Map p v r f w) at (cap_of Kind.Page f w.0) refl refl
  call_placed (Call.Unmap p v) = λ pages e at k g calm. removed_from (Call.Unmap p v) (Under (found pages) v) at k refl g
  call_placed (Call.Touch v) = by_cached (ChangesFrom (Placed s c (Call.Touch v)) s c) (comp_of s c).pages v
      (λ mapping e calm. kept_places (Call.Touch v) _ refl refl) (λ t calm. kept_places (Call.Touch v) _ refl refl)
      (translation_of (s.core c).cached (comp_of s c).pages v)
  call_placed (Call.Gate k t b) = λ comp e table g at h calm.
      let x = named_at s c k (to_use (only Kind.Comp)) comp e in
      record {
        shows = put_at (Call.Gate k t b) Gated k (to_use (only Kind.Comp)) comp
            (cap_of Kind.Gate comp.frame (comp_in (s.frame comp.frame)).epoch) at x
            (named_put Gated k t b (to_use (only Kind.Comp)) comp table at x g h) (record { names = e; is = refl }) s.place (λ f i j e. e);
      }
  call_placed (Call.Part r f n t b) = λ cap e table g at h calm.
      let x = named_at s c r (to_part (only Kind.Range)) cap e in
      record {
        shows = put_at (Call.Part r f n t b) Parted r (to_part (only Kind.Range)) cap (part_of cap f n) at x
            (named_put Parted r t b (to_part (only Kind.Range)) cap table at x g h)
            (record { names = e; frames = within_by s c cap f n calm; is = refl }) s.place (λ f i j e. e);
      }
  -- the others change no place
  call_placed call = from_left (λ v es. Placed s c call (does c s v es)) s c (rule_of s c call) (λ g led. kept_places call _ refl refl)
