-- Every call that is carried out is a list of edits, each with the capabilities by which it is made.
use Rattle.state_laws.specs.kernel_rules.proofs as low
use low.{◌≡◌, ◌≢◌, ◌⊎◌, inl, inr, ℕ, ◌≤◌, ◌+◌, ◌/◌, ◌%◌, Bool, true, false, not, refl, sym, ◌∙◌, ap, subst, ◌==◌, ltb as nat_lt}
use low.{leb as nat_le, if◌then◌else◌, length, IsTrue, List, [], ◌∷◌, Option, Some, None, min, false≢true, eqb-true, eqb-false, ltb-false}
use low.{Capability, cap_of, both, kept, has_rights, part_of, Kind, FrameKind, Make, Call, Translation, Holds, CompFields, Object, Blank}
use low.{Table, Leaf, Pages, Pleaf, Thread, Tcap, outstanding, Frame, User, Kernel, FrameOf, tcap_in, comp_in, comp_of, thread_in}
use low.{thread_of, plain_cap, Want, to_use, to_copy, any, only, root, found, Slot, Target, Under, InRoot, linked, slot_in, usable, reached}
use low.{own, place_at, root_slot, to_part, fits, refs, waits_of, flushes_of, WaitedFor, Unflushed, Cause, When, Found, name_of, named}
use low.{vacant, held, first_cause, refusal_of, has_frame, outside, not_blank, make_node, make_rule, not_taken, is_live, epoch_of, leaf_of}
use low.{leaf_for, has_frames, not_user, not_retyped, retype_rule, touch_by, translation_of, is_empty, is_untyped_now, is_live_in, not_live}
use low.{switch_to, merged_list, are_same, is_short, are_unlike, are_many, is_finer, is_less, tcap_at, Edit, Fill, Node, Become, Untype}
use low.{Component, Deaden, Push, Pop, rule_of, Cache, Charge, Move, Merge, Give, Reply}
use Rattle.state_laws.specs.kernel_invariant.proofs.{only_is, IsOpen, blank_by, untyped_by, within_by, Suits, suits, none_some, some_inj}
use Rattle.state_laws.specs.kernel_invariant.proofs.{some_none, vacant_facts, held_facts, none_parts, when_not, not_not, is_bare, Calm}
use Rattle.state_laws.specs.kernel_rules.specs.{MemoryCalls.not_untyped, Edits.Remove, Edits.Switch, Edits.Flush, Edits.begins_in}
use Rattle.{authority_laws.specs.IsUnder, authority_laws.specs.MayUse, state_laws.specs.kernel_laws.proofs.State}
use Rattle.{state_laws.specs.kernel_laws.proofs.name_parts, state_laws.specs.kernel_invariant.proofs.Facts.EditsFrom}
use Rattle.{state_laws.specs.kernel_invariant.proofs.Facts.first_two, call_names.specs.Names.IsName, authority_laws.specs.Authority.LivesBy}

-- A number leads core c to a capability of one of these kinds, on this frame, which may be used.
pub record LedTo (act : Call) (s : State) (c : ℕ) (kinds : Kind → Bool) (f : ℕ) : Type 0 where
  pub cap : Capability
  pub may : MayUse act s c cap
  pub kind : IsTrue (kinds cap.kind)
  pub frame : cap.frame ≡ f

-- A frame is in a range that core c may use.
pub record InRange (act : Call) (s : State) (c f : ℕ) : Type 0 where
  pub range : Capability
  pub may : MayUse act s c range
  pub kind : range.kind ≡ Kind.Range
  pub has : has_frame (found range) f ≡ true

-- A node is one of a table, or of pages, that core c may use.
pub record InNode (act : Call) (s : State) (c f : ℕ) : Type 0 where
  pub root : Capability
  pub may : MayUse act s c root
  pub kind : (root.kind ≡ Kind.Table) ⊎ (root.kind ≡ Kind.Pages)
  pub under : IsUnder s c root.frame f

-- A copy of a capability that core c may use.
pub record IsCopied (s : State) (c : ℕ) (k : Capability) : Type 0 where
  pub number : ℕ
  pub at : Slot
  pub reaches : reached s c (own s c number) ≡ Some at
  pub source : Capability
  pub from : usable s c at ≡ Some source
  pub rights : ℕ
  pub is : k ≡ kept source rights

-- A part of a range that core c may use.
pub record IsParted (s : State) (c : ℕ) (k : Capability) : Type 0 where
  pub number : ℕ
  pub at : Slot
  pub reaches : reached s c (own s c number) ≡ Some at
  pub source : Capability
  pub from : usable s c at ≡ Some source
  pub kind : source.kind ≡ Kind.Range
  pub frame : ℕ
  pub count : ℕ
  pub has : has_frames (found source) frame count ≡ true
  pub is : k ≡ part_of source frame count

-- A copy, or a part.
abbrev pub IsTaken : State → ℕ → Capability → Type 0
IsTaken s c k = IsCopied s c k ⊎ IsParted s c k

-- Whether a kind is that of a leaf, or of a component.
abbrev pub is_given : Kind → Bool
is_given Kind.Leaf = true
is_given Kind.Pleaf = true
is_given Kind.Comp = true
is_given _ = false

-- What else is put has both rights, is no range, and is on a frame of a range that core c may use, or on that of a leaf or component.
pub record IsGiven (act : Call) (s : State) (c : ℕ) (k : Capability) : Type 0 where
  pub rights : k.rights ≡ both
  pub kind : only Kind.Range k.kind ≡ false
  pub frame : InRange act s c k.frame ⊎ LedTo act s c is_given k.frame

-- A call enters a component by a gate.
pub record Enters (act : Call) (s : State) (c f : ℕ) : Type 0 where
  pub number : ℕ
  pub is : act ≡ Call.Call number
  pub gate : Capability
  pub names : named s c number (to_use (only Kind.Gate)) ≡ Found gate
  pub may : MayUse act s c gate
  pub kind : gate.kind ≡ Kind.Gate
  pub frame : gate.frame ≡ f
  pub lives : is_live_in (s.number (comp_in (s.frame f)).number) gate.arg ≡ true

-- A core goes on as another thread, with a temporal capability.
pub record GoesOn (act : Call) (s : State) (c h q : ℕ) : Type 0 where
  pub first : ℕ
  pub second : ℕ
  pub is : act ≡ Call.Switch first second
  pub thread : Capability
  pub names : named s c first (to_use (only Kind.Thread)) ≡ Found thread
  pub frame : thread.frame ≡ h
  pub led : LedTo act s c (only Kind.Thread) h
  pub tcap : LedTo act s c (only Kind.Tcap) q
  pub idle : (thread_in (s.frame h)).runs_on ≡ None

-- A component is made of a table and of pages that core c may use, with a number that is not live.
pub record Makes (act : Call) (s : State) (c : ℕ) (k : CompFields) : Type 0 where
  pub dead : is_live (s.number k.number) ≡ false
  pub table : LedTo act s c (only Kind.Table) k.table
  pub pages : LedTo act s c (only Kind.Pages) k.pages

-- A temporal capability has as many ticks to move to another one.
pub record Affords (s : State) (a b m : ℕ) : Type 0 where
  pub apart : a ≢ b
  pub enough : m ≤ (tcap_at s a).budget

-- What is no component, and has no budget.
pub record IsFresh (x : Frame) : Type 0 where
  pub no_comp : fits Kind.Comp x ≡ false
  pub poor : (tcap_in x).budget ≡ 0

-- By what core c makes an edit for a call, in the state in which the call is decided.
abbrev pub By : Call → State → ℕ → Edit → Type 0
By act s c (Fill at k) = InNode act s c at.node × (IsTaken s c k ⊎ IsGiven act s c k)
By act s c (Remove at k) = InNode act s c at.node × (place_at s at ≡ Holds k)
By act s c (Node f object) = InRange act s c f × IsTrue (is_bare (s.frame f)) × IsFresh (Kernel object)
By act s c (Become f x) = InRange act s c f × IsTrue (is_bare (s.frame f)) × IsFresh x
By act s c (Untype f) = InRange act s c f × ((tcap_in (s.frame f)).budget ≡ 0)
By act s c (Component f k) = InRange act s c f × IsTrue (is_bare (s.frame f)) × Makes act s c k
By act s c (Deaden l e) = (k : Capability) × MayUse act s c k × (k.kind ≡ Kind.Comp) × LivesBy s k.frame l
By act s c (Push f) = Enters act s c f
By act s c Pop = act ≡ Call.Ret
By act s c (Switch h q) = GoesOn act s c h q
By act s c (Cache t) = Unit {0}
By act s c Flush = Unit {0}
By act s c (Charge n) = act ≡ Call.Tick n
By act s c (Move a b m) = LedTo act s c (only Kind.Tcap) a × LedTo act s c (only Kind.Tcap) b × Affords s a b m
By act s c (Merge f qs) = LedTo act s c (only Kind.Tcap) f
By act s c (Give f m) = LedTo act s c (only Kind.Tcap) f × (m ≤ outstanding (s.core c))

abbrev pub EachBy : Call → State → ℕ → List Edit → Type 0
EachBy call s c [] = Unit {0}
EachBy call s c (e ∷ es) = By call s c e × EachBy call s c es

-- Of two edits the first begins no grace period.
abbrev pub Quiet : ℕ → State → List Edit → Type 0
Quiet c s [] = Unit {0}
Quiet c s (e ∷ []) = Unit {0}
Quiet c s (e ∷ (x ∷ es)) = begins_in c s e ≡ []

-- By what the edits of a call of core c are made.
pub record Acts (call : Call) (c : ℕ) (s : State) (list : List Edit) : Type 0 where
  pub calm : Calm c s list
  pub quiet : Quiet c s list
  pub by : EachBy call s c list

-- ---- names

-- A name leads to a slot, where core c may use a capability such as is wanted.
pub record NamedAt (s : State) (c n : ℕ) (want : Want) (k : Capability) : Type 0 where
  pub at : Slot
  pub reaches : reached s c (own s c n) ≡ Some at
  pub from : usable s c at ≡ Some k
  pub kind : IsTrue (want.kinds k.kind)
  pub rights : IsTrue (has_rights k.rights want.needs)

named_at : (s : State) (c n : ℕ) (want : Want) (k : Capability) → named s c n want ≡ Found k → NamedAt s c n want k
named_at s c n want k e =
    let p = name_parts s c n want k e in
    let w : Suits want p.2 k = suits want p.2 k p.4 in
    record {
      at = p.0;
      reaches = p.1;
      from = p.3 ∙ ap Some w.is;
      kind = subst (λ (j : Capability). IsTrue (want.kinds j.kind)) w.is w.kind;
      rights = subst (λ (j : Capability). IsTrue (has_rights j.rights want.needs)) w.is w.rights;
    }

-- So does a number by which a call may use a capability.
pub used_at : {act : Call} (s : State) (c : ℕ) (k : Capability) → (m : MayUse act s c k) → NamedAt s c m.number (to_use m.kinds) k
used_at s c k m = named_at s c m.number (to_use m.kinds) k m.leads

module _ (s : State) (c : ℕ) where
  -- what is reached under a number of a table is in a leaf of it
  pub under_leaf : (table : Capability) (n : ℕ) (at : Slot) → reached s c (Under (found table) n) ≡ Some at
      → IsUnder s c table.frame at.node
  under_leaf table n at e = inr (n / 64, by_number (nat_le n 4095) e)
    where
      by_slot : (l : Option ℕ) → slot_in l (n % 64) ≡ Some at → l ≡ Some at.node
      by_slot None q = absurd (none_some at q)
      by_slot (Some leaf) q = ap (λ (x : Slot). Some x.node) (some_inj record { node = leaf; index = n % 64 } at q)

      by_number : (b : Bool) → (if b then slot_in (linked (usable s c (root_slot table.frame n))) (n % 64) else None) ≡ Some at
          → linked (usable s c (root_slot table.frame n)) ≡ Some at.node
      by_number true q = by_slot (linked (usable s c (root_slot table.frame n))) q
      by_number false q = absurd (none_some at q)

  entry_root : (table : Capability) (i : ℕ) (at : Slot) → reached s c (InRoot (found table) i) ≡ Some at → at.node ≡ table.frame
  entry_root table i at e = by_entry (nat_le i 63) e
    where
      by_entry : (b : Bool) → (if b then Some record { node = table.frame; index = i } else None) ≡ Some at → at.node ≡ table.frame
      by_entry true q = ap (λ (x : Slot). x.node) (sym (some_inj record { node = table.frame; index = i } at q))
      by_entry false q = absurd (none_some at q)

root_kind : (k : Kind) → IsTrue (root k) → (k ≡ Kind.Table) ⊎ (k ≡ Kind.Pages)
root_kind Kind.Table h = inl refl
root_kind Kind.Pages h = inr refl
root_kind _ h = absurd (false≢true h)

leaf_kind : (j k : Kind) → IsTrue (only (leaf_of j) k) → IsTrue (is_given k)
leaf_kind j k h = by_kind (leaf_of j) (leaf_is j) (only_is (leaf_of j) k h)
  where
    leaf_is : (j : Kind) → IsTrue (is_given (leaf_of j))
    leaf_is Kind.Table = refl
    leaf_is _ = refl

    by_kind : (i : Kind) → IsTrue (is_given i) → k ≡ i → IsTrue (is_given k)
    by_kind i given same = subst (λ i. IsTrue (is_given i)) (sym same) given

module _ (call : Call) (s : State) (c : ℕ) where
  -- the call names this number, and would use what it leads to, of one of these kinds
  abbrev Uses : ℕ → (Kind → Bool) → Type 0
  Uses n kinds = IsName s c (rule_of s c call) n (to_use kinds)

  may_by : (n : ℕ) (kinds : Kind → Bool) (k : Capability) → Uses n kinds → named s c n (to_use kinds) ≡ Found k
      → MayUse call s c k × IsTrue (kinds k.kind)
  may_by n kinds k is e = (record { number = n; kinds = kinds; is_name = is; leads = e }, (named_at s c n (to_use kinds) k e).kind)

  led_by : (n : ℕ) (kinds : Kind → Bool) (k : Capability) → Uses n kinds → named s c n (to_use kinds) ≡ Found k
      → LedTo call s c kinds k.frame
  led_by n kinds k is e = let p = may_by n kinds k is e in record { cap = k; may = p.0; kind = p.1; frame = refl }

  -- the frame of a call is in its range
  range_by : (n f : ℕ) (range : Capability) (causes : List Cause) → Uses n (only Kind.Range)
      → named s c n (to_use (only Kind.Range)) ≡ Found range
      → first_cause s c (outside (found range) f ∷ causes) ≡ None → InRange call s c f
  range_by n f range causes is e calm =
      let p = may_by n (only Kind.Range) range is e in
      record {
        range = range;
        may = p.0;
        kind = only_is Kind.Range range.kind p.1;
        has = not_not (has_frame (found range) f) (when_not (not (has_frame (found range) f)) Reply.OutOfRange (none_parts _ _ calm).0);
      }

  table_node : (t : ℕ) (table : Capability) (f : ℕ) → Uses t (only Kind.Table) → named s c t (to_use (only Kind.Table)) ≡ Found table
      → IsUnder s c table.frame f → InNode call s c f
  table_node t table f is e under =
      let p = may_by t (only Kind.Table) table is e in
      record { root = table; may = p.0; kind = inl (only_is Kind.Table table.kind p.1); under = under }

  pages_node : (t : ℕ) (pages : Capability) (f : ℕ) → Uses t (only Kind.Pages) → named s c t (to_use (only Kind.Pages)) ≡ Found pages
      → IsUnder s c pages.frame f → InNode call s c f
  pages_node t pages f is e under =
      let p = may_by t (only Kind.Pages) pages is e in
      record { root = pages; may = p.0; kind = inr (only_is Kind.Pages pages.kind p.1); under = under }

  root_node : (t : ℕ) (table : Capability) (f : ℕ) → Uses t root → named s c t (to_use root) ≡ Found table → f ≡ table.frame
      → InNode call s c f
  root_node t table f is e same =
      let p = may_by t root table is e in
      record { root = table; may = p.0; kind = root_kind table.kind p.1; under = inl same }

  -- the place of a named table
  place_by : (t b : ℕ) (table : Capability) (at : Slot) → Uses t (only Kind.Table) → named s c t (to_use (only Kind.Table)) ≡ Found table
      → vacant s c (Under (found table) b) ≡ Found at → InNode call s c at.node
  place_by t b table at is e g =
      table_node t table at.node is e (under_leaf s c table b at (vacant_facts s c (Under (found table) b) at g).0)

  -- the capability of what is made
  made_cap : (k : Kind) (f : ℕ) → only Kind.Range k ≡ false → InRange call s c f
      → IsTaken s c (plain_cap k f) ⊎ IsGiven call s c (plain_cap k f)
  made_cap k f other range = inr (record { rights = refl; kind = other; frame = inl range })

-- ---- lists of one edit, and of two

module _ (call : Call) (s : State) (c : ℕ) where
  nothing : Acts call c s []
  nothing = record { calm = tt; quiet = tt; by = tt }

  one : (e : Edit) → By call s c e → Acts call c s (e ∷ [])
  one e by = record { calm = (refl, λ x. refl, tt); quiet = tt; by = (by, tt) }

  two : (e x : Edit) → Calm c s (e ∷ x ∷ []) → begins_in c s e ≡ [] → By call s c e → By call s c x → Acts call c s (e ∷ x ∷ [])
  two e x calm quiet by next = record { calm = calm; quiet = quiet; by = (by, (next, tt)) }

  filled : (at : Slot) (k : Capability) → InNode call s c at.node → IsTaken s c k ⊎ IsGiven call s c k → Acts call c s (Fill at k ∷ [])
  filled at k node from = one (Fill at k) (node, from)

  removed : (target : Target) (at : Slot) (k : Capability) → InNode call s c at.node → held s c target ≡ Found (at, k)
      → Acts call c s (Remove at k ∷ [])
  removed target at k node e = one (Remove at k) (node, (held_facts s c target at k e).1)

-- ---- the calls

empty_budget : (s : State) (f : ℕ) (x : Frame) → is_empty s f x ≡ true → (tcap_in x).budget ≡ 0
empty_budget s f (Kernel (Tcap q)) e = eqb-true q.budget 0 e
empty_budget s f _ e = refl

module _ (s : State) (c : ℕ) (o : ℕ → Bool) (h : IsOpen s o c) where
  bare_blank : (r f : ℕ) (range : Capability) (causes : List Cause) → named s c r (to_use (only Kind.Range)) ≡ Found range
      → first_cause s c (outside (found range) f ∷ not_blank s f ∷ causes) ≡ None → IsTrue (is_bare (s.frame f))
  bare_blank r f range causes e calm = subst (λ x. IsTrue (is_bare x)) (sym (blank_by s o c r f range causes h e calm).1) refl

  bare_untyped : (r f : ℕ) (range : Capability) → named s c r (to_use (only Kind.Range)) ≡ Found range
      → first_cause s c (outside (found range) f ∷ not_untyped s f ∷ []) ≡ None → IsTrue (is_bare (s.frame f))
  bare_untyped r f range e calm = subst (λ x. IsTrue (is_bare x)) (sym (untyped_by s o c r f range h e calm).1) refl

  node_acts : (call : Call) (object : Object) (k : Kind) (r f t b : ℕ) → Uses call s c r (only Kind.Range)
      → Uses call s c t (only Kind.Table) → IsFresh (Kernel object) → only Kind.Range k ≡ false
      → ((at : Slot) → Calm c s (Node f object ∷ Fill at (plain_cap k f) ∷ []))
      → EditsFrom (λ x es. Acts call c s es) s c (make_node s object k r f t b)
  node_acts call object k r f t b by_range by_table none other calm_at = λ range e table g at v calm.
      let within = range_by call s c r f range (not_blank s f ∷ []) by_range e calm in
      two call s c (Node f object) (Fill at (plain_cap k f)) (calm_at at) refl
      (within, bare_blank r f range [] e calm, none)
      (place_by call s c t b table at by_table g v, made_cap call s c k f other within)

  made_acts : (call : Call) (object : Object) (k : Kind) (r f t b : ℕ) (range table : Capability) (at : Slot)
      → Uses call s c r (only Kind.Range) → Uses call s c t (only Kind.Table) → IsFresh (Kernel object) → only Kind.Range k ≡ false
      → named s c r (to_use (only Kind.Range)) ≡ Found range → named s c t (to_use (only Kind.Table)) ≡ Found table
      → vacant s c (Under (found table) b) ≡ Found at
      → first_cause s c (outside (found range) f ∷ not_blank s f ∷ []) ≡ None
      → Acts call c s (Become f (Kernel object) ∷ Fill at (plain_cap k f) ∷ [])
  made_acts call object k r f t b range table at by_range by_table none other e g v calm =
      let within = range_by call s c r f range (not_blank s f ∷ []) by_range e calm in
      two call s c (Become f (Kernel object)) (Fill at (plain_cap k f)) (refl, λ x. refl, tt) refl
      (within, bare_blank r f range [] e calm, none)
      (place_by call s c t b table at by_table g v, made_cap call s c k f other within)

  -- the first two names of a `make`
  first : {n : ℕ} {want : Want} {A : Type 0} → ((n ≡ n) × (want ≡ want)) ⊎ A
  first = inl (refl, refl)

  second : {m n : ℕ} {other want : Want} {A : Type 0} → ((n ≡ m) × (want ≡ other)) ⊎ (((n ≡ n) × (want ≡ want)) ⊎ A)
  second = inr (inl (refl, refl))

  make_acts : (what : Make) (r f t b : ℕ) → EditsFrom (λ x es. Acts (Call.Make what r f t b) c s es) s c (make_rule s what r f t b)
  make_acts Make.Table r f t b = node_acts (Call.Make Make.Table r f t b) Table Kind.Table r f t b first second
      (record { no_comp = refl; poor = refl }) refl
      (λ at. (refl, λ x. refl, tt))
  make_acts Make.Leaf r f t b = node_acts (Call.Make Make.Leaf r f t b) Leaf Kind.Leaf r f t b first second
      (record { no_comp = refl; poor = refl }) refl
      (λ at. (refl, λ x. refl, tt))
  make_acts Make.Pages r f t b = node_acts (Call.Make Make.Pages r f t b) Pages Kind.Pages r f t b first second
      (record { no_comp = refl; poor = refl }) refl
      (λ at. (refl, λ x. refl, tt))
  make_acts Make.Pleaf r f t b = node_acts (Call.Make Make.Pleaf r f t b) Pleaf Kind.Pleaf r f t b first second
      (record { no_comp = refl; poor = refl }) refl
      (λ at. (refl, λ x. refl, tt))
  make_acts (Make.Thread comp) r f t b = λ range e table g k j at v calm.
      made_acts (Call.Make (Make.Thread comp) r f t b) (Thread (record { stack = k.frame ∷ []; runs_on = None })) Kind.Thread r f t b
      range table at first second (record { no_comp = refl; poor = refl }) refl e g v calm
  make_acts (Make.Tcap sched quality) r f t b = λ range e table g at v calm.
      made_acts (Call.Make (Make.Tcap sched quality) r f t b) (Tcap (record { budget = 0; qualities = (sched, quality) ∷ [] }))
      Kind.Tcap r f t b range table at first second (record { no_comp = refl; poor = refl }) refl e g v calm
  make_acts (Make.Comp x p l) r f t b = λ range e table g own_table a own_pages d at v calm.
      let act : Call = Call.Make (Make.Comp x p l) r f t b in
      let within = range_by act s c r f range (not_blank s f ∷ not_taken s l) first e calm in
      let q1 = none_parts (refusal_of s c (outside (found range) f)) (first_cause s c (not_blank s f ∷ not_taken s l)) calm in
      let q2 = none_parts (refusal_of s c (not_blank s f)) (first_cause s c (not_taken s l)) q1.1 in
      let q3 = none_parts (refusal_of s c (When (is_live (s.number l)) Reply.Occupied)) _ q2.1 in
      let fields : CompFields =
      record { table = own_table.frame; pages = own_pages.frame; number = l; epoch = epoch_of (s.number l) + 1 } in
      two act s c (Component f fields) (Fill at (plain_cap Kind.Comp f)) (refl, λ x. refl, tt) refl (
        within,
        bare_blank r f range (not_taken s l) e calm,
        record {
          dead = when_not (is_live (s.number l)) Reply.Occupied q3.0;
          table = led_by act s c x (only Kind.Table) own_table (inr (inr (inl (refl, refl)))) a;
          pages = led_by act s c p (only Kind.Pages) own_pages (inr (inr (inr (inl (refl, refl))))) d;
        },
      )
      (place_by act s c t b table at second g v, made_cap act s c Kind.Comp f refl within)

  retype_acts : (r f : ℕ) (k : FrameKind) → EditsFrom (λ x es. Acts (Call.Retype r f k) c s es) s c (retype_rule s r f k)
  retype_acts r f FrameKind.User = λ range e calm.
      one (Call.Retype r f FrameKind.User) s c (Become f User) (
        range_by (Call.Retype r f FrameKind.User) s c r f range (not_untyped s f ∷ []) first e calm,
        bare_untyped r f range e calm,
        record { no_comp = refl; poor = refl },
      )
  retype_acts r f FrameKind.Kernel = λ range e calm.
      one (Call.Retype r f FrameKind.Kernel) s c (Become f (Kernel Blank)) (
        range_by (Call.Retype r f FrameKind.Kernel) s c r f range (not_untyped s f ∷ []) first e calm,
        bare_untyped r f range e calm,
        record { no_comp = refl; poor = refl },
      )
  retype_acts r f FrameKind.Untyped = λ range e calm.
      let full : Cause = When (not (is_empty s f (s.frame f))) Reply.NotEmpty in
      let referenced : Cause = When (nat_lt 0 (refs s f)) (Reply.Referenced (refs s f)) in
      let p = none_parts (refusal_of s c (outside (found range) f)) (first_cause s c (not_retyped s f FrameKind.Untyped)) calm in
      let p1 = none_parts (refusal_of s c (is_untyped_now s f))
      (first_cause s c (referenced ∷ WaitedFor (FrameOf f) ∷ Unflushed (FrameOf f) ∷ full ∷ [])) p.1 in
      let p2 = none_parts (refusal_of s c referenced) (first_cause s c (WaitedFor (FrameOf f) ∷ Unflushed (FrameOf f) ∷ full ∷ [])) p1.1 in
      let p3 = none_parts (waits_of s c (FrameOf f)) (first_cause s c (Unflushed (FrameOf f) ∷ full ∷ [])) p2.1 in
      let p4 = none_parts (flushes_of s (FrameOf f)) (first_cause s c (full ∷ [])) p3.1 in
      let p5 = none_parts (refusal_of s c full) None p4.1 in
      let empty : is_empty s f (s.frame f) ≡ true =
      not_not (is_empty s f (s.frame f)) (when_not (not (is_empty s f (s.frame f))) Reply.NotEmpty p5.0) in
      one (Call.Retype r f FrameKind.Untyped) s c (Untype f) (
        range_by (Call.Retype r f FrameKind.Untyped) s c r f range (not_retyped s f FrameKind.Untyped) first e calm,
        empty_budget s f (s.frame f) empty,
      )

  touch_acts : (v : ℕ) (t : Option Translation) → EditsFrom (λ x es. Acts (Call.Touch v) c s es) s c (touch_by (comp_of s c).pages v t)
  touch_acts v None = λ mapping e calm.
      let t : Translation = record { pages = (comp_of s c).pages; page = v; frame = mapping.frame; flags = record { 0 = mapping.arg } } in
      one (Call.Touch v) s c (Cache t) tt
  touch_acts v (Some t) = λ calm. nothing (Call.Touch v) s c

  switch_acts : (a b : ℕ) (j k : Capability) → named s c a (to_use (only Kind.Thread)) ≡ Found j
      → named s c b (to_use (only Kind.Tcap)) ≡ Found k → (e : Option ℕ) → (thread_in (s.frame j.frame)).runs_on ≡ e
      → EditsFrom (λ x es. Acts (Call.Switch a b) c s es) s c (switch_to (found j) k.frame e)
  switch_acts a b j k g q (Some e) is = λ calm. absurd (some_none (Reply.Running e) (none_parts (Some (Reply.Running e)) None calm).0)
  switch_acts a b j k g q None is = λ calm.
      one (Call.Switch a b) s c (Switch j.frame k.frame) (record {
        first = a;
        second = b;
        is = refl;
        thread = j;
        names = g;
        frame = refl;
        led = led_by (Call.Switch a b) s c a (only Kind.Thread) j first g;
        tcap = led_by (Call.Switch a b) s c b (only Kind.Tcap) k second q;
        idle = is;
      })

  affords : (m : ℕ) (j k : Capability) (causes : List Cause)
      → first_cause s c (are_same (found j) (found k) ∷ is_short s (found j) m ∷ causes) ≡ None → Affords s j.frame k.frame m
  affords m j k causes calm =
      let p = first_two s c (are_same (found j) (found k)) (is_short s (found j) m) causes calm in
      let budget : ℕ = (tcap_at s j.frame).budget in
      record {
        apart = eqb-false j.frame k.frame (when_not (j.frame == k.frame) Reply.Same p.0);
        enough = ltb-false budget m (when_not (nat_lt budget m) (Reply.Short budget) p.1);
      }

  has_left : (a m : ℕ) (j : Capability) → first_cause s c (is_finer s c (found j) ∷ is_less s c m ∷ []) ≡ None → m ≤ outstanding (s.core c)
  has_left a m j calm =
      let p = first_two s c (is_finer s c (found j)) (is_less s c m) [] calm in
      let left : ℕ = outstanding (s.core c) in
      ltb-false left m (when_not (nat_lt left m) (Reply.Short (min left m)) p.1)

  pub rule_acts : (call : Call) → EditsFrom (λ x es. Acts call c s es) s c (rule_of s c call)
  rule_acts (Call.Look a) = λ k e calm. nothing (Call.Look a) s c
  rule_acts (Call.Copy a t b rights) = λ k e table g at v calm.
      let x = named_at s c a (to_copy any) k e in
      filled (Call.Copy a t b rights) s c at (kept k rights.0) (place_by (Call.Copy a t b rights) s c t b table at second g v)
      (inl (inl (record { number = a; at = x.at; reaches = x.reaches; source = k; from = x.from; rights = rights.0; is = refl })))
  rule_acts (Call.Remove t b) = λ table e at k g calm.
      removed (Call.Remove t b) s c (Under (found table) b) at k
      (table_node (Call.Remove t b) s c t table at.node first e
      (under_leaf s c table b at (held_facts s c (Under (found table) b) at k g).0)) g
  rule_acts (Call.Grow t i l) = λ table e leaf f at g calm.
      filled (Call.Grow t i l) s c at (plain_cap Kind.Link leaf.frame)
      (root_node (Call.Grow t i l) s c t table at.node first e
      (entry_root s c table i at (vacant_facts s c (InRoot (found table) i) at g).0))
      (inr (record { rights = refl; kind = refl; frame = inr (leaf_led t i l table leaf e f) }))
    where
      leaf_led : (t i l : ℕ) (table leaf : Capability) → named s c t (to_use root) ≡ Found table
          → named s c l (to_use (leaf_for (found table))) ≡ Found leaf → LedTo (Call.Grow t i l) s c is_given leaf.frame
      leaf_led t i l table leaf e f =
          let p = may_by (Call.Grow t i l) s c l (leaf_for (found table)) leaf
          (inr (inl (refl, ap (λ j. to_use (leaf_for (name_of j))) (sym e)))) f in
          record { cap = leaf; may = p.0; kind = leaf_kind table.kind leaf.kind p.1; frame = refl }
  rule_acts (Call.Shrink t i) = λ table e at k g calm.
      removed (Call.Shrink t i) s c (InRoot (found table) i) at k
      (root_node (Call.Shrink t i) s c t table at.node first e
      (entry_root s c table i at (held_facts s c (InRoot (found table) i) at k g).0)) g
  rule_acts (Call.Retype r f k) = retype_acts r f k
  rule_acts (Call.Make what r f t b) = make_acts what r f t b
  rule_acts (Call.Map p v r f w) = λ pages e range g at u calm.
      filled (Call.Map p v r f w) s c at (cap_of Kind.Page f w.0)
      (pages_node (Call.Map p v r f w) s c p pages at.node first e
      (under_leaf s c pages v at (vacant_facts s c (Under (found pages) v) at u).0))
      (inr (record {
        rights = refl;
        kind = refl;
        frame = inl (range_by (Call.Map p v r f w) s c r f range (not_user s f ∷ []) second g calm);
      }))
  rule_acts (Call.Unmap p v) = λ pages e at k g calm.
      removed (Call.Unmap p v) s c (Under (found pages) v) at k
      (pages_node (Call.Unmap p v) s c p pages at.node first e
      (under_leaf s c pages v at (held_facts s c (Under (found pages) v) at k g).0)) g
  rule_acts (Call.Touch v) = touch_acts v (translation_of (s.core c).cached (comp_of s c).pages v)
  rule_acts Call.Flush = λ calm. one Call.Flush s c Flush tt
  rule_acts (Call.Gate k t b) = λ comp e table g at v calm.
      filled (Call.Gate k t b) s c at (cap_of Kind.Gate comp.frame (comp_in (s.frame comp.frame)).epoch)
      (place_by (Call.Gate k t b) s c t b table at second g v)
      (inr (record { rights = refl; kind = refl; frame = inr (comp_led k t b comp e) }))
    where
      comp_led : (k t b : ℕ) (comp : Capability) → named s c k (to_use (only Kind.Comp)) ≡ Found comp
          → LedTo (Call.Gate k t b) s c is_given comp.frame
      comp_led k t b comp e =
          let p = may_by (Call.Gate k t b) s c k (only Kind.Comp) comp first e in
          let given = subst (λ j. IsTrue (is_given j)) (sym (only_is Kind.Comp comp.kind p.1)) refl in
          record { cap = comp; may = p.0; kind = given; frame = refl }
  rule_acts (Call.Kill k) = λ comp e calm.
      let fields = comp_in (s.frame comp.frame) in
      let p = none_parts (refusal_of s c (not_live s (found comp) fields.number fields.epoch)) None calm in
      let live : is_live_in (s.number fields.number) fields.epoch ≡ true = not_not _ (when_not _ Reply.Dead p.0) in
      let q = may_by (Call.Kill k) s c k (only Kind.Comp) comp first e in
      one (Call.Kill k) s c (Deaden fields.number fields.epoch) (comp, q.0, only_is Kind.Comp comp.kind q.1, (refl, live))
  rule_acts (Call.Call g) = λ gate e calm.
      let p = none_parts (refusal_of s c (When (nat_le 16 (length (thread_of s c).stack)) Reply.Deep)) _ calm in
      let q = none_parts (refusal_of s c (not_live s (found gate) (comp_in (s.frame gate.frame)).number gate.arg)) None p.1 in
      let m = may_by (Call.Call g) s c g (only Kind.Gate) gate first e in
      one (Call.Call g) s c (Push gate.frame) (record {
        number = g;
        is = refl;
        gate = gate;
        names = e;
        may = m.0;
        kind = only_is Kind.Gate gate.kind m.1;
        frame = refl;
        lives = not_not _ (when_not _ Reply.Dead q.0);
      })
  rule_acts Call.Ret = λ calm. one Call.Ret s c Pop refl
  rule_acts (Call.Switch f q) = λ thread e tcap g.
      switch_acts f q thread tcap e g (thread_in (s.frame thread.frame)).runs_on refl
  rule_acts (Call.Tick n) = λ calm. one (Call.Tick n) s c (Charge n) refl
  rule_acts (Call.Transfer a b m) = λ j e k f calm.
      one (Call.Transfer a b m) s c (Move j.frame k.frame m) (
        led_by (Call.Transfer a b m) s c a (only Kind.Tcap) j first e,
        led_by (Call.Transfer a b m) s c b (only Kind.Tcap) k second f,
        affords m j k (are_unlike s (found j) (found k) ∷ []) calm,
      )
  rule_acts (Call.Delegate a b m) = λ j e k f calm.
      two (Call.Delegate a b m) s c (Move j.frame k.frame m) (Merge k.frame (merged_list s j.frame k.frame))
      (refl, λ x. refl, tt) refl (
        led_by (Call.Delegate a b m) s c a (only Kind.Tcap) j first e,
        led_by (Call.Delegate a b m) s c b (only Kind.Tcap) k second f,
        affords m j k (are_many s (found j) (found k) ∷ []) calm,
      ) (led_by (Call.Delegate a b m) s c b (only Kind.Tcap) k second f)
  rule_acts (Call.Test a b) = λ j e k f calm. nothing (Call.Test a b) s c
  rule_acts (Call.Replenish a m) = λ j e calm.
      one (Call.Replenish a m) s c (Give j.frame m) (
        led_by (Call.Replenish a m) s c a (only Kind.Tcap) j first e,
        has_left a m j calm,
      )
  rule_acts (Call.Part r f n t b) = λ k e table g at v calm.
      let x = named_at s c r (to_part (only Kind.Range)) k e in
      filled (Call.Part r f n t b) s c at (part_of k f n) (place_by (Call.Part r f n t b) s c t b table at second g v)
      (inl (inr (record {
        number = r;
        at = x.at;
        reaches = x.reaches;
        source = k;
        from = x.from;
        kind = only_is Kind.Range k.kind x.kind;
        frame = f;
        count = n;
        has = within_by s c k f n calm;
        is = refl;
      })))
