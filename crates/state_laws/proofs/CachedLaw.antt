-- In every state that a run reaches, what a core has cached stands.
use Rattle.kernel_laws.proofs.{◌≡◌, ◌≢◌, ◌⊎◌, inl, inr, ℕ, ◌<◌, ◌≤◌, ◌/◌, ◌%◌, arith, Bool, true, false, refl, sym, ◌∙◌, ap, ◌||◌, subst}
use Rattle.kernel_laws.proofs.{ltb as nat_lt, leb as nat_le, if◌then◌else◌, IsTrue, List, [], ◌∷◌, ◌++◌, length, Option, Some, None}
use Rattle.kernel_laws.proofs.{false≢true, ltb-false, Setting, IsSetting, InLimits, Capability, Call, Tick, Translation, Reply, Place, Free}
use Rattle.kernel_laws.proofs.{Holds, Quiescing, Pages, Pleaf, Frame, User, Kernel, Core, Thing, PlaceOf, FrameOf, State, put, with_core}
use Rattle.kernel_laws.proofs.{comp_of, named_by, times, refs, Slot, root_at, Under, place_at, held_in, usable_in, usable, linked, slot_in}
use Rattle.kernel_laws.proofs.{reached, root_slot, is_paging, is_translated, entered, returned, Found, and_then, or_refuse, unless, mapped}
use Rattle.kernel_laws.proofs.{caching, Edit, Fill, Merge, Give, Cache, Charge, edited, after_edits, change_of, changed, owed_by, state_by}
use Rattle.kernel_laws.proofs.{MayReply, flushes, flushes_by, fits, IsGood, IsGuarded, Event, Enters, Decides, Returns, after, is_in}
use Rattle.kernel_laws.proofs.{is_open, IsRun, put_same, put_other, waits_inside, times_first, only_is, put_all, IsOpen, opened, open_is}
use Rattle.kernel_laws.proofs.{open_limits, inside_is, limits_stay, core_same_refs, grace_refs, Tested, Each, AreLater, Calm, after_ok}
use Rattle.kernel_laws.proofs.{then_parts, or_found, some_inj, none_some, IsFitted, runs_fit, held_is, mapped_page, phase_own, phase_other}
use Rattle.kernel_laws.specs.found_stays.proofs.{pages_relies, usable_guarded}
use Rattle.kernel_laws.specs.kernel_rules.proofs.{needs_flush, decided_stays}
use Rattle.kernel_laws.specs.kernel_rules.specs.Edits.{Switch, Flush}
use Rattle.kernel_laws.specs.kernel_invariant.specs.Edits.{is_flush, flush_in}
use Rattle.kernel_laws.specs.kernel_invariant.proofs.{Edited.later_core, Facts.found_inj, Facts.refused_found, SoundRuns.decided_opened}
use Rattle.kernel_laws.specs.found_stays.proofs.Stays.{link_of, fields, place_named}
use Rattle.kernel_laws.proofs.NodesLaw.{leaf_fits, pages_leaf, fit_node}
use Rattle.state_laws.specs.Cached.{IsStillThere, IsLinkTo, IsMappingOf, IsOrWas, Stands, TranslationsStand}
use Rattle.state_laws.proofs.Flushes.{frame_stays, there_stays, place_unflushed, place_holds, IsWaited, decided_waited}
use Rattle.{kernel_laws.proofs.Kind, std.proofs.lemmas.Bool.cases_eq, std.specs.List.AllByRecursion}

-- All of a list.
all_map : {A : Type 0} (P Q : A → Type 0) (xs : List A) → ((x : A) → P x → Q x) → AllByRecursion P xs → AllByRecursion Q xs
all_map P Q [] f h = tt
all_map P Q (x ∷ xs) f h = (f x h.0, all_map P Q xs f h.1)

all_more : {A : Type 0} (P : A → Type 0) (xs : List A) (x : A) → AllByRecursion P xs → P x → AllByRecursion P (xs ++ x ∷ [])
all_more P [] x h new = (new, tt)
all_more P (y ∷ ys) x h new = (h.0, all_more P ys x h.1 new)

-- What a place that links or maps holds.
link_held : (leaf : ℕ) (p : Place) → IsLinkTo leaf p → (k : Capability) × (p ≡ Holds k)
link_held leaf (Holds k) h = (k, refl)
link_held leaf _ h = absurd h

mapping_held : (t : Translation) (p : Place) → IsMappingOf t p → (k : Capability) × (p ≡ Holds k)
mapping_held t (Holds k) h = (k, refl)
mapping_held t _ h = absurd h

-- A translation that stands for core d stands after a decision, but for d's own flush.
module _ (s : State) (o : ℕ → Bool) (c : ℕ) (call : Call) (r : Reply)
    (h : IsOpen s o c) (lim : InLimits call) (may : MayReply s c call r) where
  or_was : (P : Place → Type 0) (d f i : ℕ) → ((p : Place) → P p → (k : Capability) × (p ≡ Holds k)) → IsTrue (is_paging (s.frame f))
      → (flushes call r ≡ true → d ≢ c)
      → IsOrWas s d P f i → IsOrWas (state_by s c call r) d P f i
  or_was P d f i holds is other (inr un) = inr (place_unflushed s o c call r h lim may d f i is other un)
  or_was P d f i holds is other (inl p) =
      let k = holds (s.place f i) p in
      elim (place_holds s o c call r h lim may d f i k.0 is k.1) [
        | inl same ↦ inl (subst P (k.1 ∙ sym same) p)
        | inr un ↦ inr un
      ]

  stands_stays : (d : ℕ) (t : Translation) → d < s.limits.cores → (flushes call r ≡ true → d ≢ c) → Stands s d t
      → Stands (state_by s c call r) d t
  stands_stays d t below other a =
      let root : IsTrue (is_translated (s.frame t.pages)) = subst (λ x. IsTrue (is_translated x)) (sym a.root) refl in
      let leaf : IsTrue (is_translated (s.frame a.leaf)) = subst (λ x. IsTrue (is_translated x)) (sym a.through) refl in
      let user : IsTrue (is_translated (s.frame t.frame)) = subst (λ x. IsTrue (is_translated x)) (sym a.user) refl in
      record {
        leaf = a.leaf;
        page_small = a.page_small;
        root = frame_stays s o c call r h lim may d t.pages below root a.root_there ∙ a.root;
        root_there = there_stays s o c call r h lim may d t.pages below root other a.root_there;
        through = frame_stays s o c call r h lim may d a.leaf below leaf a.leaf_there ∙ a.through;
        leaf_there = there_stays s o c call r h lim may d a.leaf below leaf other a.leaf_there;
        user = frame_stays s o c call r h lim may d t.frame below user a.frame_there ∙ a.user;
        frame_there = there_stays s o c call r h lim may d t.frame below user other a.frame_there;
        entry = or_was (IsLinkTo a.leaf) d t.pages (t.page / 64) (link_held a.leaf)
            (subst (λ x. IsTrue (is_paging x)) (sym a.root) refl) other a.entry;
        mapping = or_was (IsMappingOf t) d a.leaf (t.page % 64) (mapping_held t)
            (subst (λ x. IsTrue (is_paging x)) (sym a.through) refl) other a.mapping;
      }

-- Each core's translations stand.
abbrev AllStand : State → (ℕ → Core) → Type 0
AllStand s core = (d : ℕ) → d < s.limits.cores → AllByRecursion (Stands s d) (core d).cached

core_stand : (s : State) (core : ℕ → Core) (c : ℕ) (k : Core) → AllByRecursion (Stands s c) k.cached → AllStand s core
    → AllStand s (put core c k)
core_stand s core c k own h d below =
    put_all (λ d x. AllByRecursion (Stands s d) x.cached) core c k d
    (λ same. subst (λ n. AllByRecursion (Stands s n) k.cached) (sym same) own) (λ other. h d below)

-- What a change makes of the lists of translations.
record Caches (s : State) (c : ℕ) (flushes : Bool) (core : ℕ → Core) : Type 0 where
  stand : AllStand s core
  flushed : flushes ≡ true → (core c).cached ≡ []

-- What a `touch` finds in the table.
module _ (s : State) (o : ℕ → Bool) (c : ℕ) (h : IsOpen s o c) (w : IsFitted s o) (u : IsWaited s o) where
  guarded_there : (f : ℕ) → IsTrue (is_translated (s.frame f)) → IsGuarded s c f → IsStillThere s c f
  guarded_there f is (inl some) = inl some
  guarded_there f is (inr wait) = inr (u.unflushed (FrameOf f) c h.is wait is)

  index_of : (l : Option ℕ) (b : Bool) (i : ℕ) (at : Slot) → (if b then slot_in l i else None) ≡ Some at → i ≡ at.index
  index_of l false i at e = absurd (none_some at e)
  index_of None true i at e = absurd (none_some at e)
  index_of (Some leaf) true i at e = ap (λ (x : Slot). x.index) (some_inj record { node = leaf; index = i } at e)

  -- A link that core c may use.
  entry_of : (f i : ℕ) (j : Capability) (leaf : ℕ) → IsTrue (is_paging (s.frame f)) → usable s c (record { node = f; index = i }) ≡ Some j
      → j.kind ≡ Kind.Link → j.frame ≡ leaf
      → IsOrWas s c (IsLinkTo leaf) f i
  entry_of f i j leaf is e link same = by_place (s.place f i) refl e
    where
      by_wait : (m : Capability) (b : Bool) → (s.grace (PlaceOf f i)).waits c ≡ b → (if b then Some m else None) ≡ Some j
          → IsTrue ((s.grace (PlaceOf f i)).waits c)
      by_wait m true is q = is
      by_wait m false is q = absurd (none_some j q)

      by_place : (p : Place) → s.place f i ≡ p → usable_in p ((s.grace (PlaceOf f i)).waits c) ≡ Some j → IsOrWas s c (IsLinkTo leaf) f i
      by_place Free at q = absurd (none_some j q)
      by_place (Holds m) at q = inl (subst (IsLinkTo leaf) (sym (at ∙ ap Holds (some_inj m j q))) (link, same))
      by_place (Quiescing m) at q = inr (u.unflushed (PlaceOf f i) c h.is (by_wait m ((s.grace (PlaceOf f i)).waits c) refl q) is)

  user_of : (k : Capability) → k.kind ≡ Kind.Page → IsGood s k → s.frame k.frame ≡ User
  user_of k is good = by_frame (s.frame k.frame) (subst (λ j. IsTrue (fits j (s.frame k.frame))) is good.fit)
    where
      by_frame : (x : Frame) → IsTrue (fits Kind.Page x) → x ≡ User
      by_frame User fit = refl
      by_frame _ fit = absurd (false≢true fit)

  pub touched : (v : ℕ) (k : Capability) → mapped s c (comp_of s c).pages v ≡ Found k
      → Stands s c (record { pages = (comp_of s c).pages; page = v; frame = k.frame; flags = record { 0 = k.arg } })
  touched v k e =
      let pages : ℕ = (comp_of s c).pages in
      let a = then_parts (unless (if nat_lt 4095 v then Some Reply.NoSlot else None) v)
      (λ v. and_then (or_refuse (reached s c (Under (root_at pages) v)) Reply.Fault)
      λ at. or_refuse (held_in (place_at s at)) Reply.Fault) k e in
      let b = then_parts (or_refuse (reached s c (Under (root_at pages) a.0)) Reply.Fault)
      (λ at. or_refuse (held_in (place_at s at)) Reply.Fault) k a.2 in
      let small : v ≤ 4095 = by_test (nat_lt 4095 v) refl a.1 in
      let v_is : v ≡ a.0 = page_is (nat_lt 4095 v) a.1 in
      let r0 : reached s c (Under (root_at pages) a.0) ≡ Some b.0 =
      or_found (reached s c (Under (root_at pages) a.0)) Reply.Fault b.0 b.1 in
      let r : reached s c (Under (root_at pages) v) ≡ Some b.0 = ap (λ n. reached s c (Under (root_at pages) n)) v_is ∙ r0 in
      let l = link_of (usable s c (root_slot pages v)) (nat_le v 4095) (v % 64) b.0 r in
      let index : v % 64 ≡ b.0.index = index_of (linked (usable s c (root_slot pages v))) (nat_le v 4095) (v % 64) b.0 r in
      let fit : IsTrue (fits Kind.Pages (s.frame pages)) = (fields s o c h.sound h.is).1 in
      let root : s.frame pages ≡ Kernel Pages = pages_root (s.frame pages) fit in
      let leaf : s.frame b.0.node ≡ Kernel Pleaf =
      pages_leaf s o c h w (s.frame pages) fit (s.frame b.0.node)
      (leaf_fits s o c h w (root_at pages) v b.0 ((fit_node s o c h w Kind.Pages (s.frame pages) fit).1 refl) r) in
      let held : s.place b.0.node b.0.index ≡ Holds k =
      held_is s o c h w (place_at s b.0) k (or_found (held_in (place_at s b.0)) Reply.Fault k b.2) in
      let page : k.kind ≡ Kind.Page = mapped_page s o c h w v k e in
      let link : l.0.kind ≡ Kind.Link = only_is Kind.Link l.0.kind l.2 in
      let user : s.frame k.frame ≡ User = user_of k page (h.sound.held b.0.node b.0.index k held) in
      record {
        leaf = b.0.node;
        page_small = small;
        root = root;
        root_there = guarded_there pages (subst (λ x. IsTrue (is_translated x)) (sym root) refl) (pages_relies s o c h.sound h.is).guarded;
        through = leaf;
        leaf_there = guarded_there b.0.node (subst (λ x. IsTrue (is_translated x)) (sym leaf) refl)
            (subst (IsGuarded s c) l.3
            (usable_guarded s o c h.sound h.is (root_slot pages v) l.0 (ap (λ j. named_by j l.0.frame) link) l.1));
        user = user;
        frame_there = inl (place_named s o b.0.node b.0.index k.frame k h.sound held
            (subst (λ xs. 1 ≤ times k.frame xs) (sym (ap (λ j. named_by j k.frame) page)) (times_first k.frame [])));
        entry = entry_of pages (v / 64) l.0 b.0.node (subst (λ x. IsTrue (is_paging x)) (sym root) refl) l.1 link l.3;
        mapping =
            inl (subst (λ i. IsMappingOf (record { pages = pages; page = v; frame = k.frame; flags = record { 0 = k.arg } })
            (s.place b.0.node i)) (sym index)
            (subst (IsMappingOf (record { pages = pages; page = v; frame = k.frame; flags = record { 0 = k.arg } })) (sym held) (
              page,
              refl,
              refl,
            )));
      }
    where
      by_test : (t : Bool) → nat_lt 4095 v ≡ t → {n : ℕ} → unless (if t then Some Reply.NoSlot else None) v ≡ Found n → v ≤ 4095
      by_test false is e = ltb-false 4095 v is
      by_test true is {n = n} e = absurd (refused_found Reply.NoSlot n e)

      page_is : (t : Bool) → {n : ℕ} → unless (if t then Some Reply.NoSlot else None) v ≡ Found n → v ≡ n
      page_is false {n = n} e = found_inj v n e
      page_is true {n = n} e = absurd (refused_found Reply.NoSlot n e)

      pages_root : (x : Frame) → IsTrue (fits Kind.Pages x) → x ≡ Kernel Pages
      pages_root (Kernel Pages) fit = refl
      pages_root _ fit = absurd (false≢true fit)

  -- The edits
  longer : (cached : List Translation) (t : Translation) → AllByRecursion (Stands s c) cached → Stands s c t
      → AllByRecursion (Stands s c) (caching cached t)
  longer cached t old new = by_room (nat_lt (length cached) 64)
    where
      by_room : (b : Bool) → AllByRecursion (Stands s c) (if b then cached ++ t ∷ [] else cached)
      by_room true = all_more (Stands s c) cached t old new
      by_room false = old

  module _ (all : AllStand s s.core) where
    own_list : AllByRecursion (Stands s c) (s.core c).cached
    own_list = all c (h.sound.inside c h.is).1

    edit_caches : (e : Edit) → Tested c s e → Caches s c (is_flush e) (edited c s e).core
    edit_caches (Cache t) tested = record {
      stand = core_stand s s.core c _ (longer (s.core c).cached t own_list
          (subst (Stands s c) (sym tested.2) (touched t.page tested.0 tested.1))) all;
      flushed = λ is. absurd (false≢true is);
    }
    edit_caches Flush tested = record {
      stand = core_stand s s.core c (record (s.core c) { cached = [] }) tt all;
      flushed = λ is. ap (λ (k : Core). k.cached) (put_same s.core c (record (s.core c) { cached = [] }) c refl);
    }
    edit_caches (Switch g q) tested = record {
      stand = core_stand s s.core c (record (s.core c) { thread = g; tcap = q }) own_list all;
      flushed = λ is. absurd (false≢true is);
    }
    edit_caches (Charge n) tested = record {
      stand = core_stand s s.core c (record (s.core c) { spent = _; owed = _ }) own_list all;
      flushed = λ is. absurd (false≢true is);
    }
    edit_caches (Give f m) tested = record {
      stand = core_stand s s.core c (record (s.core c) { back = _ }) own_list all;
      flushed = λ is. absurd (false≢true is);
    }
    edit_caches _ tested = record { stand = all; flushed = λ is. absurd (false≢true is) }

    edits_cache : (es : List Edit) → Calm c s es → Each Tested c s es → Caches s c (flush_in es) (after_edits c s es).core
    edits_cache [] calm tested = record { stand = all; flushed = λ is. absurd (false≢true is) }
    edits_cache (e ∷ es) calm tested =
        subst (Caches s c (flush_in (e ∷ es))) (sym (later_core c (edited c s e) es calm.2))
        (subst (λ b. Caches s c b (edited c s e).core) (sym (first (is_flush e) es calm.2)) (edit_caches e tested.0))
      where
        first : (b : Bool) (es : List Edit) → AreLater es → (b || flush_in es) ≡ b
        first true es l = refl
        first false [] l = refl
        first false (Fill at k ∷ es) l = first false es l
        first false (Merge f qs ∷ es) l = first false es l
        first false (_ ∷ es) l = absurd l

-- The lists after a decision, of which all stand as they did before it; the flushing core has none.
abbrev Lists : State → State → ℕ → Bool → Type 0
Lists s t c flushes = Caches s c flushes t.core

-- A core keeps its list.
same_lists : (s t : State) (c : ℕ) (b : Bool) (k : Core) → c < s.limits.cores → k.cached ≡ (t.core c).cached → Lists s t c b
    → Lists s (with_core t c k) c b
same_lists s t c b k below same l = record {
  stand = core_stand s t.core c k (subst (AllByRecursion (Stands s c)) (sym same) (l.stand c below)) l.stand;
  flushed = λ is. ap (λ (x : Core). x.cached) (put_same t.core c k c refl) ∙ same ∙ l.flushed is;
}

none_flushed : (s : State) (c : ℕ) → AllStand s s.core → Lists s s c false
none_flushed s c all = record { stand = all; flushed = λ is. absurd (false≢true is) }

owed_lists : (s : State) (c : ℕ) (call : Call) → c < s.limits.cores → AllStand s s.core → Lists s (owed_by s c call) c false
owed_lists s c (Tick n) below all = same_lists s s c false _ below refl (none_flushed s c all)
owed_lists s c _ below all = none_flushed s c all

decided_lists : (s : State) (o : ℕ → Bool) (c : ℕ) (call : Call) (r : Reply) → IsOpen s o c → MayReply s c call r → IsFitted s o
    → IsWaited s o → AllStand s s.core
    → Lists s (state_by s c call r) c (flushes call r)
decided_lists s o c call (Reply.Ok v) h may w u all =
    same_lists s (changed s (change_of s c call)) c (flushes_by call) _ (h.sound.inside c h.is).1 refl
    (after_ok s c call v (λ t. Lists s t c (flushes_by call)) may (λ es e.
    subst (λ b. Caches s c b (after_edits c s es).core) (sym e.agrees.1) (edits_cache s o c h w u all es e.calm e.tested)))
decided_lists s o c call Reply.CallsSpent h may w u all = none_flushed s c all
decided_lists s o c call Reply.Raced h may w u all =
    same_lists s (owed_by s c call) c false _ (h.sound.inside c h.is).1 refl (owed_lists s c call (h.sound.inside c h.is).1 all)
decided_lists s o c call (Reply.Busy e) h may w u all =
    same_lists s (owed_by s c call) c false _ (h.sound.inside c h.is).1 refl (owed_lists s c call (h.sound.inside c h.is).1 all)
decided_lists s o c call _ h may w u all = same_lists s s c false _ (h.sound.inside c h.is).1 refl (none_flushed s c all)

decided_stand : (s : State) (o : ℕ → Bool) (c : ℕ) (call : Call) (r : Reply) → IsOpen s o c → InLimits call → MayReply s c call r
    → IsFitted s o → IsWaited s o → AllStand s s.core
    → AllStand (state_by s c call r) (state_by s c call r).core
decided_stand s o c call r h lim may w u all d below =
    by_flush (flushes call r) refl (cases_eq d c)
  where
    t : State
    t = state_by s c call r

    lists : Lists s (state_by s c call r) c (flushes call r)
    lists = decided_lists s o c call r h may w u all

    less : d < s.limits.cores
    less = subst (λ l. d < l.cores) (decided_stays s c call r).limits below

    moves : (flushes call r ≡ true → d ≢ c) → AllByRecursion (Stands (state_by s c call r) d) ((state_by s c call r).core d).cached
    moves other = all_map (Stands s d) (Stands (state_by s c call r) d) ((state_by s c call r).core d).cached
        (λ t. stands_stays s o c call r h lim may d t less other) (lists.stand d less)

    by_flush : (b : Bool) → flushes call r ≡ b → (d ≡ c) ⊎ (d ≢ c)
        → AllByRecursion (Stands (state_by s c call r) d) ((state_by s c call r).core d).cached
    by_flush false is same = moves (λ flush. absurd (false≢true (sym is ∙ flush)))
    by_flush true is (inr other) = moves (λ flush. other)
    by_flush true is (inl same) =
        subst (AllByRecursion (Stands (state_by s c call r) d))
        (sym (ap (λ n. ((state_by s c call r).core n).cached) same ∙ lists.flushed is)) tt

-- Entries and returns.

-- A state with the same frames and places, references, and who has to flush.
same_stands : (s u : State) (d : ℕ) (t : Translation) → ((f : ℕ) → u.frame f ≡ s.frame f) → ((f i : ℕ) → u.place f i ≡ s.place f i)
    → ((f : ℕ) → refs u f ≡ refs s f)
    → ((x : Thing) → (u.grace x).unflushed d ≡ (s.grace x).unflushed d) → Stands s d t → Stands u d t
same_stands s u d t frame place count grace a = record {
  leaf = a.leaf;
  page_small = a.page_small;
  root = frame t.pages ∙ a.root;
  root_there = there t.pages a.root_there;
  through = frame a.leaf ∙ a.through;
  leaf_there = there a.leaf a.leaf_there;
  user = frame t.frame ∙ a.user;
  frame_there = there t.frame a.frame_there;
  entry = or_was (IsLinkTo a.leaf) t.pages (t.page / 64) a.entry;
  mapping = or_was (IsMappingOf t) a.leaf (t.page % 64) a.mapping;
}
  where
    there : (f : ℕ) → IsStillThere s d f → IsStillThere u d f
    there f (inl some) = inl (let e = count f in omega (arith, some, e))
    there f (inr un) = inr (grace (FrameOf f) ∙ un)

    or_was : (P : Place → Type 0) (f i : ℕ) → IsOrWas s d P f i → IsOrWas u d P f i
    or_was P f i (inl p) = inl (subst P (sym (place f i)) p)
    or_was P f i (inr un) = inr (grace (PlaceOf f i) ∙ un)

moved_stand : (s u : State) (c : ℕ) (k : Core) → u.limits ≡ s.limits → u.core ≡ put s.core c k → k.cached ≡ (s.core c).cached
    → ((d : ℕ) (t : Translation) → Stands s d t → Stands u d t) → AllStand s s.core → AllStand u u.core
moved_stand s u c k limits core same stands all d below =
    let less : d < s.limits.cores = subst (λ l. d < l.cores) limits below in
    let list : (u.core d).cached ≡ (s.core d).cached = ap (λ (f : ℕ → Core). (f d).cached) core
    ∙ put_all (λ d x. x.cached ≡ (s.core d).cached) s.core c k d (λ at. same ∙ ap (λ n. (s.core n).cached) (sym at)) (λ other. refl) in
    subst (AllByRecursion (Stands u d)) (sym list) (all_map (Stands s d) (Stands u d) (s.core d).cached (stands d) (all d less))

entered_stand : (s : State) (c : ℕ) → AllStand s s.core → AllStand (entered s c) (entered s c).core
entered_stand s c all = moved_stand s (entered s c) c (record (s.core c) { inside = true }) refl refl refl
    (λ d t. same_stands s (entered s c) d t (λ f. refl) (λ f i. refl) (core_same_refs s c _ refl refl) (λ x. refl)) all

returned_stand : (s : State) (c : ℕ) → AllStand s s.core → AllStand (returned s c) (returned s c).core
returned_stand s c all = moved_stand s (returned s c) c (record (s.core c) { inside = false }) refl refl refl
    (λ d t. same_stands s (returned s c) d t (λ f. refl) (λ f i. refl)
    (λ f. grace_refs (with_core s c (record (s.core c) { inside = false })) (returned s c).grace f
    ∙ core_same_refs s c (record (s.core c) { inside = false }) refl refl f) (λ x. refl)) all

enter_waited : (setting : Setting) (events : List Event) (c : ℕ) (call : Call) → IsRun setting (Enters c call ∷ events)
    → IsWaited (after setting events) (opened events)
    → IsWaited (after setting (Enters c call ∷ events)) (opened (Enters c call ∷ events))
enter_waited setting events c call run old = record {
  unflushed = λ x d q wait need. elim (cases_eq d c) [
    | inl same ↦ absurd (false≢true (sym (inside_is setting events run.0 c ∙ ap is_in run.1.is_out)
        ∙ waits_inside setting events x c (subst (λ d. IsTrue (((after setting events).grace x).waits d)) same wait)))
    | inr other ↦ old.unflushed x d (sym (ap is_open (phase_other (Enters c call) events d other)) ∙ q) wait (need_of x need)
  ];
  bare = old.bare;
}
  where
    need_of : (x : Thing) → IsTrue (needs_flush (after setting (Enters c call ∷ events)) x) → IsTrue (needs_flush (after setting events) x)
    need_of (PlaceOf f i) n = n
    need_of _ n = n

return_waited : (setting : Setting) (events : List Event) (c : ℕ) → IsWaited (after setting events) (opened events)
    → IsWaited (after setting (Returns c ∷ events)) (opened (Returns c ∷ events))
return_waited setting events c old = record {
  unflushed = λ x d q wait need. elim (cases_eq d c) [
    | inl same ↦ absurd (false≢true (sym (ap is_open (phase_own (Returns c) events d same)) ∙ q))
    | inr other ↦ old.unflushed x d (sym (ap is_open (phase_other (Returns c) events d other)) ∙ q)
        (sym (put_other ((after setting events).grace x).waits c false d other) ∙ wait) (need_of x need)
  ];
  bare = λ f d none. put_all (λ d b. b ≡ false) ((after setting events).grace (FrameOf f)).waits
      c false d (λ same. refl) (λ other. old.bare f d none);
}
  where
    need_of : (x : Thing) → IsTrue (needs_flush (after setting (Returns c ∷ events)) x) → IsTrue (needs_flush (after setting events) x)
    need_of (PlaceOf f i) n = n
    need_of _ n = n

fewer : (s : State) (o o' : ℕ → Bool) → ((c : ℕ) → o' c ≡ true → o c ≡ true) → IsWaited s o → IsWaited s o'
fewer s o o' less h = record { unflushed = λ x d q. h.unflushed x d (less d q); bare = h.bare }

pub runs_waited : (setting : Setting) → IsSetting setting → (events : List Event) → IsRun setting events
    → IsWaited (after setting events) (opened events)
runs_waited setting lim [] run = record { unflushed = λ x d q wait. absurd (false≢true wait); bare = λ f d none. refl }
runs_waited setting lim (Enters c call ∷ events) run = enter_waited setting events c call run (runs_waited setting lim events run.0)
runs_waited setting lim (Returns c ∷ events) run = return_waited setting events c (runs_waited setting lim events run.0)
runs_waited setting lim (Decides c call r ∷ events) run =
    fewer (after setting (Decides c call r ∷ events)) (put (opened events) c false) (opened (Decides c call r ∷ events))
    (decided_opened events c call r)
    (decided_waited (after setting events) (opened events) c call r (open_is setting lim events c run.0 (ap is_open run.1.is_open))
    (open_limits setting events c call run.0 run.1.is_open) run.1.permitted (runs_waited setting lim events run.0))

runs_stand : (setting : Setting) → IsSetting setting → (events : List Event) → IsRun setting events
    → AllStand (after setting events) (after setting events).core
runs_stand setting lim [] run = λ d below. tt
runs_stand setting lim (Enters c call ∷ events) run = entered_stand (after setting events) c (runs_stand setting lim events run.0)
runs_stand setting lim (Returns c ∷ events) run = returned_stand (after setting events) c (runs_stand setting lim events run.0)
runs_stand setting lim (Decides c call r ∷ events) run =
    decided_stand (after setting events) (opened events) c call r (open_is setting lim events c run.0 (ap is_open run.1.is_open))
    (open_limits setting events c call run.0 run.1.is_open) run.1.permitted
    (runs_fit setting lim events run.0) (runs_waited setting lim events run.0)
    (runs_stand setting lim events run.0)

pub translations_stand : TranslationsStand
translations_stand setting lim events run c below =
    runs_stand setting lim events run c (subst (λ l. c < l.cores) (sym (limits_stay setting events)) below)
