-- A place that a call may fill is vacant for it: it is free, or no other core waits in its grace period, and none is to flush it.
use Rattle.count_invariant.specs.step_ways.proofs as low
use low.{to_use, ◌≡◌, ◌≢◌, ℕ, zero, suc, cond, ◌+◌, ◌<◌, ◌≤◌, ◌==◌, ◌&&◌, not, inl, inr, Bool, true, false, [], Option, Some, None, IsTrue}
use low.{arith, refl, sym, ◌∙◌, ap, subst, false≢true, eqb-false, Setting, IsSetting, Capability, Call, Entry, Place, Free, Holds}
use low.{Quiescing, Table, Leaf, Pages, Pleaf, Frame, Kernel, Thing, PlaceOf, State, Slot, found, Under, only, reached, fits, place_names}
use low.{Found, named, first_of, not_vacant, named_fit, opened, events_of, IsLegal, is_node, stamp, Trace, Open, phase, state_after}
use low.{state_is, run_of, sound_of, opened_is, PlaceIs, HasFlushed, MayFill, Kind}
use Rattle.count_invariant.specs.kernel_laws.proofs.{is_paging, lowest, unflushed_by, waits_of, find, flushes_of, IsOpen, IsFitted}
use Rattle.count_invariant.specs.boot_words.specs.kernel_rules.specs.{other_waiting, quiescing_by}
use Rattle.count_invariant.specs.trace_laws.proofs.{cases_bool, awaits_are}
use Rattle.{count_invariant.specs.kernel_laws.proofs.runs_fit, count_invariant.specs.core_invariant.specs.Reaching.IsScanned}
use Rattle.{std.specs.List.range_with_len, count_invariant.specs.kernel_laws.specs.Nodes.leads_to}
use Rattle.{count_invariant.specs.kernel_laws.proofs.NodesLaw.leaf_fits, count_invariant.specs.kernel_history.specs.Graces.GraceIs}

-- The slot that core c reaches under a table of capabilities is in a leaf of capabilities.
table_leaf : (x : Frame) → IsTrue (fits Kind.Table x) → (y : Frame) → IsTrue (leads_to x y) → y ≡ Kernel Leaf
table_leaf (Kernel Table) fit (Kernel Leaf) leads = refl
table_leaf (Kernel Table) fit _ leads = absurd (false≢true leads)
table_leaf _ fit y leads = absurd (false≢true fit)

table_node : (x : Frame) → IsTrue (fits Kind.Table x) → IsTrue (is_node x)
table_node (Kernel Table) fit = refl
table_node _ fit = absurd (false≢true fit)

pub in_leaf : (setup : Setting) → IsSetting setup → (t : Trace) → IsLegal setup t → (c : ℕ) (call : Call) → phase t c ≡ Open call
    → (n b : ℕ) (table : Capability) (at : Slot)
    → named (state_after setup t) c n (to_use (only Kind.Table)) ≡ Found table
    → reached (state_after setup t) c (Under (found table) b) ≡ Some at
    → (state_after setup t).frame at.node ≡ Kernel Leaf
in_leaf setup setting t legal c call is n b table at names reaches =
    table_leaf (s.frame table.frame) fit (s.frame at.node) (leaf_fits s o c is_open fitted (found table) b at
    (table_node (s.frame table.frame) fit) reaches)
  where
    s : State
    s = state_after setup t

    o : ℕ → Bool
    o = opened (events_of t)

    is_open : IsOpen s o c
    is_open = record { sound = sound_of setup setting t legal; is = opened_is t c call is }

    fitted : IsFitted s o
    fitted = subst (λ x. IsFitted x o) (sym (state_is setup t)) (runs_fit setup setting (events_of t) (run_of setup t legal))

    fit : IsTrue (fits Kind.Table (s.frame table.frame))
    fit = named_fit s o c n Kind.Table table is_open.sound is_open.is names

-- And under the root of a page table it is in a leaf of one.
pages_leaf : (x : Frame) → IsTrue (fits Kind.Pages x) → (y : Frame) → IsTrue (leads_to x y) → y ≡ Kernel Pleaf
pages_leaf (Kernel Pages) fit (Kernel Pleaf) leads = refl
pages_leaf (Kernel Pages) fit _ leads = absurd (false≢true leads)
pages_leaf _ fit y leads = absurd (false≢true fit)

pages_node : (x : Frame) → IsTrue (fits Kind.Pages x) → IsTrue (is_node x)
pages_node (Kernel Pages) fit = refl
pages_node _ fit = absurd (false≢true fit)

pub in_pleaf : (setup : Setting) → IsSetting setup → (t : Trace) → IsLegal setup t → (c : ℕ) (call : Call) → phase t c ≡ Open call
    → (n b : ℕ) (pages : Capability) (at : Slot)
    → named (state_after setup t) c n (to_use (only Kind.Pages)) ≡ Found pages
    → reached (state_after setup t) c (Under (found pages) b) ≡ Some at
    → (state_after setup t).frame at.node ≡ Kernel Pleaf
in_pleaf setup setting t legal c call is n b pages at names reaches =
    pages_leaf (s.frame pages.frame) fit (s.frame at.node) (leaf_fits s o c is_open fitted (found pages) b at
    (pages_node (s.frame pages.frame) fit) reaches)
  where
    s : State
    s = state_after setup t

    o : ℕ → Bool
    o = opened (events_of t)

    is_open : IsOpen s o c
    is_open = record { sound = sound_of setup setting t legal; is = opened_is t c call is }

    fitted : IsFitted s o
    fitted = subst (λ x. IsFitted x o) (sym (state_is setup t)) (runs_fit setup setting (events_of t) (run_of setup t legal))

    fit : IsTrue (fits Kind.Pages (s.frame pages.frame))
    fit = named_fit s o c n Kind.Pages pages is_open.sound is_open.is names

-- What is found in a range of numbers passes the test, and is below the range's end.
find_in : (p : ℕ → Bool) (a n e : ℕ) → find p (range_with_len a n) ≡ Some e → (p e ≡ true) × (e < a + n)
find_in p a zero e h = absurd (cc)
find_in p a (suc n) e h = tested (find_in p (a + 1) n e) (p a) refl h
  where
    some_inj : Some a ≡ Some e → a ≡ e
    some_inj q = cc

    later : (p e ≡ true) × (e < (a + 1) + n) → (p e ≡ true) × (e < a + suc n)
    later r = (r.0, (let q = r.1 in omega (arith, q)))

    tested : (find p (range_with_len (a + 1) n) ≡ Some e → (p e ≡ true) × (e < (a + 1) + n))
        → (t : Bool) → p a ≡ t → cond t (Some a) (find p (range_with_len (a + 1) n)) ≡ Some e → (p e ≡ true) × (e < a + suc n)
    tested more true t q = (ap p (sym (some_inj q)) ∙ t, (let k = some_inj q in omega (arith, k)))
    tested more false t q = later (more q)

-- No other core waits, where each has passed; and none is unflushed where flushes are not awaited.
both : (a b : Bool) → (a && b) ≡ true → (a ≡ true) × (b ≡ true)
both true b h = (refl, h)
both false b h = absurd (false≢true h)

differs : (d c : ℕ) (b : Bool) → (d == c) ≡ b → not b ≡ true → d ≢ c
differs d c false is h = eqb-false d c is
differs d c true is h = absurd (false≢true h)

pub none_waits : (s : State) (c : ℕ) (x : Thing) → ((d : ℕ) → d < s.limits.cores → d ≢ c → (s.grace x).waits d ≡ false)
    → waits_of s c x ≡ None
none_waits s c x passed = by (other_waiting s c x) refl
  where
    by : (o : Option ℕ) → other_waiting s c x ≡ o → quiescing_by o ≡ None
    by None is = refl
    by (Some e) is =
        let at = find_in (λ e. (s.grace x).waits e && not (e == c)) 0 s.limits.cores e is in
        let p = both ((s.grace x).waits e) (not (e == c)) at.0 in
        absurd (false≢true (sym (passed e (let q = at.1 in omega (arith, q)) (differs e c (e == c) refl p.1)) ∙ p.0))

pub none_unflushed : (s : State) (x : Thing) → ((d : ℕ) → d < s.limits.cores → (s.grace x).unflushed d ≡ false) → flushes_of s x ≡ None
none_unflushed s x flushed = by (lowest s (s.grace x).unflushed) refl
  where
    by : (o : Option ℕ) → lowest s (s.grace x).unflushed ≡ o → unflushed_by o ≡ None
    by None is = refl
    by (Some e) is =
        let at = find_in (s.grace x).unflushed 0 s.limits.cores e is in
        absurd (false≢true (sym (flushed e (let q = at.1 in omega (arith, q))) ∙ at.0))

-- A place of a node that is none of a page table waits for no flush.
pub unpaged_flushed : (setup : Setting) → IsSetting setup → (t : Trace) → IsLegal setup t → ((x : Thing) → GraceIs setup t x)
    → (node index x : ℕ) → IsTrue (is_node ((state_after setup t).frame node)) → is_paging ((state_after setup t).frame node) ≡ false
    → 1 ≤ x → (d : ℕ) → HasFlushed setup t (PlaceOf node index) x d
unpaged_flushed setup setting t legal graces node index x in_node unpaged some d same =
    elim (cases_bool (((state_after setup t).grace (PlaceOf node index)).unflushed d)) [
      | inl is ↦ absurd (false≢true (sym unpaged ∙ sym ((awaits_are setup setting t legal node).place index in_node (omega arith))
          ∙ ((graces (PlaceOf node index)).flushes d).awaited is))
      | inr none ↦ none
    ]

-- A place that holds nothing and may be filled.
pub record IsVacant (s : State) (c node index : ℕ) : Type 0 where
  pub vacant : not_vacant s c (PlaceOf node index) (s.place node index) ≡ None
  pub names : place_names (s.place node index) ≡ []

stamp_same : (x y : ℕ) → Some (Entry.Quiescing x) ≡ Some (Entry.Quiescing y) → x ≡ y
stamp_same x y h = cc

-- What the word of a place shows that is quiescing.
pub record IsRemovedSince (p : Place) (r x : ℕ) : Type 0 where
  pub cap : Capability
  pub place : p ≡ Quiescing cap
  pub since : r ≡ x

pub removed_is : (n : ℕ) (p : Place) (r x : ℕ) → PlaceIs n p r (Some (Entry.Quiescing x)) → IsRemovedSince p r x
removed_is n Free r x is = absurd (not_free is)
  where
    not_free : Some (Entry.Quiescing x) ≡ Some Entry.Free → ⊥
    not_free h = cc
removed_is n (Holds k) r x is = absurd (not_held is.0)
  where
    not_held : Some (Entry.Quiescing x) ≡ Some (Entry.Held k) → ⊥
    not_held h = cc
removed_is n (Quiescing k) r x is = record { cap = k; place = refl; since = sym (stamp_same x r is.says) }

module _ (setup : Setting) (t : Trace) (c node index : ℕ) (cores : (state_after setup t).limits.cores ≡ setup.cores) where
  abbrev s : State
  s = state_after setup t

  abbrev thing : Thing
  thing = PlaceOf node index

  free_is : (n : ℕ) (p : Place) (r : ℕ) → PlaceIs n p r (Some Entry.Free) → p ≡ Free
  free_is n Free r is = refl
  free_is n (Holds k) r is = absurd (not_free k is.0)
    where
      not_free : (k : Capability) → Some Entry.Free ≡ Some (Entry.Held k) → ⊥
      not_free k h = cc
  free_is n (Quiescing k) r is = absurd (not_free r is.says)
    where
      not_free : (r : ℕ) → Some Entry.Free ≡ Some (Entry.Quiescing r) → ⊥
      not_free r h = cc

  scanned_vacant : (x : ℕ) → IsRemovedSince (s.place node index) (stamp setup t thing) x → IsScanned setup t c thing x setup.cores
      → IsVacant s c node index
  scanned_vacant x removed scanned = record {
    vacant = ap (not_vacant s c thing) removed.place
        ∙ ap (λ o. first_of o (flushes_of s thing)) (none_waits s c thing
        (λ d below other. scanned.passed d (subst (λ (n : ℕ). d < n) cores below) other removed.since))
        ∙ none_unflushed s thing (λ d below. scanned.flushed d (subst (λ (n : ℕ). d < n) cores below) removed.since);
    names = ap place_names removed.place;
  }

  pub vacant_by : (n : ℕ) (o : Option Entry) → PlaceIs n (s.place node index) (stamp setup t thing) o
      → MayFill setup t c thing setup.cores o → IsVacant s c node index
  vacant_by n None is may = absurd may
  vacant_by n (Some Entry.Free) is may =
      let free = free_is n (s.place node index) (stamp setup t thing) is in record
      { vacant = ap (not_vacant s c thing) free; names = ap place_names free }
  vacant_by n (Some (Entry.Held k)) is may = absurd may
  vacant_by n (Some (Entry.Closing by)) is may = absurd may
  vacant_by n (Some (Entry.Quiescing x)) is may = scanned_vacant x (removed_is n (s.place node index) (stamp setup t thing) x is) may
