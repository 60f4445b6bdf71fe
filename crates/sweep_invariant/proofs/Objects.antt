-- Whether the object in a frame that is made untyped is empty: by one word of it after another.
use Rattle.freeze_invariant.specs.step_ways.proofs as low
use low.{◌≡◌, inl, inr, ℕ, zero, suc, ◌+◌, ◌<◌, ◌≤◌, ◌==◌, ltb as nat_lt, leb as nat_le, length, Bool, true, false, List, [], ◌∷◌, Option}
use low.{Some, None, IsTrue, arith, refl, sym, ◌∙◌, ap, subst, false≢true, eqb-true, eqb-false, lt-ltb, leb-true, Capability, Setting}
use low.{IsSetting, Obj, Kind, Reply, Entry, CountWord, FrameWord, head_of_word, stack_of_word, thread_of_word, EntryAt, Blank, Table, Leaf}
use low.{Pages, Pleaf, Comp, Thread, Tcap, CompFields, ThreadFields, TcapFields, Frame, Untyped, User, Kernel, Holds, PlaceOf, State}
use low.{held_in, fits, is_empty, frame_names, IsSound, IsObjectGood, opened, events_of, frame_value, thread_value, at_height, stamp, Trace}
use low.{state_after, last_left, sound_of, shown_in, loads_of, Owned, Empty, Act, ActiveCall, Undecided, Core, KnowsUndecided, Invariant}
use low.{IsLookedAt, names_of, HeadIs, IsFrameWord, PlaceIs, limits_of, entry_of_word, if◌then◌else◌, Untype as untype_act}
use Rattle.freeze_invariant.specs.stage_sweep.specs.Emptiness.{field_refuses, head_refuses, owned_after, owns, frame_if, stack_owned}
use Rattle.freeze_invariant.specs.stage_sweep.specs.Emptiness.{stack_refuses, thread_refuses, depth_refuses}
use Rattle.freeze_invariant.specs.core_invariant.specs.Sweeps.{HoldsNone, NamesBottom, NamesFields}
use Rattle.freeze_invariant.specs.count_invariant.proofs.Lookups.{IsShown, Shows, shown_of}
use Rattle.sweep_invariant.proofs.ObjectLoads.{Result, entry_below, goes_on, holds_some, looked_so_far, object_frame, object_says}
use Rattle.{std.proofs.lemmas.Bool.cases_eq, std.proofs.lemmas.Bool.cases_lt, freeze_invariant.specs.act_states.specs.OwnedBy}
use Rattle.{freeze_invariant.specs.act_states.specs.holds_nothing, freeze_invariant.specs.stage_sweep.specs.empty_refuses}
use Rattle.{freeze_invariant.specs.stage_sweep.specs.entry_refuses, freeze_invariant.proofs.sweeping, freeze_invariant.proofs.untyping_by}
use Rattle.{freeze_invariant.specs.kernel_invariant.proofs.Sound.IsStack}
use Rattle.{freeze_invariant.specs.kernel_invariant.proofs.SoundCalls.nothing_held, sweep_invariant.proofs.ObjectLoads.owned_fits}

-- A frame that fits a kind is one of the machine.
section_below : (s : State) (o : ℕ → Bool) → IsSound s o → (k : Kind) → fits k Untyped ≡ false → (f : ℕ) → IsTrue (fits k (s.frame f))
    → f < s.limits.frames
section_below s o h k none f fit = elim (cases_lt f s.limits.frames) [
  | inl below ↦ below
  | inr past ↦ absurd (false≢true (sym none ∙ sym (ap (fits k) (h.beyond f past)) ∙ fit))
]

module _ (setup : Setting) (setting : IsSetting setup) (cores : ℕ → Core) (t : Trace) (stands : Invariant setup cores t) (c : ℕ)
    (here : c < setup.cores)
    (a : ActiveCall) (active : (cores c).active ≡ Some a) (f core word g : ℕ) (v : FrameWord) (b : ℕ) (kept : List CountWord) (o : Owned)
    (i : ℕ)
    (stage_is : a.stage ≡ Undecided (Act (untype_act (untyping_by f core word (sweeping g v b kept o (Empty i))))))
    (has : KnowsUndecided setup t c (cores c).own.table a (Act (untype_act (untyping_by f core word (sweeping g v b kept o (Empty i))))))
  where
    abbrev s : State
    s = state_after setup t

    abbrev n : ℕ
    n = setup.frames

    abbrev was : ℕ
    was = last_left setup t (EntryAt g i)

    abbrev Good : Owned → Option Reply → Type 0
    Good owned r = Result setup setting cores t stands c here a active f core word g v b kept o i stage_is has owned r

    -- by what the object is
    abbrev Judged : Obj → Type 0
    Judged object = Good (owned_after n object i was o) (empty_refuses n object i was)

    sound : IsSound s (opened (events_of t))
    sound = sound_of setup setting t stands.legal

    full : (owned : Owned) → is_empty s f (s.frame f) ≡ false → Good owned (Some Reply.NotEmpty)
    full owned = holds_some setup setting cores t stands c here a active f core word g v b kept o i stage_is has owned

    on : (owned : Owned) → IsLookedAt s f (s.frame f) (i + 1) owned
        → (loads_of v.object ≤ i + 1 → names_of owned.first owned.second ≡ frame_names (s.frame f)) → Good owned None
    on owned = goes_on setup setting cores t stands c here a active f core word g v b kept o i stage_is has owned

    shown : v ≡ frame_value (s.frame f)
    shown = object_frame setup setting cores t stands c here a active f core word g v b kept o i stage_is has

    below : i < loads_of v.object
    below = entry_below setup setting cores t stands c here a active f core word g v b kept o i stage_is has

    owned_are : OwnedBy v.object o
    owned_are = owned_fits setup setting cores t stands c here a active f core word g v b kept o i stage_is has

    looked : IsLookedAt s f (s.frame f) i o
    looked = looked_so_far setup setting cores t stands c here a active f core word g v b kept o i stage_is has

    says : IsFrameWord n (s.frame f) (s.place f i) (stamp setup t (PlaceOf f i)) i was
    says = object_says setup setting cores t stands c here a active f core word g v b kept o i stage_is has

    field_below : (k : Kind) → fits k Untyped ≡ false → (d : ℕ) → IsTrue (fits k (s.frame d)) → nat_lt d n ≡ true
    field_below k none d fit = lt-ltb d n (subst (λ (m : ℕ). d < m) (ap (λ l. l.frames) (limits_of setup t))
        (section_below s (opened (events_of t)) sound k none d fit))

    -- A node: the entry holds nothing.
    module _ (small : i < 64) (empty_is : is_empty s f (s.frame f) ≡ holds_nothing s f)
        (look : HoldsNone s f (i + 1) → IsLookedAt s f (s.frame f) (i + 1) o) (before : HoldsNone s f i)
        (names : names_of o.first o.second ≡ frame_names (s.frame f))
        (place : PlaceIs n (s.place f i) (stamp setup t (PlaceOf f i)) (entry_of_word was)) where
      shows : IsShown n (s.place f i) was
      shows = shown_of n (s.place f i) (stamp setup t (PlaceOf f i)) was place

      none_here : held_in (s.place f i) ≡ None → Good o None
      none_here none = on o (look (λ j under. elim (cases_eq j i) [
        | inl same ↦ ap (λ (x : ℕ). held_in (s.place f x)) same ∙ none
        | inr apart ↦ before j (omega (arith, under, apart))
      ])) (λ last. names)

      held : (k : Capability) → s.place f i ≡ Holds k → Good o (Some Reply.NotEmpty)
      held k is = full o (empty_is ∙ by (holds_nothing s f) refl)
        where
          by : (x : Bool) → holds_nothing s f ≡ x → x ≡ false
          by false at = refl
          by true at = absurd (nothing_held s f i k at small is)

      node_good : Good o (entry_refuses (shown_in n was))
      node_good = subst (λ x. Good o (entry_refuses x)) (sym shows.shown) (by shows.value shows.shows)
        where
          by : (x : Entry) → Shows n (s.place f i) x → Good o (entry_refuses (Some x))
          by Entry.Free is = none_here (ap held_in is)
          by (Entry.Held k) is = held k is.holds
          by (Entry.Closing d) is = absurd is
          by (Entry.Quiescing x) is = none_here (ap held_in is.removed)

    object_is : (x : Frame) → s.frame f ≡ x → v.object ≡ (frame_value x).object
    object_is x at = ap (λ y. y.object) shown ∙ ap (λ y. (frame_value y).object) at

    -- A component: its table, and its pages.
    comp_good : (k : CompFields) → s.frame f ≡ Kernel (Comp k) → Judged Obj.Comp
    comp_good k at = by i refl
      where
        good : IsObjectGood s (Kernel (Comp k))
        good = subst (IsObjectGood s) at (sound.objects f)

        fields : NamesFields k.table k.pages i o
        fields = subst (λ x. IsLookedAt s f x i o) at looked

        look : (owned : Owned) → NamesFields k.table k.pages (i + 1) owned → IsLookedAt s f (s.frame f) (i + 1) owned
        look owned named = subst (λ x. IsLookedAt s f x (i + 1) owned) (sym at) named

        within : (d : ℕ) → was ≡ d → nat_lt d n ≡ true → Good (owns (i == 0) (Some d) o) None → Judged Obj.Comp
        within d is true_is good = subst (λ (x : ℕ). Good (owns (i == 0) (frame_if (nat_lt x n) x) o) (field_refuses (nat_lt x n))) (sym is)
            (subst (λ x. Good (owns (i == 0) (frame_if x d) o) (field_refuses x)) (sym true_is) good)

        by : (j : ℕ) → i ≡ j → Judged Obj.Comp
        by zero is = within k.table
            (subst (λ x. IsFrameWord n x (s.place f zero) (stamp setup t (PlaceOf f zero)) zero was) at
            (subst (λ (j : ℕ). IsFrameWord n (s.frame f) (s.place f j) (stamp setup t (PlaceOf f j)) j was) is says))
            (field_below Kind.Table refl k.table good.0)
            (subst (λ x. Good (owns x (Some k.table) o) None) (sym (ap (λ (j : ℕ). j == 0) is))
            (on (record { first = Some k.table; second = o.second })
            (look (record { first = Some k.table; second = o.second })
            (record { first = λ some. refl; second = λ two. absurd (omega (arith, two, is)) }))
            (λ last. absurd (let l : 2 ≤ i + 1 = subst (λ x. loads_of x ≤ i + 1) (object_is (Kernel (Comp k)) at) last in
            omega (arith, l, is)))))
        by (suc zero) is = within k.pages
            (subst (λ x. IsFrameWord n x (s.place f 1) (stamp setup t (PlaceOf f 1)) 1 was) at
            (subst (λ (j : ℕ). IsFrameWord n (s.frame f) (s.place f j) (stamp setup t (PlaceOf f j)) j was) is says))
            (field_below Kind.Pages refl k.pages good.1)
            (subst (λ x. Good (owns x (Some k.pages) o) None) (sym (ap (λ (j : ℕ). j == 0) is))
            (on (record { first = o.first; second = Some k.pages })
            (look (record { first = o.first; second = Some k.pages })
            (record { first = λ some. fields.first (omega (arith, is)); second = λ two. refl }))
            (λ last. ap (λ x. names_of x (Some k.pages)) (fields.first (omega (arith, is))) ∙ sym (ap frame_names at))))
        by (suc (suc j)) is =
            absurd (let l : i < 2 = subst (λ x. i < loads_of x) (object_is (Kernel (Comp k)) at) below in omega (arith, l, is))

    -- A thread: its depth, and the bottom of its stack.
    thread_good : (k : ThreadFields) → s.frame f ≡ Kernel (Thread k) → Judged Obj.Thread
    thread_good k at = by i refl
      where
        good : IsStack s k.stack
        good = subst (IsObjectGood s) at (sound.objects f)

        before : NamesBottom k.stack i o
        before = subst (λ x. IsLookedAt s f x i o) at looked

        look : (owned : Owned) → NamesBottom k.stack (i + 1) owned → IsLookedAt s f (s.frame f) (i + 1) owned
        look owned named = subst (λ x. IsLookedAt s f x (i + 1) owned) (sym at) named

        word_at : (j : ℕ) → i ≡ j → IsFrameWord n (Kernel (Thread k)) (s.place f j) (stamp setup t (PlaceOf f j)) j was
        word_at j is = subst (λ x. IsFrameWord n x (s.place f j) (stamp setup t (PlaceOf f j)) j was) at
            (subst (λ (j : ℕ). IsFrameWord n (s.frame f) (s.place f j) (stamp setup t (PlaceOf f j)) j was) is says)

        some_depth : (fs : List ℕ) → IsStack s fs → 1 ≤ length fs
        some_depth [] is = absurd is
        some_depth (x ∷ fs) is = omega arith

        by_depth : (single : Bool) → (length k.stack == 1) ≡ single → i ≡ 0 → Good o (if single then None else Some Reply.NotEmpty)
        by_depth true one is = on o (look o (record {
          single = λ some. eqb-true (length k.stack) 1 one;
          bottom = 0;
          first = λ two. absurd (omega (arith, two, is));
          stack = λ two. absurd (omega (arith, two, is));
        })) (λ last. absurd (let l : 2 ≤ i + 1 = subst (λ x. loads_of x ≤ i + 1) (object_is (Kernel (Thread k)) at) last in
            omega (arith, l, is)))
        by_depth false more is = full o (ap (is_empty s f) at ∙ deep (nat_le (length k.stack) 1) refl)
          where
            deep : (x : Bool) → nat_le (length k.stack) 1 ≡ x → x ≡ false
            deep false le = refl
            deep true le =
                let most = leb-true (length k.stack) 1 le in
                let least = some_depth k.stack good in
                let apart = eqb-false (length k.stack) 1 more in
                absurd (apart (omega (arith, most, least)))

        by_runs : (r : Option ℕ) → thread_refuses (Some (thread_value r (length k.stack))) ≡ depth_refuses (length k.stack)
        by_runs None = refl
        by_runs (Some d) = refl

        bottom_of : (fs : List ℕ) → length fs ≡ 1 → IsStack s fs → (d : ℕ) × (fs ≡ d ∷ []) × IsTrue (fits Kind.Comp (s.frame d))
        bottom_of [] one is = absurd is
        bottom_of (d ∷ []) one is = (d, refl, is.0)
        bottom_of (d ∷ e ∷ fs) one is = absurd (omega (arith, one))

        first_word : i ≡ 0 → Judged Obj.Thread
        first_word is =
            subst (λ x. Good (if x then o else owns true (stack_owned n (stack_of_word was)) o)
            (if x then thread_refuses (thread_of_word was) else stack_refuses n (stack_of_word was))) (sym (ap (λ (j : ℕ). j == 0) is))
            (subst (Good o) (sym (ap thread_refuses (word_at 0 is) ∙ by_runs k.runs_on))
            (by_depth (length k.stack == 1) refl is))

        second_word : i ≡ 1 → Judged Obj.Thread
        second_word is =
            let found = bottom_of k.stack (before.single (omega (arith, is))) good in
            let d : ℕ = found.0 in
            let word_is : stack_of_word was ≡ Some (record { 0 = Some d }) =
            word_at 1 is (omega arith) ∙ ap (λ (fs : List ℕ). Some (record { 0 = at_height fs 0 })) found.1 in
            let owned : Owned = record { first = Some d; second = o.second } in
            subst (λ x. Good (if x then o else owns true (stack_owned n (stack_of_word was)) o)
            (if x then thread_refuses (thread_of_word was) else stack_refuses n (stack_of_word was))) (sym (ap (λ (j : ℕ). j == 0) is))
            (subst (λ x. Good (owns true (stack_owned n x) o) (stack_refuses n x)) (sym word_is)
            (subst (λ x. Good (owns true (frame_if x d) o) (field_refuses x)) (sym (field_below Kind.Comp refl d found.2))
            (on owned (look owned (record {
              single = λ some. before.single (omega (arith, is));
              bottom = d;
              first = λ two. refl;
              stack = λ two. found.1;
            }))
            (λ last. ap (names_of (Some d)) (subst (λ x. OwnedBy x o) (object_is (Kernel (Thread k)) at) owned_are)
            ∙ sym (ap frame_names at ∙ found.1)))))

        by : (j : ℕ) → i ≡ j → Judged Obj.Thread
        by zero is = first_word is
        by (suc zero) is = second_word is
        by (suc (suc j)) is =
            absurd (let l : i < 2 = subst (λ x. i < loads_of x) (object_is (Kernel (Thread k)) at) below in omega (arith, l, is))

    -- A temporal capability: its budget.
    tcap_good : (q : TcapFields) → s.frame f ≡ Kernel (Tcap q) → Judged Obj.Tcap
    tcap_good q at = subst (λ x. Good o (head_refuses x)) (sym head.says) (by (q.budget == 0) refl)
      where
        first : i ≡ 0
        first = let l : i < 1 = subst (λ x. i < loads_of x) (object_is (Kernel (Tcap q)) at) below in omega (arith, l)

        head : HeadIs q (head_of_word was)
        head = subst (λ x. IsFrameWord n x (s.place f 0) (stamp setup t (PlaceOf f 0)) 0 was) at
            (subst (λ (j : ℕ). IsFrameWord n (s.frame f) (s.place f j) (stamp setup t (PlaceOf f j)) j was) first says)

        none : (o.first ≡ None) × (o.second ≡ None)
        none = subst (λ x. OwnedBy x o) (object_is (Kernel (Tcap q)) at) owned_are

        by : (x : Bool) → (q.budget == 0) ≡ x → Good o (if x then None else Some Reply.NotEmpty)
        by true is = on o (subst (λ x. IsLookedAt s f x (i + 1) o) (sym at) (λ some. eqb-true q.budget 0 is))
            (λ last. ap (λ x. names_of x o.second) none.0 ∙ ap (names_of None) none.1 ∙ sym (ap frame_names at))
        by false is = full o (ap (is_empty s f) at ∙ is)

    -- A node of a table, or of a page table.
    none_named : (object : Obj) → v.object ≡ object → ((o : Owned) → OwnedBy object o → (o.first ≡ None) × (o.second ≡ None))
        → names_of o.first o.second ≡ []
    none_named object is none =
        let p = none o (subst (λ x. OwnedBy x o) is owned_are) in ap (λ x. names_of x o.second) p.0 ∙ ap (names_of None) p.1

    small_by : (object : Obj) → v.object ≡ object → loads_of object ≡ 64 → i < 64
    small_by object is loads = let l : i < loads_of object = subst (λ x. i < loads_of x) is below in omega (arith, l, loads)

    table_good : s.frame f ≡ Kernel Table → Judged Obj.Table
    table_good at =
        let is = object_is (Kernel Table) at in
        let small = small_by Obj.Table is refl in
        node_good small (ap (is_empty s f) at) (λ h. subst (λ x. IsLookedAt s f x (i + 1) o) (sym at) h)
        (subst (λ x. IsLookedAt s f x i o) at looked) (none_named Obj.Table is (λ x h. h) ∙ sym (ap frame_names at))
        (subst (λ x. IsFrameWord n x (s.place f i) (stamp setup t (PlaceOf f i)) i was) at says small)

    leaf_good : s.frame f ≡ Kernel Leaf → Judged Obj.Leaf
    leaf_good at =
        let is = object_is (Kernel Leaf) at in
        let small = small_by Obj.Leaf is refl in
        node_good small (ap (is_empty s f) at) (λ h. subst (λ x. IsLookedAt s f x (i + 1) o) (sym at) h)
        (subst (λ x. IsLookedAt s f x i o) at looked) (none_named Obj.Leaf is (λ x h. h) ∙ sym (ap frame_names at))
        (subst (λ x. IsFrameWord n x (s.place f i) (stamp setup t (PlaceOf f i)) i was) at says small)

    pages_good : s.frame f ≡ Kernel Pages → Judged Obj.Pages
    pages_good at =
        let is = object_is (Kernel Pages) at in
        let small = small_by Obj.Pages is refl in
        node_good small (ap (is_empty s f) at) (λ h. subst (λ x. IsLookedAt s f x (i + 1) o) (sym at) h)
        (subst (λ x. IsLookedAt s f x i o) at looked) (none_named Obj.Pages is (λ x h. h) ∙ sym (ap frame_names at))
        (subst (λ x. IsFrameWord n x (s.place f i) (stamp setup t (PlaceOf f i)) i was) at says small)

    pleaf_good : s.frame f ≡ Kernel Pleaf → Judged Obj.Pleaf
    pleaf_good at =
        let is = object_is (Kernel Pleaf) at in
        let small = small_by Obj.Pleaf is refl in
        node_good small (ap (is_empty s f) at) (λ h. subst (λ x. IsLookedAt s f x (i + 1) o) (sym at) h)
        (subst (λ x. IsLookedAt s f x i o) at looked) (none_named Obj.Pleaf is (λ x h. h) ∙ sym (ap frame_names at))
        (subst (λ x. IsFrameWord n x (s.place f i) (stamp setup t (PlaceOf f i)) i was) at says small)

    none_loaded : (x : Frame) → s.frame f ≡ x → loads_of (frame_value x).object ≡ 0 → Judged v.object
    none_loaded x at loads =
        absurd (let l : i < loads_of (frame_value x).object = subst (λ y. i < loads_of y) (object_is x at) below in omega (arith, l, loads))

    pub object_good : Judged v.object
    object_good = by (s.frame f) refl
      where
        by : (x : Frame) → s.frame f ≡ x → Judged v.object
        by Untyped at = none_loaded Untyped at refl
        by User at = none_loaded User at refl
        by (Kernel Blank) at = none_loaded (Kernel Blank) at refl
        by (Kernel Table) at = subst Judged (sym (object_is (Kernel Table) at)) (table_good at)
        by (Kernel Leaf) at = subst Judged (sym (object_is (Kernel Leaf) at)) (leaf_good at)
        by (Kernel Pages) at = subst Judged (sym (object_is (Kernel Pages) at)) (pages_good at)
        by (Kernel Pleaf) at = subst Judged (sym (object_is (Kernel Pleaf) at)) (pleaf_good at)
        by (Kernel (Comp k)) at = subst Judged (sym (object_is (Kernel (Comp k)) at)) (comp_good k at)
        by (Kernel (Thread k)) at = subst Judged (sym (object_is (Kernel (Thread k)) at)) (thread_good k at)
        by (Kernel (Tcap q)) at = subst Judged (sym (object_is (Kernel (Tcap q)) at)) (tcap_good q at)
