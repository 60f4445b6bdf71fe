-- The two steps of a touch: the load of the root entry of its page, which answers a translation that is cached, and the load of the page's
-- entry.
use Rattle.count_invariant.specs.step_ways.proofs.{◌≡◌, ◌≢◌, ◌⊎◌, inl, inr, ℕ, ◌+◌, ◌*◌, ◌/◌, ◌^◌, ◌<◌, ◌≤◌, ◌||◌, ◌++◌, ◌==◌}
use Rattle.count_invariant.specs.step_ways.proofs.{leb as nat_le, ltb as nat_lt, Bool, true, false, List, [], ◌∷◌, map, length, Option}
use Rattle.count_invariant.specs.step_ways.proofs.{Some, None, arith, refl, sym, ◌∙◌, ap, subst, if◌then◌else◌, IsSome, is_some}
use Rattle.count_invariant.specs.step_ways.proofs.{option_to_list, false≢true, eq-eqb, le-leb, le-ltb, Capability, Setting, IsSetting, Call}
use Rattle.count_invariant.specs.step_ways.proofs.{Reply, Translation, Entry, Held, EntryFits, Word, EntryAt, FrameAt, CountAt, CoreAt}
use Rattle.count_invariant.specs.step_ways.proofs.{FlushAt, LiveAt, ClockAt, Move, LoadOf, word_of, told_of, PlaceOf, NumberOf, State}
use Rattle.count_invariant.specs.step_ways.proofs.{Holds, put, thread_in, comp_in, first_of_stack, thread_of, comp_of, Slot, Target, Under}
use Rattle.count_invariant.specs.step_ways.proofs.{place_at, usable_in, usable, root_slot, reached, held_in, refs, Relies, Refused, Found}
use Rattle.count_invariant.specs.step_ways.proofs.{IsFoundAnd, outcome, RuleMay, rule_of, change_of, changed, counted, begins, ends}
use Rattle.count_invariant.specs.step_ways.proofs.{flushes, MayReply, opened, core_same_refs, sum_one, put_same, put_other, events_of}
use Rattle.count_invariant.specs.step_ways.proofs.{is_one_of, frames_own, footprint_frames, is_slot_in, HasReached, IsJustified, marked_by}
use Rattle.count_invariant.specs.step_ways.proofs.{ends_in, flushes_in, stamp, Step, Trace, Open, phase, state_after, state_decided_in}
use Rattle.count_invariant.specs.step_ways.proofs.{last_left, own_left, ways, wide_ways, ok_first, Carries, state_is, run_of}
use Rattle.count_invariant.specs.step_ways.proofs.{decided-inside, sound_of, opened_is, shown_in, look_move, Look, AtRoot, AtLeaf, AtEntry}
use Rattle.count_invariant.specs.step_ways.proofs.{Acquired, Own, Nothing, Act, WorkStep, Goes, own_changed, refuse, own_decided}
use Rattle.count_invariant.specs.step_ways.proofs.{ActiveCall, Undecided, Decided, HasRoom, landed, Core, holds_counts, due_of, LooksUp}
use Rattle.count_invariant.specs.step_ways.proofs.{KnowsUndecided, WorksIn, phase_at, untypes, holds_at, holds_in, holds, held_by, times_of}
use Rattle.count_invariant.specs.step_ways.proofs.{counted_in, Invariant, counts_bare, exclusive_none, IsUntimed, plain_begins, plain_stamp}
use Rattle.count_invariant.specs.step_ways.proofs.{plain_flush, plain_exit, names_on, counted_refs, sums_keep, SameFor, marks_own, does}
use Rattle.count_invariant.specs.step_ways.proofs.{begins_in, Touch as touch_act, Answers, spares_kept, OnlyLooks, step_to, next_at, inner}
use Rattle.count_invariant.specs.step_ways.proofs.{call_is, core_is, is_active, loads_on, decides_on, decides_changing, IsMarked}
use Rattle.count_invariant.specs.step_ways.proofs.{IsUnmarked, place_reads, GoodTook, NobodyWaits, ticks_at, not_spent, refuses_busy}
use Rattle.count_invariant.specs.step_ways.proofs.{plan_for, Kind, Refusal}
use Rattle.count_invariant.specs.kernel_laws.proofs.{◌%◌, root_at, linked, slot_in, holds_link, translation_of, Core as CoreFields}
use Rattle.count_invariant.specs.kernel_laws.proofs.{with_core, mapped, touch_by, caching, Cache as cache_edit, IsOpen, IsFitted, runs_fit}
use Rattle.count_invariant.specs.kernel_laws.proofs.{mapped_page, begins_in as begins_in_of_callrelation}
use Rattle.count_invariant.specs.act_states.specs.{Closing, is_link, look_end, look_after, place_end, end_by_link, meets_page, touch_end}
use Rattle.count_invariant.specs.act_states.specs.{is_at_page, touched}
use Rattle.count_invariant.specs.kept_facts.proofs.{last_small, exclusive_kept, settled_on, load_keeps, load_marks, load_words}
use Rattle.count_invariant.specs.kernel_history.specs.{root_passed, wide_way_to, capability_in, led_to}
use Rattle.count_invariant.specs.stage_look.specs.{entry_within, root_end, after_link}
use Rattle.count_invariant.proofs.{Shows, footprint_way}
use Rattle.count_invariant.specs.plan_ways.proofs.{one_left, one_right}
use Rattle.count_invariant.specs.entry_words.specs.declared.entry.Entry.TheVariants.{Free, Quiescing}
use Rattle.count_invariant.specs.act_states.specs.{declared.own.OwnChange.TheVariants.Caches, declared.touches.Touching.Touching}
use Rattle.count_invariant.specs.act_states.specs.{declared.work.WorkStep.TheVariants.Changes as work_changes, Touches.mapping_of}
use Rattle.count_invariant.proofs.Lookups.{ShowsHeld, shown_of, link_kind, link_none, link_shown, passes, root_slots, slot_left, slot_right}
use Rattle.count_invariant.proofs.Lookups.{slot_one, use_removed, leaf_reached}
use Rattle.page_invariant.proofs.TouchCalls.{told_by, unlinked_may, empty_may, unreached_first, empty_first, cached_first, mapped_is}
use Rattle.{std.proofs.lemmas.List.Elements.All-nil, count_invariant.specs.boot_words.specs.kernel_rules.specs.MemoryCalls.translated}
use Rattle.{count_invariant.specs.trace_laws.proofs.Stays.relies_reached, count_invariant.specs.kernel_history.proofs.Steps.own_left-here}
use Rattle.{count_invariant.specs.stage_look.specs.Lookup.root_after, count_invariant.specs.act_states.specs.Touches.took_touch}
use Rattle.{count_invariant.specs.core_invariant.specs.Acting.KnowsTouch, count_invariant.specs.step_ways.proofs.Refusals.refuses_fault}
use Rattle.{count_invariant.specs.quality_lists.specs.spk_nums.specs.Limits.end_of_arg, page_invariant.proofs.TouchCalls.mapped_first}

-- What a touch takes from the load of its look-up, where this translation is cached or none.
abbrev touched_at : Touching → Look → Option Translation → ℕ → WorkStep
touched_at m look (Some item) found = Answers (translated item) None Nothing
touched_at m look None found =
    touch_end m (look_after look (shown_in m.frames found)) (look_end look found (shown_in m.frames found))

-- The root of its core's pages is in the footprint of each call.
pages_footprint : (s : State) (c : ℕ) (call : Call) → is_one_of (comp_of s c).pages (footprint_frames s c call) ≡ true
pages_footprint s c call = one_left (comp_of s c).pages (frames_own s c) _
    (ap (λ b. ((s.core c).thread == (comp_of s c).pages) || (((s.core c).tcap == (comp_of s c).pages) || b))
    (one_right (comp_of s c).pages (thread_of s c).stack ((comp_of s c).table ∷ (comp_of s c).pages ∷ [])
    (ap (λ b. ((comp_of s c).table == (comp_of s c).pages) || (b || false)) (eq-eqb (comp_of s c).pages (comp_of s c).pages refl)
    ∙ last ((comp_of s c).table == (comp_of s c).pages)))
    ∙ ap (λ b. ((s.core c).thread == (comp_of s c).pages) || b) (last ((s.core c).tcap == (comp_of s c).pages))
    ∙ last ((s.core c).thread == (comp_of s c).pages))
  where
    last : (b : Bool) → (b || true) ≡ true
    last true = refl
    last false = refl

-- A core that has counted one call more.
abbrev one_more : CoreFields → CoreFields
one_more k = record k { counted = k.counted + 1 }

-- The flags of a mapping are those of its page.
flags_of : (m : Touching) (k : Capability) → k.kind ≡ Kind.Page → EntryFits (Held k) → mapping_of m k ≡ told_by m.pages m.page k
flags_of m k page fits =
    ap (λ (n : ℕ). record { pages = m.pages; page = m.page; frame = k.frame; flags = record { 0 = n } })
    (small (subst (λ j. k.arg < end_of_arg j) page fits.2))
  where
    small : k.arg < 4 → k.arg % 4 ≡ k.arg
    small low = omega (arith, low)

module _ (setup : Setting) (setting : IsSetting setup) (cores : ℕ → Core) (t : Trace) (stands : Invariant setup cores t) (c : ℕ)
    (here : c < setup.cores)
    (a : ActiveCall) (active : (cores c).active ≡ Some a) (m : Touching)
    (stage_is : a.stage ≡ Undecided (Act (touch_act m)))
    (has : KnowsUndecided setup t c (cores c).own.table a (Act (touch_act m))) where
  abbrev s : State
  s = state_after setup t

  knows : KnowsTouch setup t c a.call m
  knows = has.knows.knows

  abbrev target : Target
  target = Under (root_at m.pages) m.page

  opens : phase_at a.call a.stage ≡ Open a.call
  opens = ap (phase_at a.call) stage_is

  held_is : holds_in (Some a) ≡ holds_counts None a.counts
  held_is = ap (λ s. holds_at s a.counts) stage_is

  room : (cores c).own.made < (cores c).own.limit
  room = subst (HasRoom (cores c).own.made (cores c).own.limit) stage_is (is_active setup setting cores t stands c here a active).room

  is_open : phase t c ≡ Open a.call
  is_open = (call_is setup setting cores t stands c here a active).phase ∙ opens

  -- no count is acquired
  no_counts : a.counts ≡ []
  no_counts = none_of a.counts has.knows.all
    where
      none_of : (xs : List Acquired) → [] ≡ map due_of xs → xs ≡ []
      none_of [] h = refl
      none_of (x ∷ xs) h = absurd (cc)

  still : (fate : Option (Option ℕ)) → holds_counts fate a.counts ≡ holds_in (Some a)
  still fate = ap (holds_counts fate) no_counts ∙ sym (ap (holds_counts None) no_counts) ∙ sym held_is

  -- the rule of the touch
  rule_is : (cached : Option Translation) → m.cached ≡ cached → rule_of s c a.call ≡ touch_by m.pages m.page cached
  rule_is cached is = ap (rule_of s c) knows.call_is
      ∙ ap (λ (p : ℕ). touch_by p m.page (translation_of (s.core c).cached p m.page)) (sym knows.root)
      ∙ ap (touch_by m.pages m.page) (sym knows.known ∙ is)

  -- an entry on its way is loaded
  looks_at : (g i : ℕ) → is_one_of g (footprint_frames s c a.call) ≡ true → OnlyLooks setup t c a.call (LoadOf (EntryAt g i))
  looks_at g i footprint = record { of_call = record { moves = refl; footprint = inl footprint }; kept = refl; apart = λ d. refl }

  root_footprint : is_one_of m.pages (footprint_frames s c a.call) ≡ true
  root_footprint = subst (λ (p : ℕ). is_one_of p (footprint_frames s c a.call) ≡ true) (sym knows.root) (pages_footprint s c a.call)

  -- what it knows while its core's own step goes on
  knows_on : (e : Step) → Carries setup t e c → (look : Look) → m.cached ≡ None → LooksUp setup (e ∷ t) c target look
      → KnowsTouch setup (e ∷ t) c a.call (record m { look = look })
  knows_on e carries look none looks = record {
    call_is = knows.call_is;
    root = knows.root ∙ ap (λ k. k.pages) (sym carries.stays.comp);
    all = knows.all;
    known = knows.known ∙ ap (λ k. translation_of k.cached m.pages m.page) (sym carries.stays.core);
    first = λ some. absurd (false≢true (sym (ap is_some none) ∙ some));
    looks = looks;
  }

  -- A translation that is cached is answered.
  module _ (item : Translation) (cached : m.cached ≡ Some item) (within : m.page ≤ 4095) where
    answers_it : change_of s c a.call ≡ Found (does c s (translated item) [])
    answers_it = ap (outcome s c) (rule_is (Some item) cached) ∙ cached_first s c m.pages m.page item (le-ltb 4095 m.page within)

    answered_may : MayReply s c a.call (Reply.Ok (translated item))
    answered_may = (
      not_spent setup (cores c) t c (core_is setup setting cores t stands c here a active) room,
      (has.acts, subst (λ j. IsFoundAnd j (λ x. x.value ≡ translated item)) (sym answers_it) refl),
    )

    answered : (i : ℕ) → GoodTook setup cores t c (LoadOf (EntryAt m.pages i)) (landed a (Answers (translated item) None Nothing))
    answered i lands =
        decides_on setup setting cores t stands c here a active (LoadOf (EntryAt m.pages i)) (Reply.Ok (translated item)) a.found
        (looks_at m.pages i root_footprint) lands (still (Some None)) opens
        (ap (λ j. counted (changed s j) c) answers_it) refl
        (λ x. ap (λ j. begins_in_of_callrelation j x) answers_it)
        (λ x. ap (λ y. ends y (Reply.Ok (translated item)) x) knows.call_is)
        (ap (λ y. flushes y (Reply.Ok (translated item))) knows.call_is)
        answered_may
        (subst (λ rule. HasReached (step_to c None (LoadOf (EntryAt m.pages i)) (last_left setup t (EntryAt m.pages i))
        (Some (Reply.Ok (translated item))) None ∷ t) c (ways s c rule)) (sym (rule_is (Some item) cached))
        (All-nil (λ (x : Slot). IsSome (own_left (step_to c None (LoadOf (EntryAt m.pages i)) (last_left setup t (EntryAt m.pages i))
        (Some (Reply.Ok (translated item))) None ∷ t) c (EntryAt x.node x.index)))))
        (λ is_alone. ok_first s c a.call (translated item) answered_may)

  -- No translation is cached: its entries are loaded.
  module _ (none : m.cached ≡ None) (within : m.page ≤ 4095) where
    way_is : wide_ways s c (rule_of s c a.call) ≡ wide_way_to s target
    way_is = ap (wide_ways s c) (rule_is None none)

    faults : (g i : ℕ) → is_one_of g (footprint_frames s c a.call) ≡ true → RuleMay s c (touch_by m.pages m.page None) Reply.Fault
        → (NobodyWaits s → outcome s c (touch_by m.pages m.page None) ≡ Refused Reply.Fault)
        → GoodTook setup cores t c (LoadOf (EntryAt g i)) (landed a (refuse Refusal.Fault))
    faults g i footprint may first =
        refuses_fault setup setting cores t stands c here a active opens held_is room (LoadOf (EntryAt g i))
        (looks_at g i footprint) has.acts
        (subst (λ rule. RuleMay s c rule Reply.Fault) (sym (rule_is None none)) may)
        (λ nobody. ap (outcome s c) (rule_is None none) ∙ first nobody)

    busy : (g i : ℕ) → is_one_of g (footprint_frames s c a.call) ≡ true → is_slot_in (wide_way_to s target) g i ≡ true
        → (d : ℕ) → marked_by setup t (EntryAt g i) ≡ Some d
        → GoodTook setup cores t c (LoadOf (EntryAt g i)) (landed a (refuse (Refusal.Busy d)))
    busy g i footprint way d mark =
        refuses_busy setup setting cores t stands c here a active opens held_is room (LoadOf (EntryAt g i)) (looks_at g i footprint)
        (ap ticks_at stage_is) d (ap (λ xs. (holds_counts None xs).marks (EntryAt g i)) no_counts) mark
        (λ node. ap (λ xs. is_slot_in xs g i) way_is ∙ way)

    past : nat_lt 4095 m.page ≡ false
    past = le-ltb 4095 m.page within

    small : nat_le m.page 4095 ≡ true
    small = le-leb m.page 4095 within

    -- The load of the root entry.
    module _ (relies : Relies s c m.pages) where
      abbrev top : ℕ
      top = m.page / 64

      abbrev root_load : Move
      root_load = LoadOf (EntryAt m.pages top)

      abbrev FromRoot : Option Entry → Type 0
      FromRoot shown = GoodTook setup cores t c root_load
          (landed a (touch_end m (root_after m.pages m.page shown) (root_end shown)))

      root_way : is_slot_in (wide_way_to s target) m.pages top ≡ true
      root_way = slot_left (root_passed target) (option_to_list (led_to s target)) m.pages top
          (ap (λ l. is_slot_in l m.pages top) (root_slots (root_at m.pages) m.page refl within) ∙ slot_one m.pages top)

      unreached : linked (usable s c (root_slot m.pages m.page)) ≡ None → reached s c target ≡ None
      unreached free = ap (λ b. if b then slot_in (linked (usable s c (root_slot m.pages m.page))) (m.page % 64) else None)
          (passes (root_at m.pages) m.page refl within)
          ∙ ap (λ l. slot_in l (m.page % 64)) free

      no_page : holds_link (place_at s (root_slot m.pages m.page)) ≡ false
          → (NobodyWaits s → linked (usable s c (root_slot m.pages m.page)) ≡ None)
          → GoodTook setup cores t c root_load (landed a (refuse Refusal.Fault))
      no_page free unlinked = faults m.pages top root_footprint (unlinked_may s c m.pages m.page small free)
          (λ nobody. unreached_first s c m.pages m.page past (unreached (unlinked nobody)))

      abbrev waits_there : Bool
      waits_there = (s.grace (PlaceOf m.pages top)).waits c

      to_leaf : (k : Capability) → ShowsHeld setup.frames (s.place m.pages top) k → is_link k.kind ≡ true
          → GoodTook setup cores t c root_load (landed a (Goes (Act (touch_act (record m { look = AtLeaf k.frame m.page })))))
      to_leaf k shows is lands =
          let e : Step = step_to c None root_load (last_left setup t (EntryAt m.pages top)) None None in
          loads_on setup setting cores t stands c here a active root_load a.found
          (Undecided (Act (touch_act (record m { look = AtLeaf k.frame m.page })))) (looks_at m.pages top root_footprint) lands
          (sym held_is)
          opens
          (λ carries. record {
            acts = has.acts;
            names = names_on setup setting t e stands.legal c a.call is_open carries (cores c).own.table (plan_for a.call) a.found
                has.names;
            knows = record {
              knows = knows_on e carries (AtLeaf k.frame m.page) none (record {
                relies = carries.stays.relies m.pages relies;
                at = record {
                  found = refl;
                  same = refl;
                  within = within;
                  link = ap linked (carries.stays.usable (root_slot m.pages m.page) k relies
                      (ap (λ p. usable_in p waits_there) shows.holds))
                      ∙ ap (λ b. if b then Some k.frame else None) (sym (link_kind k.kind) ∙ is);
                  stepped = ap is_some (own_left-here c e t refl (EntryAt m.pages top) refl);
                };
              });
              all = ap (λ (xs : List Acquired). map due_of xs) (sym no_counts);
              goes = refl;
            };
          })

      by_link : (k : Capability) → ShowsHeld setup.frames (s.place m.pages top) k → (b : Bool) → is_link k.kind ≡ b
          → GoodTook setup cores t c root_load (landed a (touch_end m (after_link b m.pages m.page k.frame) (end_by_link b)))
      by_link k shows true is = to_leaf k shows is
      by_link k shows false is =
          no_page (ap holds_link shows.holds ∙ sym (link_kind k.kind) ∙ is)
          (λ nobody. ap (λ p. linked (usable_in p waits_there)) shows.holds ∙ link_none k (sym (link_kind k.kind) ∙ is))

      from_root : (v : Entry) → Shows setup.frames (s.place m.pages top) v → FromRoot (Some v)
      from_root Free shows = no_page (ap holds_link shows) (λ nobody. ap (λ p. linked (usable_in p waits_there)) shows)
      from_root (Held k) shows = by_link k shows (is_link k.kind) refl
      from_root (Closing d) shows = absurd shows
      from_root (Quiescing x) shows = no_page (ap holds_link shows.removed)
          (λ nobody. ap linked (use_removed _ shows.held _ shows.removed (nobody (PlaceOf m.pages top) c)))

      root_good : FromRoot (shown_in setup.frames (last_left setup t (EntryAt m.pages top)))
      root_good = by_read (place_reads setup cores t stands m.pages top relies.node (let w = within in omega arith))
        where
          by_read : IsMarked setup t m.pages top ⊎ IsUnmarked setup t m.pages top
              → FromRoot (shown_in setup.frames (last_left setup t (EntryAt m.pages top)))
          by_read (inl marked) = subst FromRoot (sym (ap (entry_within setup.frames) marked.says))
              (busy m.pages top root_footprint root_way marked.by marked.mark)
          by_read (inr p) =
              let shown = shown_of setup.frames (s.place m.pages top) (stamp setup t (PlaceOf m.pages top))
              (last_left setup t (EntryAt m.pages top)) p.says in
              subst FromRoot (sym shown.shown) (from_root shown.value shown.shows)

    -- The load of the page's entry.
    module _ (leaf : ℕ) (link : linked (usable s c (root_slot m.pages m.page)) ≡ Some leaf) where
      abbrev index : ℕ
      index = m.page % 64

      abbrev slot : Slot
      slot = record { node = leaf; index = index }

      abbrev page_load : Move
      page_load = LoadOf (EntryAt leaf index)

      reaches : reached s c target ≡ Some slot
      reaches = leaf_reached s c (root_at m.pages) m.page leaf refl within link

      leads : led_to s target ≡ Some slot
      leads = ap (λ b. if b then slot_in (linked (capability_in
          (place_at s (root_slot m.pages m.page)))) (m.page % 64) else None) (passes (root_at m.pages) m.page refl within)
          ∙ ap (λ l. slot_in l (m.page % 64))
          (link_shown (place_at s (root_slot m.pages m.page)) ((s.grace (PlaceOf m.pages (m.page / 64))).waits c) leaf link)

      page_way : is_slot_in (wide_way_to s target) leaf index ≡ true
      page_way = slot_right (root_passed target) (option_to_list (led_to s target)) leaf index
          (ap (λ o. is_slot_in (option_to_list o) leaf index) leads ∙ slot_one leaf index)

      page_footprint : is_one_of leaf (footprint_frames s c a.call) ≡ true
      page_footprint = footprint_way s c a.call leaf index (ap (λ xs. is_slot_in xs leaf index) way_is ∙ page_way)

      relies_leaf : Relies s c leaf
      relies_leaf = relies_reached setup setting t stands.legal c a.call is_open (root_at m.pages) m.page slot reaches

      no_mapping : held_in (place_at s slot) ≡ None → GoodTook setup cores t c page_load (landed a (refuse Refusal.Fault))
      no_mapping free = faults leaf index page_footprint (empty_may s c m.pages m.page slot small reaches free)
          (λ nobody. empty_first s c m.pages m.page slot past reaches free)

      -- The mapping is answered, and its translation cached.
      module _ (k : Capability) (holds_it : place_at s slot ≡ Holds k) (fits : EntryFits (Held k)) where
        abbrev item : Translation
        item = told_by m.pages m.page k

        abbrev r : Reply
        r = Reply.Ok (translated item)

        abbrev e : Step
        e = inner setup setting cores t stands c here a active page_load (Some r) None

        abbrev s' : State
        s' = state_after setup (e ∷ t)

        abbrev own' : Own
        own' = own_decided (own_changed (cores c).own (Caches item)) r

        abbrev after : Core
        after = record { own = own'; active = Some (next_at a a.found (Decided r None Nothing)) }

        looks : OnlyLooks setup t c a.call page_load
        looks = looks_at leaf index page_footprint

        found_it : mapped s c m.pages m.page ≡ Found k
        found_it = mapped_is s c m.pages m.page slot k past reaches holds_it

        caches_it : change_of s c a.call ≡ Found (does c s (translated item) (cache_edit item ∷ []))
        caches_it = ap (outcome s c) (rule_is None none) ∙ mapped_first s c m.pages m.page k found_it

        abbrev more : CoreFields
        more = record (s.core c) { cached = caching (s.core c).cached item }

        now : s' ≡ counted (with_core s c more) c
        now = ap (λ p. state_decided_in p r s c) is_open ∙ ap (λ j. counted (changed s j) c) caches_it

        core_now : s'.core c ≡ one_more more
        core_now = ap (λ x. x.core c) now ∙ put_same (with_core s c more).core c _ c refl
            ∙ ap one_more (put_same s.core c more c refl)

        core_other : (d : ℕ) → d ≢ c → s'.core d ≡ s.core d
        core_other d other =
            ap (λ x. x.core d) now ∙ put_other (with_core s c more).core c _ d other ∙ put_other s.core c more d other

        frames : (g : ℕ) → s'.frame g ≡ s.frame g
        frames g = ap (λ x. x.frame g) now

        limits : s'.limits ≡ s.limits
        limits = ap (λ x. x.limits) now

        rises : counted_in setup s ≤ counted_in setup s'
        rises =
            let sum = sum_one (λ d. (s.core d).counted) (λ d. (s'.core d).counted) setup.cores c here
            (λ d other. ap (λ k. k.counted) (core_other d other)) in
            let one : (s'.core c).counted ≡ (s.core c).counted + 1 = ap (λ k. k.counted) core_now in
            omega arith

        same_holds : holds after ≡ holds (cores c)
        same_holds = still (Some None) ∙ ap holds_in (sym active)

        plain : IsUntimed setup t e
        plain = record {
          begins = λ x. ap (λ p. begins_in (Some r) p s c x) is_open
              ∙ ap (λ j. begins_in_of_callrelation j x) caches_it;
          ends = λ x. ap (λ p. ends_in (Some r) p x) is_open ∙ ap (λ y. ends y r x) knows.call_is;
          flushes = ap (flushes_in (Some r)) is_open ∙ ap (λ y. flushes y r) knows.call_is;
          apart = looks.apart;
          same = load_keeps setup cores t e after same_holds frames looks.kept ClockAt;
        }

        whose : thread_of s' c ≡ thread_of s c
        whose = ap thread_in (frames (s'.core c).thread) ∙ ap (λ k. thread_in (s.frame k.thread)) core_now

        comp_same : comp_of s' c ≡ comp_of s c
        comp_same = ap comp_in (frames (first_of_stack (thread_of s' c).stack))
            ∙ ap (λ k. comp_in (s.frame (first_of_stack k.stack))) whose

        made_is : own'.made ≡ (s'.core c).counted
        made_is =
            let own = (stands.each c here).works.made in
            let one : (s'.core c).counted ≡ (s.core c).counted + 1 = ap (λ k. k.counted) core_now in
            omega arith

        works : WorksIn own' s' c
        works =
            let was_in = (stands.each c here).works in record {
              thread = was_in.thread ∙ ap (λ k. k.thread) (sym core_now);
              depth = was_in.depth ∙ ap (λ k. length k.stack) (sym whose);
              comp = was_in.comp ∙ ap (λ k. first_of_stack k.stack) (sym whose);
              table = was_in.table ∙ ap (λ k. k.table) (sym comp_same);
              pages = was_in.pages ∙ ap (λ k. k.pages) (sym comp_same);
              tcap = was_in.tcap ∙ ap (λ k. k.tcap) (sym core_now);
              cached = ap (λ xs. caching xs item) was_in.cached ∙ ap (λ k. k.cached) (sym core_now);
              owed = was_in.owed ∙ ap (λ k. k.owed) (sym core_now);
              spent = was_in.spent ∙ ap (λ k. k.spent) (sym core_now);
              back = was_in.back ∙ ap (λ k. k.back) (sym core_now);
              grant = was_in.grant ∙ ap (λ k. k.grant) (sym core_now);
              made = made_is;
            }

        same_words : (w : Word) → SameFor s s' (times_of setup t) (times_of setup (e ∷ t)) w
        same_words (EntryAt g i) = record {
          frames = ap (λ l. l.frames) limits;
          frame = frames g;
          place = ap (λ x. x.place g i) now;
          stamp = plain_stamp setup t e plain (PlaceOf g i);
        }
        same_words (FrameAt g) = frames g
        same_words (CountAt g d) = tt
        same_words (CoreAt d) = record { inside = decided-inside (Some r) (phase t c) s c d; exit = plain_exit t e refl d }
        same_words (FlushAt d) = plain_flush setup t e plain d
        same_words (LiveAt l) = record { number = ap (λ x. x.number l) now; stamp = plain_stamp setup t e plain (NumberOf l) }
        same_words ClockAt = tt

        kept_refs : (g : ℕ) → refs s' g ≡ refs s g
        kept_refs g = ap (λ x. refs x g) now ∙ counted_refs (with_core s c more) c g ∙ core_same_refs s c more refl refl g

        permitted : MayReply s c a.call r
        permitted = (
          not_spent setup (cores c) t c (core_is setup setting cores t stands c here a active) room,
          (has.acts, subst (λ j. IsFoundAnd j (λ x. x.value ≡ translated item)) (sym caches_it) refl),
        )

        justified : IsJustified setup t e a.call r
        justified = subst (λ rule. HasReached (e ∷ t) c (ways s c rule)) (sym (rule_is None none))
            (All-nil (λ (x : Slot). IsSome (own_left (e ∷ t) c (EntryAt x.node x.index))))

        cached_now : GoodTook setup cores t c page_load (landed a (work_changes r (Caches item) None Nothing))
        cached_now lands =
            let marks = load_marks setup cores t e after same_holds frames looks.kept stands.marks in
            decides_changing setup setting cores t stands c here a active page_load r own' (Decided r None Nothing)
            (record { core = refl; layout = refl; limit = refl; epochs = refl; exit = refl })
            (last_small setup setting t stands.legal (EntryAt leaf index))
            looks.of_call lands opens refl
            (marks_own setup cores t e after (λ w there. ap (λ h. h.marks w) same_holds) stands.marks marks)
            (λ d n other. refl)
            (plain_begins setup t e plain) (spares_kept setup t e refl) (inl (ap untypes knows.call_is)) rises works marks
            (load_words setup cores t e after same_holds frames looks.kept same_words stands.words)
            (exclusive_none setup (e ∷ t) c after (counts_bare (Some None) a.counts)) (exclusive_kept cores e refl)
            (sums_keep setup t e (held_by cores) (held_by (put cores c after))
            (λ g d. settled_on setup cores t e after same_holds frames (CountAt g d)
            (load_keeps setup cores t e after same_holds frames looks.kept (CountAt g d)))
            plain limits kept_refs stands.sums)
            (record { call = a.call; is_open = is_open; permitted = permitted; justified = justified })
            (λ is_alone. ok_first s c a.call (translated item) permitted)
            tt

        abbrev opens_now : ℕ → Bool
        opens_now = opened (events_of t)

        open_now : IsOpen s opens_now c
        open_now = record { sound = sound_of setup setting t stands.legal; is = opened_is t c a.call is_open }

        fitted : IsFitted s opens_now
        fitted = subst (λ x. IsFitted x opens_now) (sym (state_is setup t))
            (runs_fit setup setting (events_of t) (run_of setup t stands.legal))

        -- what a page of the core's own holds is a mapping
        is_page : k.kind ≡ Kind.Page
        is_page = mapped_page s opens_now c open_now fitted m.page k
            (subst (λ (p : ℕ). mapped s c p m.page ≡ Found k) knows.root found_it)

        page_good : GoodTook setup cores t c page_load (landed a (meets_page m (Held k)))
        page_good = subst (λ x. GoodTook setup cores t c page_load
            (landed a (work_changes (Reply.Ok (translated x)) (Caches x) None Nothing)))
            (sym (flags_of m k is_page fits)) cached_now

      abbrev FromPage : Option Entry → Type 0
      FromPage shown = GoodTook setup cores t c page_load
          (landed a (touch_end m (AtLeaf leaf m.page) (place_end leaf index (last_left setup t (EntryAt leaf index)) shown)))

      from_page : (v : Entry) → Shows setup.frames (s.place leaf index) v → FromPage (Some v)
      from_page Free shows = no_mapping (ap held_in shows)
      from_page (Held k) shows = page_good k shows.holds shows.fits
      from_page (Closing d) shows = absurd shows
      from_page (Quiescing x) shows = no_mapping (ap held_in shows.removed)

      leaf_good : FromPage (shown_in setup.frames (last_left setup t (EntryAt leaf index)))
      leaf_good = by_read (place_reads setup cores t stands leaf index relies_leaf.node (omega arith))
        where
          by_read : IsMarked setup t leaf index ⊎ IsUnmarked setup t leaf index
              → FromPage (shown_in setup.frames (last_left setup t (EntryAt leaf index)))
          by_read (inl marked) = subst FromPage (sym (ap (entry_within setup.frames) marked.says))
              (busy leaf index page_footprint page_way marked.by marked.mark)
          by_read (inr p) =
              let shown = shown_of setup.frames (s.place leaf index) (stamp setup t (PlaceOf leaf index))
              (last_left setup t (EntryAt leaf index)) p.says in
              subst FromPage (sym shown.shown) (from_page shown.value shown.shows)

  -- A load of a touch, by where its look-up stands and by what is cached.
  abbrev FromLoad : Look → Option Translation → Type 0
  FromLoad look cached =
      GoodTook setup cores t c (look_move look) (landed a (touched_at m look cached (last_left setup t (word_of (look_move look)))))

  by_load : (look : Look) (cached : Option Translation) → m.cached ≡ cached → (is_some cached ≡ true → is_at_page look ≡ false)
      → LooksUp setup t c target look → FromLoad look cached
  by_load (AtRoot root number) (Some item) is first looks =
      subst (λ (f : ℕ). FromLoad (AtRoot f number) (Some item)) looks.at.frame
      (answered item is (subst (λ (n : ℕ). n ≤ 4095) refl looks.at.within) (number / 64))
  by_load (AtRoot root number) None is first looks =
      subst (λ (f : ℕ). FromLoad (AtRoot f number) None) looks.at.frame
      (subst (λ (n : ℕ). FromLoad (AtRoot m.pages n) None) looks.at.same
      (subst (λ (n : ℕ). GoodTook setup cores t c (LoadOf (EntryAt m.pages (m.page / 64)))
      (landed a (touch_end m (root_after m.pages m.page (shown_in n (last_left setup t (EntryAt m.pages (m.page / 64)))))
      (root_end (shown_in n (last_left setup t (EntryAt m.pages (m.page / 64)))))))) (sym knows.all)
      (root_good is looks.at.within looks.relies)))
  by_load (AtLeaf leaf number) (Some item) is first looks = absurd (false≢true (sym (first refl)))
  by_load (AtLeaf leaf number) None is first looks =
      subst (λ (n : ℕ). FromLoad (AtLeaf leaf n) None) looks.at.same
      (subst (λ (n : ℕ). GoodTook setup cores t c (LoadOf (EntryAt leaf (m.page % 64)))
      (landed a (touch_end m (AtLeaf leaf m.page) (place_end leaf (m.page % 64) (last_left setup t (EntryAt leaf (m.page % 64)))
      (shown_in n (last_left setup t (EntryAt leaf (m.page % 64)))))))) (sym knows.all)
      (leaf_good is looks.at.within leaf looks.at.link))
  by_load (AtEntry root i) cached is first looks = absurd looks.at

  pub touch_good : GoodTook setup cores t c (look_move m.look)
      (landed a (took_touch m (told_of (look_move m.look) (last_left setup t (word_of (look_move m.look))))))
  touch_good = by_told (look_told m.look (last_left setup t (word_of (look_move m.look))))
    where
      look_told : (look : Look) (x : ℕ) → told_of (look_move look) x ≡ x
      look_told (AtRoot root number) x = refl
      look_told (AtLeaf leaf number) x = refl
      look_told (AtEntry root i) x = refl

      as_taken : (cached : Option Translation) (x : ℕ)
          → GoodTook setup cores t c (look_move m.look) (landed a (touched_at m m.look cached x))
          → GoodTook setup cores t c (look_move m.look) (landed a (touched m x cached))
      as_taken None x h = h
      as_taken (Some item) x h = h

      by_told : {x : ℕ} → x ≡ last_left setup t (word_of (look_move m.look))
          → GoodTook setup cores t c (look_move m.look) (landed a (took_touch m x))
      by_told {x = x} same = subst (λ (n : ℕ). GoodTook setup cores t c (look_move m.look) (landed a (took_touch m n))) (sym same)
          (as_taken m.cached (last_left setup t (word_of (look_move m.look)))
          (by_load m.look m.cached refl knows.first knows.looks))
