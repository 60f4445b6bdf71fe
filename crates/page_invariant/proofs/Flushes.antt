-- The two steps of a flush: the load of the clock, which decides it, and the store of the core's flush word.
use Rattle.count_invariant.specs.step_ways.proofs.{Own, Nothing, StoreFlush, Act, own_changed, own_decided, ActiveCall, Stage, Undecided}
use Rattle.count_invariant.specs.step_ways.proofs.{Decided, HasRoom, GoesOn, went_with, landed, Core, plain_exit, counts_on, counted_refs}
use Rattle.count_invariant.specs.step_ways.proofs.{limits_of, SameFor, marks_own, word_stays, carry_marks, others_settled, counts_bare}
use Rattle.count_invariant.specs.step_ways.proofs.{exclusive_none, exclusive_elsewhere, Holding, holds_counts, settled_by, settled, due_of}
use Rattle.count_invariant.specs.step_ways.proofs.{KnowsUndecided, WorksIn, phase_at, untypes, is_done, holds_at, holds_in, holds, held_by}
use Rattle.count_invariant.specs.step_ways.proofs.{times_of, counted_in, Invariant, WordIs, decided-inside, same_word-other, phase-own}
use Rattle.count_invariant.specs.step_ways.proofs.{stamp-kept, flush_stored-own, flush_stored-other, IsJustified, HasReached, marked_by}
use Rattle.count_invariant.specs.step_ways.proofs.{ends_in, flushes_in, begins_at, ends_at, flushes_at, stamp, clock, flush_of}
use Rattle.count_invariant.specs.step_ways.proofs.{flush_stored, Step, Trace, Open, phase, state_after, state_decided_in, last_left}
use Rattle.count_invariant.specs.step_ways.proofs.{own_left, ways, core_same_refs, sum_one, put_same, put_other, Slot, alone, rule_of}
use Rattle.count_invariant.specs.step_ways.proofs.{counted, state_by, begins, ends, flushes, MayReply, refs, Thing, PlaceOf, FrameOf}
use Rattle.count_invariant.specs.step_ways.proofs.{NumberOf, State, put, thread_in, comp_in, first_of_stack, thread_of, comp_of, Reply}
use Rattle.count_invariant.specs.step_ways.proofs.{Setting, IsSetting, Acquired, ◌≡◌, ◌≢◌, inl, inr, ℕ, ◌+◌, ◌*◌, ◌<◌, ◌≤◌, ◌&&◌, true}
use Rattle.count_invariant.specs.step_ways.proofs.{false, if◌then◌else◌, cond, List, [], ◌∷◌, map, length, Option, Some, None, arith, refl}
use Rattle.count_invariant.specs.step_ways.proofs.{sym, ◌∙◌, ap, subst, false≢true, eq-eqb, same_same, Move, LoadOf, StoreOf, Word, EntryAt}
use Rattle.count_invariant.specs.step_ways.proofs.{FrameAt, CountAt, CoreAt, FlushAt, LiveAt, ClockAt, same_word, Flush as flush_act}
use Rattle.count_invariant.specs.step_ways.proofs.{spares_kept, spares_other, IsOfCall, next_at, core_in_call, core_is, call_is, inner}
use Rattle.count_invariant.specs.step_ways.proofs.{is_active, GoodTook, not_spent, spares_none, clock_small, begins_in, IsSome, Value}
use Rattle.count_invariant.specs.kept_facts.proofs.{reads_alike, carry_words, own_settled, exclusive_kept, CoreIs, last_small}
use Rattle.count_invariant.specs.kernel_history.specs.{sum_below, Flush, stores_flush, Core as CoreFields, with_core}
use Rattle.std.proofs.{lemmas.Bool.cases_eq, lemmas.List.Elements.All-nil}
use Rattle.count_invariant.specs.act_states.specs.{declared.own.OwnChange.TheVariants.Empties}
use Rattle.count_invariant.specs.act_states.specs.{declared.work.WorkStep.TheVariants.Changes as work_changes, Flushes.took_flush}
use Rattle.count_invariant.specs.kept_facts.proofs.{CountSums.calm_refs, Sums.sums_since}
use Rattle.count_invariant.specs.step_ways.proofs.Loads.{in_call, inner_within, inner_disciplined, inner_footprint}
use Rattle.{count_invariant.specs.kept_facts.proofs.steps_in_call-own, count_invariant.specs.kernel_history.proofs.Steps.flush_of-own}
use Rattle.{count_invariant.specs.step_ways.proofs.OwnChanges.decides_owning, count_invariant.specs.core_invariant.specs.Knows.KnowsFlush}
use Rattle.{count_invariant.specs.frame_words.proofs.FlushLemmas.spelling, count_invariant.specs.frame_words.specs.Flush.word_of_flush}
use Rattle.{count_invariant.specs.boot_words.specs.kernel_rules.specs.GracePeriods.flushed}
use Rattle.{count_invariant.specs.stage_quiet.specs.Clocks.stamp_of_clock}

none_some : (d : ℕ) → None ≡ Some d → ⊥
none_some d h = cc

-- A core that has counted one call more.
abbrev one_more : CoreFields → CoreFields
one_more k = record k { counted = k.counted + 1 }

-- The load of the clock.
module _ (setup : Setting) (setting : IsSetting setup) (cores : ℕ → Core) (t : Trace) (stands : Invariant setup cores t) (c : ℕ)
    (here : c < setup.cores)
    (a : ActiveCall) (active : (cores c).active ≡ Some a) (by : ℕ)
    (stage_is : a.stage ≡ Undecided (Act (flush_act by)))
    (has : KnowsUndecided setup t c (cores c).own.table a (Act (flush_act by))) where
  abbrev s : State
  s = state_after setup t

  abbrev now_at : ℕ
  now_at = clock setup t

  abbrev r : Reply
  r = Reply.Ok Value.Nothing

  abbrev load : Move
  load = LoadOf ClockAt

  abbrev e : Step
  e = inner setup setting cores t stands c here a active load (Some r) None

  abbrev s' : State
  s' = state_after setup (e ∷ t)

  abbrev stage : Stage
  stage = Decided r None (StoreFlush by now_at)

  abbrev own' : Own
  own' = own_decided (own_changed (cores c).own Empties) r

  abbrev after : Core
  after = record { own = own'; active = Some (next_at a a.found stage) }

  call_is_flush : a.call ≡ Flush
  call_is_flush = has.knows.knows.call_is

  opens : phase_at a.call a.stage ≡ Open a.call
  opens = ap (phase_at a.call) stage_is

  held_is : holds_in (Some a) ≡ holds_counts None a.counts
  held_is = ap (λ s. holds_at s a.counts) stage_is

  -- no count is acquired
  no_counts : a.counts ≡ []
  no_counts = none_of a.counts has.knows.all
    where
      none_of : (xs : List Acquired) → [] ≡ map due_of xs → xs ≡ []
      none_of [] h = refl
      none_of (x ∷ xs) h = absurd (cc)

  is_open : phase t c ≡ Open a.call
  is_open = (call_is setup setting cores t stands c here a active).phase ∙ opens

  unspent_room : (cores c).own.made < (cores c).own.limit
  unspent_room =
      subst (HasRoom (cores c).own.made (cores c).own.limit) stage_is (is_active setup setting cores t stands c here a active).room

  now : s' ≡ counted (flushed s c) c
  now = ap (λ p. state_decided_in p r s c) is_open ∙ ap (λ x. state_by s c x r) call_is_flush

  abbrev emptied : CoreFields
  emptied = record (s.core c) { cached = [] }

  core_now : s'.core c ≡ record emptied { counted = (s.core c).counted + 1 }
  core_now = ap (λ x. x.core c) now ∙ put_same (flushed s c).core c _ c refl
      ∙ ap one_more (put_same s.core c emptied c refl)

  core_other : (d : ℕ) → d ≢ c → s'.core d ≡ s.core d
  core_other d other = ap (λ x. x.core d) now ∙ put_other (flushed s c).core c _ d other ∙ put_other s.core c emptied d other

  frames : (g : ℕ) → s'.frame g ≡ s.frame g
  frames g = ap (λ x. x.frame g) now

  limits : s'.limits ≡ s.limits
  limits = ap (λ x. x.limits) now

  rises : counted_in setup s ≤ counted_in setup s'
  rises =
      let sum = sum_one (λ d. (s.core d).counted) (λ d. (s'.core d).counted) setup.cores c here
      (λ d other. ap (λ k. k.counted) (core_other d other)) in
      let more : (s'.core c).counted ≡ (s.core c).counted + 1 = ap (λ k. k.counted) core_now in
      omega arith

  -- it begins and ends no grace period, and flushes
  none_begins : (x : Thing) → begins_at setup t e x ≡ false
  none_begins x = ap (λ p. begins_in (Some r) p s c x) is_open ∙ ap (λ y. begins s c y r x) call_is_flush

  none_ends : (x : Thing) → ends_at t e x ≡ false
  none_ends x = ap (λ p. ends_in (Some r) p x) is_open ∙ ap (λ y. ends y r x) call_is_flush

  is_flush : flushes_at t e ≡ true
  is_flush = ap (flushes_in (Some r)) is_open ∙ ap (λ y. flushes y r) call_is_flush

  same_stamp : (x : Thing) → stamp setup (e ∷ t) x ≡ stamp setup t x
  same_stamp x = stamp-kept setup e t x (none_begins x) (none_ends x)

  last_now : flush_of (e ∷ t) c ≡ now_at
  last_now = flush_of-own c e t refl ∙ ap (λ b. cond b now_at (flush_of t c)) is_flush

  same_stored : (d : ℕ) → flush_stored (e ∷ t) d ≡ flush_stored t d
  same_stored d = elim (cases_eq d c) [
    | inl own ↦ flush_stored-own d e t own
    | inr other ↦ flush_stored-other d e t other
  ]

  same_marks : (w : Word) → (holds after).marks w ≡ (holds (cores c)).marks w
  same_marks w = ap (λ (xs : List Acquired). (holds_counts (Some None) xs).marks w) no_counts
      ∙ sym (ap (λ h. h.marks w) (ap holds_in active ∙ held_is ∙ ap (holds_counts None) no_counts))

  -- it keeps no word without a mark, before and after
  same_bare : (f i : ℕ) → (holds after).bare f i ≡ (holds (cores c)).bare f i
  same_bare f i = counts_bare (Some None) a.counts f i
      ∙ sym (ap (λ h. h.bare f i) (ap holds_in active ∙ held_is) ∙ counts_bare None a.counts f i)

  -- the core holds no word
  free_of : (w : Word) → marked_by setup t w ≡ Some c → ⊥
  free_of w own = false≢true (sym (ap (λ h. h.marks w) (ap holds_in active ∙ held_is ∙ ap (holds_counts None) no_counts))
      ∙ (stands.marks w c).owned own)

  made_is : own'.made ≡ (s'.core c).counted
  made_is =
      let own = (stands.each c here).works.made in
      let more : (s'.core c).counted ≡ (s.core c).counted + 1 = ap (λ k. k.counted) core_now in
      omega arith

  whose : thread_of s' c ≡ thread_of s c
  whose = ap thread_in (frames (s'.core c).thread) ∙ ap (λ k. thread_in (s.frame k.thread)) core_now

  comp_same : comp_of s' c ≡ comp_of s c
  comp_same = ap comp_in (frames (first_of_stack (thread_of s' c).stack))
      ∙ ap (λ k. comp_in (s.frame (first_of_stack k.stack))) whose

  works : WorksIn own' s' c
  works =
      let was_in = (stands.each c here).works in record {
        thread = was_in.thread ∙ ap (λ k. k.thread) (sym core_now);
        depth = was_in.depth ∙ ap (λ k. length k.stack) (sym whose);
        comp = was_in.comp ∙ ap (λ k. first_of_stack k.stack) (sym whose);
        table = was_in.table ∙ ap (λ k. k.table) (sym comp_same);
        pages = was_in.pages ∙ ap (λ k. k.pages) (sym comp_same);
        tcap = was_in.tcap ∙ ap (λ k. k.tcap) (sym core_now);
        cached = ap (λ k. k.cached) (sym core_now);
        owed = was_in.owed ∙ ap (λ k. k.owed) (sym core_now);
        spent = was_in.spent ∙ ap (λ k. k.spent) (sym core_now);
        back = was_in.back ∙ ap (λ k. k.back) (sym core_now);
        grant = was_in.grant ∙ ap (λ k. k.grant) (sym core_now);
        made = made_is;
      }

  same_words : (w : Word) → SameFor s s' (times_of setup t) (times_of setup (e ∷ t)) w
  same_words (EntryAt g i) = record {
    frames = ap (λ l. l.frames) limits;
    frame = frames g;
    place = ap (λ x. x.place g i) now;
    stamp = same_stamp (PlaceOf g i);
  }
  same_words (FrameAt g) = frames g
  same_words (CountAt g d) = tt
  same_words (CoreAt d) = record { inside = decided-inside (Some r) (phase t c) s c d; exit = plain_exit t e refl d }
  same_words (FlushAt d) = same_stored d
  same_words (LiveAt l) = record { number = ap (λ x. x.number l) now; stamp = same_stamp (NumberOf l) }
  same_words ClockAt = tt

  kept_refs : (g : ℕ) → refs s' g ≡ refs s g
  kept_refs g = ap (λ x. refs x g) now ∙ counted_refs (flushed s c) c g
      ∙ calm_refs (with_core s c emptied) (flushed s c) c
      (record { frame = λ f. refl; number = λ l. refl; limits = refl; others = λ d other. refl; own = refl; more = omega arith })
      (λ f i. refl) g
      ∙ core_same_refs s c emptied refl refl g

  permitted : MayReply s c a.call r
  permitted = subst (λ x. MayReply s c x r) (sym call_is_flush)
      (not_spent setup (cores c) t c (stands.each c here) unspent_room, (refl, refl))

  justified : IsJustified setup t e a.call r
  justified = subst (λ x. HasReached (e ∷ t) c (ways s c (rule_of s c x))) (sym call_is_flush)
      (All-nil (λ (x : Slot). IsSome (own_left (e ∷ t) c (EntryAt x.node x.index))))

  alike : (f d : ℕ) → settled setup (held_by (put cores c after)) (e ∷ t) (CountAt f d) ≡ settled setup (held_by cores) t (CountAt f d)
  alike f d = others_settled setup cores t e after same_marks (reads_alike setup t e frames) refl refl (CountAt f d) (λ h. cc)
      (free_of (CountAt f d)) refl

  flush_now : GoodTook setup cores t c load (landed a (work_changes r Empties None (StoreFlush by now_at)))
  flush_now lands =
      let of_call : IsOfCall setup t c a.call load = record { moves = refl; footprint = inl tt } in
      let marks = carry_marks setup cores t e after same_marks (reads_alike setup t e frames) refl refl stands.marks in
      decides_owning setup setting cores t stands c here a active load r own' stage
      (record { core = refl; layout = refl; limit = refl; epochs = refl; exit = refl })
      (last_small setup setting t stands.legal ClockAt)
      of_call lands opens refl
      (marks_own setup cores t e after (λ w there. same_marks w) stands.marks marks)
      (λ d m other. refl)
      (record {
        rises = omega arith;
        draws = λ x is. absurd (false≢true (sym (none_begins x) ∙ is));
        flushes = λ is. refl;
      })
      (omega arith)
      (λ done. absurd (false≢true (sym done)))
      (spares_kept setup t e refl) (inl (ap untypes call_is_flush)) rises works marks
      (carry_words setup cores t e after same_marks (reads_alike setup t e frames) refl refl same_bare (λ x. refl)
      (λ w there free. word_stays s s' (times_of setup t) (times_of setup (e ∷ t)) w (settled setup (held_by cores) t w) (same_words w))
      tt (λ w own. absurd (free_of w own)) stands.words)
      (exclusive_none setup (e ∷ t) c after (counts_bare (Some None) a.counts)) (exclusive_kept cores e refl)
      (sums_since setup t e (held_by cores) (held_by (put cores c after)) alike (λ f. same_stamp (FrameOf f)) limits kept_refs
      stands.sums)
      (record { call = a.call; is_open = is_open; permitted = permitted; justified = justified })
      (λ is_alone. first)
      (record {
        stores = ap stores_flush call_is_flush;
        core = has.knows.knows.core;
        some = stands.some_time;
        small = clock_small setup setting cores t stands;
        last = last_now;
      })
    where
      first : r ≡ alone s c a.call
      first = subst (λ x. r ≡ alone s c x) (sym call_is_flush)
          (sym (ap (λ b. if b then Reply.CallsSpent else r) (not_spent setup (cores c) t c (stands.each c here) unspent_room)))

  pub flush_good : GoodTook setup cores t c load (landed a (took_flush by now_at))
  flush_good = subst (λ (x : ℕ). GoodTook setup cores t c load (landed a (work_changes r Empties None (StoreFlush by x))))
      (sym fits) flush_now
    where
      fits : stamp_of_clock now_at ≡ now_at
      fits = let low = clock_small setup setting cores t stands in omega arith

-- The store of the core's flush word.
module _ (setup : Setting) (setting : IsSetting setup) (cores : ℕ → Core) (t : Trace) (stands : Invariant setup cores t) (c : ℕ)
    (here : c < setup.cores)
    (a : ActiveCall) (active : (cores c).active ≡ Some a) (r : Reply) (drawn : Option ℕ) (by x : ℕ)
    (stage_is : a.stage ≡ Decided r drawn (StoreFlush by x)) (has : KnowsFlush t c a.call by x) where
  abbrev flush_word : ℕ
  flush_word = word_of_flush (record { stamp = x })

  abbrev store : Move
  store = StoreOf (FlushAt c) flush_word

  abbrev storing : Step
  storing = inner setup setting cores t stands c here a active store None None

  abbrev next : ActiveCall
  next = went_with a a.counts (Decided r drawn Nothing)

  abbrev stored_core : Core
  stored_core = core_in_call (cores c) (cores c).own.made next

  abbrev rest : Holding
  rest = holds_counts (is_done (Decided r drawn Nothing)) a.counts

  -- it holds what it held, and what it holds of other words stands for the same
  holds_was : (w : Word) → ((holds (cores c)).marks w ≡ rest.marks w)
      × ((holds (cores c)).stands w ≡ (if same_word w (FlushAt c) then x else rest.stands w))
  holds_was w = (
    ap (λ h. h.marks w) (ap holds_in active ∙ ap (λ stage. holds_at stage a.counts) stage_is),
    ap (λ h. h.stands w) (ap holds_in active ∙ ap (λ stage. holds_at stage a.counts) stage_is)
        ∙ ap (λ (d : ℕ). if same_word w (FlushAt d) then x else rest.stands w) has.core,
  )

  still_marks : (w : Word) → (holds stored_core).marks w ≡ (holds (cores c)).marks w
  still_marks w = sym (holds_was w).0

  still_stands : (w : Word) → w ≢ FlushAt c → (holds stored_core).stands w ≡ (holds (cores c)).stands w
  still_stands w there = sym ((holds_was w).1 ∙ ap (λ b. if b then x else rest.stands w) (same_word-other w (FlushAt c) there))

  still_bare : (f i : ℕ) → (holds stored_core).bare f i ≡ (holds (cores c)).bare f i
  still_bare f i = sym (ap (λ h. h.bare f i) (ap holds_in active ∙ ap (λ stage. holds_at stage a.counts) stage_is))

  its_words : (w : Word) → marked_by setup t w ≡ Some c → w ≢ FlushAt c → settled setup (held_by cores) t w ≡ (holds stored_core).stands w
  its_words w own there = ap (λ o. settled_by o (held_by cores) w (last_left setup t w)) own ∙ sym (still_stands w there)

  not_flush : (w : Word) → marked_by setup t w ≡ Some c → w ≢ FlushAt c
  not_flush w own is = none_some c (ap (marked_by setup t) (sym is) ∙ own)

  now_stored : flush_stored (storing ∷ t) c ≡ x
  now_stored = flush_stored-own c storing t refl
      ∙ ap (λ b. cond b (flush_of t c) (flush_stored t c)) (same_same (FlushAt c)) ∙ has.last

  last_same : flush_of (storing ∷ t) c ≡ x
  last_same = flush_of-own c storing t refl ∙ has.last

  said : (w : Word) → w ≢ FlushAt c
      → SameFor (state_after setup t) (state_after setup (storing ∷ t)) (times_of setup t) (times_of setup (storing ∷ t)) w
  said (EntryAt g i) there = record { frames = refl; frame = refl; place = refl; stamp = refl }
  said (FrameAt g) there = refl
  said (CountAt g d) there = tt
  said (CoreAt d) there = record { inside = refl; exit = plain_exit t storing refl d }
  said (FlushAt d) there = flush_stored-other d storing t (λ own. there (ap FlushAt own))
  said (LiveAt l) there = record { number = refl; stamp = refl }
  said ClockAt there = tt

  counts_same : (f d : ℕ) → settled setup (held_by (put cores c stored_core)) (storing ∷ t) (CountAt f d)
      ≡ settled setup (held_by cores) t (CountAt f d)
  counts_same f d = by_mark (marked_by setup t (CountAt f d)) refl
    where
      there : CountAt f d ≢ FlushAt c
      there h = cc

      by_mark : (o : Option ℕ) → marked_by setup t (CountAt f d) ≡ o
          → settled setup (held_by (put cores c stored_core)) (storing ∷ t) (CountAt f d) ≡ settled setup (held_by cores) t (CountAt f d)
      by_mark None is = others_settled setup cores t storing stored_core still_marks (reads_alike setup t storing (λ g. refl)) refl refl
          (CountAt f d) there (λ h. none_some c (sym is ∙ h)) refl
      by_mark (Some b) is = elim (cases_eq b c) [
        | inl own ↦ (let mine : marked_by setup t (CountAt f d) ≡ Some c = is ∙ ap (λ (n : ℕ). Some n) own in
            own_settled setup cores t storing stored_core still_marks (reads_alike setup t storing (λ g. refl)) refl refl (CountAt f d)
            there mine ∙ sym (its_words (CountAt f d) mine there))
        | inr other ↦ others_settled setup cores t storing stored_core still_marks (reads_alike setup t storing (λ g. refl)) refl refl
            (CountAt f d) there (λ h. other (same_number b c (sym is ∙ h))) refl
      ]
        where
          same_number : (n m : ℕ) → Some n ≡ Some m → n ≡ m
          same_number n m h = cc

  of_store : IsOfCall setup t c a.call store
  of_store = record {
    moves = ap (λ b. b && stores_flush a.call) (eq-eqb c c refl) ∙ has.stores;
    footprint = inl tt;
  }

  stores_it : GoodTook setup cores t c store (GoesOn next)
  stores_it lands =
      let marks = carry_marks setup cores t storing stored_core still_marks (reads_alike setup t storing (λ g. refl)) refl refl
      stands.marks in
      let is : CoreIs setup (cores c) t c = core_is setup setting cores t stands c here a active in
      let in_flight = call_is setup setting cores t stands c here a active in
      record {
        follows = record {
          is_core = here;
          is_in = lands.is_in;
          found = refl;
          small = spelling.small (record { stamp = x }) has.small;
          enters = tt;
          in_call = in_call setup setting cores t stands c here a active;
          decides = tt;
          returns = tt;
        };
        within = inner_within setup setting cores t stands c here a active store None None;
        alone = λ is_alone. tt;
        disciplined = inner_disciplined setup setting cores t stands c here a active store None None of_store
            (marks_own setup cores t storing stored_core (λ w there. still_marks w) stands.marks marks)
            (λ d m other. absurd (none_some d m));
        footprint = inner_footprint setup setting cores t stands c here a active store None None of_store;
        blanks = spares_other setup t storing (λ f i h. cc);
        counted = spares_none setup t storing (λ f. refl);
        marks = marks;
        words = carry_words setup cores t storing stored_core still_marks (reads_alike setup t storing (λ g. refl)) refl refl still_bare
            (λ y. refl)
            (λ w there free. word_stays (state_after setup t) (state_after setup (storing ∷ t)) (times_of setup t)
            (times_of setup (storing ∷ t)) w (settled setup (held_by cores) t w) (said w there))
            (spelling.reads (record { stamp = x }) has.small ∙ ap (λ (n : ℕ). Some (record { stamp = n })) (sym now_stored))
            (λ w own. subst (WordIs (state_after setup (storing ∷ t)) (times_of setup (storing ∷ t)) w)
            (its_words w own (not_flush w own))
            (word_stays (state_after setup t) (state_after setup (storing ∷ t)) (times_of setup t) (times_of setup (storing ∷ t)) w
            (settled setup (held_by cores) t w) (said w (not_flush w own)) (stands.words w)))
            stands.words;
        exclusive = exclusive_none setup (storing ∷ t) c stored_core (counts_bare (is_done (Decided r drawn Nothing)) a.counts);
        spares = exclusive_elsewhere cores storing (λ f i h. cc);
        sums = sums_since setup t storing (held_by cores) (held_by (put cores c stored_core)) counts_same (λ f. refl) refl (λ f. refl)
            stands.sums;
        draws = (let d = stands.draws in omega arith);
        time = record { rises = omega arith; draws = λ y h. absurd (false≢true h); flushes = λ h. absurd (false≢true h) };
        leaves = tt;
        own = record {
          fits = lands.fits;
          number = is.number;
          shape = is.shape;
          limit = is.limit;
          epochs = is.epochs;
          works = is.works;
          exit = is.exit ∙ sym (plain_exit t storing refl c);
          flushed = λ done. now_stored ∙ sym last_same;
          active = record {
            phase = phase-own c storing t refl ∙ in_flight.phase ∙ ap (phase_at a.call) stage_is;
            steps = steps_in_call-own c storing t refl ∙ ap (λ (n : ℕ). n + 1) in_flight.steps;
            knows = tt;
            counts = counts_on setup t storing c a.call (λ own. refl) a.counts in_flight.counts;
            apart = in_flight.apart;
          };
        };
      }

  pub flushed_good : GoodTook setup cores t c (StoreOf (FlushAt by) flush_word) (GoesOn next)
  flushed_good = subst (λ (d : ℕ). GoodTook setup cores t c (StoreOf (FlushAt d) flush_word) (GoesOn next)) (sym has.core) stores_it
