-- A step by which a call acquires a count that its act changes is good: the count is held by another core, is lost to another core, or
-- is acquired; and so is the step by which a decided call commits it.
use Rattle.step_ways.proofs as low
use low.{exclusive_elsewhere, claimed_by, ◌≡◌, ◌≢◌, ℕ, ℤ, pos, negsuc, ◌+◌, ◌++◌, ◌==◌, ◌^◌, ◌<◌, ◌≤◌, map, slice_get, length, Bool, true}
use low.{false, if◌then◌else◌, cond, List, [], ◌∷◌, Option, Some, None, IsTrue, inl, inr, arith, refl, sym, ◌∙◌, ap, subst, not, All}
use low.{is_some, false≢true, eq-eqb, eqb-true, eqb-false, Setting, IsSetting, Capability, Call, Shrink, Unmap, Reply, CountFits}
use low.{word_of_count, count_of_word, CountWord, left_if, Word, EntryAt, CountAt, ClockAt, FrameAt, LiveAt, Move, LoadOf, CompareOf}
use low.{StoreOf, word_of, left_of, Place, Holds, PlaceOf, State, put, named_by, put_same, count_mark, marked_by, counts_references}
use low.{changes_places, raises_clock, IsInFootprint, frame_at_slot, frame_argument, frames_named, is_one_of, footprint_frames, target_of}
use low.{rule_of, usable_in, AtDraw, AtStore, Step, Trace, Open, phase, state_after, last_left, own_read, was_now, cases_word}
use low.{own_read-here, own_read-there, last_left-here, last_left-there, unheld, Pin, Acquired, plan_for, Leads, LeadsIn, leads_by, GoesBy}
use low.{own_pages, calls_go, Due, Nothing, Acquire, Undecided, Decided, ActiveCall, Goes, dues, next_work, CountsAt, HasRoom, StageFits}
use low.{GoesOn, landed, went_with, Core, UntypingAt, Holding, count_of, committed, holds_counts, settled_by, settled, SaysCount}
use low.{AreDuesApart, own_in, HasFound, NamesAre, due_of, KnowsAct, KnowsWork, KnowsUndecided, IsCount, phase_at, KnowsTail, goes_on}
use low.{untypes, done_by, holds_act, holds_work, holds_at, holds_in, holds, held_by, Invariant, holds_tail, names_on, counts_on}
use low.{length-append, lt-ltb, Hold, Quiescing as Removed, AtCompare as close_compare, acquired, Fill as fill_act}
use low.{Remove as remove_act, Tick as tick_act, Kill as kill_act, Untype as untype_act, Map as map_act, MakeComp as comp_act}
use low.{Invoke as invoke_act, Return as return_act, Switch as switch_act, Acquires, took_count, is_ok, same_marks, IsGood, spares_other}
use low.{users_kept, IsOfCall, Lands, step_to, core_in_call, inner, call_is, is_active, loads_on, GoodTook, ticks_at, Refusal}
use Rattle.step_ways.specs.act_states.specs.{Remove, Close, AtLoad, removes_by, undo, comp_meets_number, pinned_at, compare_end, pin_move}
use Rattle.step_ways.specs.act_states.specs.{pin_end, pin_after, commit_of, acquires, is_drawing}
use Rattle.step_ways.specs.core_invariant.specs.{AreApart, Make as make_act, pin_frame, KnowsClose, is_counting}
use Rattle.plan_ways.proofs.{target_is, one_left, one_right, footprint_about}
use Rattle.step_ways.specs.stage_pins.specs.{load_end, after_load, settled_word}
use Rattle.plan_ways.specs.kernel_history.specs.{capability_in, may_count}
use Rattle.step_ways.specs.kept_facts.proofs.{act_on, KeepsUsers}
use Rattle.std.proofs.lemmas.List.Elements.{All-nil, All-cons, All-head, All-tail, All-append}
use Rattle.step_ways.specs.act_fits.proofs.{DuesFit.few_dues, DuesFit.due_small}
use Rattle.step_ways.specs.core_invariant.specs.{Knows.pin_core, Knows.HasRead, Reaching.IsRemoval}
use Rattle.step_ways.specs.kept_facts.proofs.KeptReads.{KeepsThreads, claimed_in, ReadsSame, freezes_at, reads_counts, due_pairs}
use low.Refusals.{IsRefusing, ticks_in, raced_knowing, busy_knowing}
use Rattle.count_invariant.proofs.SwitchCounts.{switch_of, switch_counts, switch_due_footprint, switch_left}
use Rattle.count_invariant.proofs.StackCounts.{invoke_counts, invoke_footprint, invoking_due, returning_due, top_footprint}
use Rattle.count_invariant.proofs.ActBares.{acquired_bares, committed_bares}
use Rattle.count_invariant.proofs.ActHolds.{SparesSwept, undo_holds, act_count}
use Rattle.step_ways.specs.core_invariant.proofs.Keepings.{act_over}
use Rattle.count_invariant.proofs.CompCounts.{comp_call, comp_counts, comp_due_footprint, comp_left}
use Rattle.count_invariant.proofs.MakingCounts.{no_due, made_counts, made_changes, made_argument, due_footprint, made_left, due_named}
use Rattle.count_invariant.proofs.SweepCounts.{sweep_counts, sweep_footprint, sweep_left, sweep_spares}
use Rattle.count_invariant.proofs.KillingCounts.{kill_counts, kill_footprint, killing_due}
use Rattle.count_invariant.proofs.PutCounts.{put_counts, put_footprint}
use Rattle.count_invariant.proofs.DueLists.{get_after, get_none, after_none, after_one, map_more, map_length, not_acquired}
use Rattle.{plan_ways.specs.kernel_history.specs.Footprint.frame_of_cap}
use Rattle.{step_ways.specs.stage_pins.specs.declared.pin.Pin.TheVariants.AtCompare}
use Rattle.{step_ways.specs.stage_pins.proofs.PinLemmas.changed_none, plan_ways.specs.Laws.IsTargetOf}
use Rattle.{step_ways.specs.act_states.specs.declared.work.Act.Act as ActOf, step_ways.specs.call_stages.specs.Steps.gives_up}
use Rattle.{plan_ways.specs.kernel_history.proofs.OwnCounts.own_counts, step_ways.specs.kept_facts.proofs.Swept.LeavesFrame}
use Rattle.{count_invariant.proofs.Findings.found_named}
use Rattle.plan_ways.specs.frame_words.proofs.CountLemmas as counts
use Rattle.step_ways.proofs.Counting as counters

-- The count of one frame is due once.
pub one_apart : (ds : List Due) → length ds ≤ 1 → AreDuesApart ds
one_apart [] few = tt
one_apart (d ∷ []) few = (All-nil (λ x. d.frame ≢ x.frame), tt)
one_apart (d ∷ e ∷ ds) few = absurd (omega arith)

-- What a call knows that has acquired the first of the counts which its act changes: it acquires the next, or goes on to its act.
pub knows_next : (setup : Setting) (t : Trace) (c table : ℕ) (a : ActiveCall) (core : ℕ) (act : ActOf) (rest : List Due) → core ≡ c
    → KnowsAct setup t c a.call (plan_for a.call) a.found setup.cores act
    → dues act ≡ map due_of a.counts ++ rest → AreDuesApart (dues act) → (n : ℕ) → n ≡ length a.counts → is_counting act ≡ true
    → goes_on act ≡ true → KnowsWork setup t c table a (next_work core n act)
knows_next setup t c table a core act [] own knows prefix apart n is starts goes =
    subst (λ o. KnowsWork setup t c table a (acquires core act o))
    (sym (ap (slice_get (dues act)) (is ∙ sym (map_length a.counts)) ∙ ap (λ ds. slice_get ds (length (map due_of a.counts))) prefix ∙
    get_none (map due_of a.counts)))
    (record { knows = knows; all = prefix ∙ after_none (map due_of a.counts); goes = goes })
knows_next setup t c table a core act (d ∷ ds) own knows prefix apart n is starts goes =
    subst (λ o. KnowsWork setup t c table a (acquires core act o))
    (sym (ap (slice_get (dues act)) (is ∙ sym (map_length a.counts)) ∙ ap (λ ds. slice_get ds (length (map due_of a.counts))) prefix ∙
    get_after (map due_of a.counts) d ds))
    (record {
      knows = knows;
      rest = ds;
      due = prefix;
      apart = apart;
      core = own;
      new = not_acquired a.counts d ds (subst AreDuesApart prefix apart) c;
      loaded = tt;
      starts = starts;
    })

acquires_holds : (core : ℕ) (act : ActOf) (o : Option Due) (h : Holding) → holds_work (acquires core act o) h ≡ holds_act act h
acquires_holds core act None h = refl
acquires_holds core act (Some due) h = refl

pub next_holds : (core n : ℕ) (act : ActOf) (h : Holding) → holds_work (next_work core n act) h ≡ holds_act act h
next_holds core n act h = acquires_holds core act (slice_get (dues act) n) h

-- An act that acquires counts freezes no counter.
counting_unread : (act : ActOf) → is_counting act ≡ true → reads_counts act ≡ false
counting_unread (untype_act m) is = by m.at is
  where
    by : (at : UntypingAt) → is_drawing at ≡ true → freezes_at at ≡ false
    by (UntypingAt.Sweep word w) is = absurd (false≢true is)
    by _ is = refl
counting_unread act is = refl

-- An act that changes a count charges no ticks.
counts_plain : (act : ActOf) (before : List Due) (due : Due) (rest : List Due) → dues act ≡ before ++ due ∷ rest → ticks_in act ≡ false
counts_plain (tick_act charge) before due rest is = absurd (no_due before due rest is)
counts_plain act before due rest is = refl

-- The word of an acquired count stands for the word that was found.
stands_found : (frame core : ℕ) (count change : ℤ) (stamp : ℕ) → CountFits (unheld count stamp)
    → committed None (record { pin = pinned_at frame core count stamp; change = change }) ≡ word_of_count (unheld count stamp)
stands_found frame core count change stamp fits = ap (λ z. word_of_count (unheld z stamp)) (changed_none count fits.1)

some_inj : (x y : ℕ) → Some x ≡ Some y → x ≡ y
some_inj x y h = cc

none_some : (x : ℕ) → None ≡ Some x → ⊥
none_some x h = cc

-- A count is not the clock.
not_clock : (f d : ℕ) → ClockAt ≢ CountAt f d
not_clock f d h = cc

-- What a count stands for when its call is decided is what its commit stores.
stored_by : (r : Reply) (drawn : Option ℕ) (x : Acquired)
    → committed (done_by r drawn) x ≡ word_of_count (settled_word (commit_of (is_ok r) drawn x))
stored_by (Reply.Ok v) drawn x = refl
stored_by r drawn x = refl

-- A call acquires a count.
module _ (setup : Setting) (setting : IsSetting setup) (cores : ℕ → Core) (t : Trace) (stands : Invariant setup cores t) (c : ℕ)
    (here : c < setup.cores)
    (a : ActiveCall) (active : (cores c).active ≡ Some a) (frame d : ℕ) (pin : Pin) (change : ℤ) (act : ActOf)
    (frame_is : pin_frame pin ≡ frame) (core_is : pin_core pin ≡ d)
    (stage_is : a.stage ≡ Undecided (Acquire pin change act)) (has : KnowsUndecided setup t c (cores c).own.table a
    (Acquire pin change act))
    (counting : IsTrue (counts_references a.call)) (footprint : (b : ℕ) → IsInFootprint c a.call (CountAt frame b) (state_after setup t))
    (left : (e : Step) → IsRefusing setup t c e
    → KnowsTail setup (e ∷ t) c a.call a.counts (undo act)) (spares : SparesSwept act frame) where
  abbrev s : State
  s = state_after setup t

  abbrev at : Word
  at = CountAt frame d

  abbrev was : ℕ
  was = last_left setup t at

  own_core : d ≡ c
  own_core = sym core_is ∙ has.knows.core

  -- the count is its core's own
  moved : IsTrue (may_count c a.call frame d)
  moved = own_counts a.call frame c d own_core counting

  held_is : holds_in (Some a) ≡ holds_act act (holds_counts None a.counts)
  held_is = ap (λ s. holds_at s a.counts) stage_is

  -- what a refusal has to store
  undone : holds_tail (undo act) (holds_counts None a.counts) ≡ holds_in (Some a)
  undone = undo_holds act (holds_counts None a.counts) has.knows.starts ∙ sym held_is

  opens : phase_at a.call a.stage ≡ Open a.call
  opens = ap (phase_at a.call) stage_is

  is_open : phase t c ≡ Open a.call
  is_open = (call_is setup setting cores t stands c here a active).phase ∙ opens

  room : (cores c).own.made < (cores c).own.limit
  room = subst (HasRoom (cores c).own.made (cores c).own.limit) stage_is (is_active setup setting cores t stands c here a active).room

  few : length a.counts < 4
  few =
      let waits : length a.counts < length (dues act) = subst (CountsAt a.counts) stage_is
      (is_active setup setting cores t stands c here a active).counts in
      let four = few_dues act in
      omega (arith, waits, four)

  -- the core has not acquired it yet
  new : (holds_counts None a.counts).marks at ≡ false
  new = subst (λ (f : ℕ). (holds_counts None a.counts).marks (CountAt f d) ≡ false) frame_is
      (subst (λ (e : ℕ). (holds_counts None a.counts).marks (CountAt (pin_frame pin) e) ≡ false) (sym own_core)
      has.knows.new)

  bare_here : (holds_in (Some a)).marks at ≡ false
  bare_here = ap (λ h. h.marks at) held_is ∙ (act_count act (holds_counts None a.counts) frame d spares).0 ∙ new

  -- the word of a count that carries no mark
  says : marked_by setup t at ≡ None → SaysCount (count_of_word was)
  says is = subst (λ o. SaysCount (count_of_word (settled_by o (held_by cores) at was))) is (stands.words at)

  -- a step on it leaves what was read of entries and of frames' words
  kept : (e : Step) → c ≡ e.core → e.enters ≡ None → word_of e.move ≡ at → (w : Word) → w ≢ at → own_read (e ∷ t) c w ≡ own_read t c w
  kept e own none is w apart =
      own_read-there c e t own w (λ h. apart (h ∙ is)) ∙ ap (λ o. cond (is_some o) None (own_read t c w)) none

  reads_kept : (e : Step) → c ≡ e.core → e.enters ≡ None → word_of e.move ≡ at → KeepsUsers setup t e c
      → ((f : ℕ) → LeavesFrame (state_after setup t) (state_after setup (e ∷ t)) f)
      → KeepsThreads setup t e c (λ f. claimed_in act f) → ReadsSame setup t e c act
  reads_kept e own none is users rests threads = record {
    entries = λ f i. kept e own none is (EntryAt f i) (entry_apart f i);
    frames = λ f. kept e own none is (FrameAt f) (frame_apart f);
    numbers = λ l. kept e own none is (LiveAt l) (number_apart l);
    stored = λ f i marked. last_left-there setup (EntryAt f i) e t (λ h. entry_apart f i (h ∙ is));
    users = users;
    counts = λ freezes. absurd (false≢true (sym (counting_unread act has.knows.starts) ∙ freezes));
    rests = λ f looked. rests f;
    threads = threads;
    pairs = due_pairs setup t e c act (map due_of a.counts)
        (record { frame = pin_frame pin; change = change }) has.knows.rest has.knows.due;
  }
    where
      entry_apart : (f i : ℕ) → EntryAt f i ≢ at
      entry_apart f i h = cc

      frame_apart : (f : ℕ) → FrameAt f ≢ at
      frame_apart f h = cc

      number_apart : (l : ℕ) → LiveAt l ≢ at
      number_apart l h = cc

  -- a load of it leaves all counts
  loaded_same : (f k : ℕ) → last_left setup (step_to c None (LoadOf at) was None None ∷ t) (CountAt f k) ≡ last_left setup t (CountAt f k)
  loaded_same f k = elim (cases_word (CountAt f k) at) [
    | inl is ↦ last_left-here setup (CountAt f k) (step_to c None (LoadOf at) was None None) t is ∙ ap (last_left setup t) (sym is)
    | inr other ↦ last_left-there setup (CountAt f k) (step_to c None (LoadOf at) was None None) t other
  ]

  -- it charges no ticks
  plain : ticks_at a.stage ≡ false
  plain = ap ticks_at stage_is ∙ counts_plain act (map due_of a.counts) (record { frame = pin_frame pin; change = change })
      has.knows.rest has.knows.due

  -- it is held by another core
  held_good : (b : ℕ) → marked_by setup t at ≡ Some b → GoodTook setup cores t c (LoadOf at) (landed a (gives_up (Refusal.Busy b) act))
  held_good b mark = busy_knowing setup setting cores t stands c here a active opens (undo act) undone left room (LoadOf at)
      (record { of_call = record { moves = moved; footprint = inl (footprint d) }; kept = refl; apart = λ e. refl })
      plain b bare_here mark tt

  -- it is loaded, and held by none
  free_good : (count : ℤ) (stamp : ℕ) → count_of_word was ≡ Some (unheld count stamp) → pin ≡ AtLoad frame d
      → GoodTook setup cores t c (LoadOf at) (landed a (Goes (Acquire (AtCompare frame d count stamp) change act)))
  free_good count stamp reads is lands =
      let e : Step = step_to c None (LoadOf at) was None None in
      let spells = counts.spelling.spells was (unheld count stamp) reads in
      loads_on setup setting cores t stands c here a active (LoadOf at) a.found
      (Undecided (Acquire (AtCompare frame d count stamp) change act))
      (record { of_call = record { moves = moved; footprint = inl (footprint d) }; kept = refl; apart = λ b. refl }) lands
      (sym held_is) opens
      (λ carries. record {
        acts = has.acts;
        names = names_on setup setting t e stands.legal c a.call is_open carries (cores c).own.table (plan_for a.call) a.found has.names;
        knows = record {
          knows = act_on setup setting t e stands.legal c a.call is_open carries a.call (plan_for a.call) a.found setup.cores act
              (reads_kept e refl refl refl (users_kept setup t e c (λ f. refl) (λ f k held. loaded_same f k))
              (λ f. record { frame = refl; place = λ i node. refl })
              (record { guards = λ f has. has; rests = λ f claimed has. refl })) has.knows.knows;
          rest = has.knows.rest;
          due = has.knows.due ∙ ap (λ (f : ℕ). map due_of a.counts ++ record { frame = f; change = change } ∷ has.knows.rest) frame_is;
          apart = has.knows.apart;
          core = own_core;
          new = subst (λ (b : ℕ). (holds_counts None a.counts).marks (CountAt frame b) ≡ false) own_core new;
          loaded = record {
            own = own_read-here c e t refl at refl ∙ ap (λ b. if b then Some was else None) (eq-eqb was was refl) ∙ ap (λ (n : ℕ). Some n)
                (sym spells.1);
            fits = spells.0;
          };
          starts = has.knows.starts;
        };
      })

  -- what the load leads to
  load_good : pin ≡ AtLoad frame d → GoodTook setup cores t c (LoadOf at)
      (landed a (took_count (cores c).own.core (length a.counts) change act (after_load frame d (count_of_word was))
      (load_end (count_of_word was))))
  load_good is = by (count_of_word was) refl
    where
      Goal : Option CountWord → Type 0
      Goal o = GoodTook setup cores t c (LoadOf at) (landed a (took_count (cores c).own.core (length a.counts) change act
          (after_load frame d o) (load_end o)))

      none_says : (o : Option CountWord) → SaysCount o → o ≡ None → ⊥
      none_says None says is = absurd (not_some _ says.says)
        where
          not_some : (v : CountWord) → None ≡ Some v → ⊥
          not_some v h = cc
      none_says (Some v) says is = cc

      by_hold : (h : Hold) (count : ℤ) (stamp : ℕ) → count_of_word was ≡ Some (record { hold = h; count = count; stamp = stamp })
          → Goal (Some (record { hold = h; count = count; stamp = stamp }))
      by_hold Hold.Unheld count stamp reads = free_good count stamp reads is
      by_hold (Hold.Pinned b) count stamp reads = held_good b (ap count_mark reads)
      by_hold (Hold.Closed b) count stamp reads = held_good b (ap count_mark reads)

      by : (o : Option CountWord) → count_of_word was ≡ o → Goal o
      by None reads = absurd (none_says (count_of_word was) (says (ap count_mark reads)) reads)
      by (Some v) reads = by_hold v.hold v.count v.stamp reads

  -- the compare
  module _ (count : ℤ) (stamp : ℕ) (loaded : HasRead t c frame d count stamp) (pin_is : pin ≡ AtCompare frame d count stamp)
      (goes : goes_on act ≡ true) where
    abbrev expected : ℕ
    expected = word_of_count (unheld count stamp)

    abbrev held_word : ℕ
    held_word = word_of_count (acquired d count stamp)

    abbrev compare : Move
    compare = CompareOf at expected held_word

    abbrev x : Acquired
    x = record { pin = pinned_at frame d count stamp; change = change }

    of_call : IsOfCall setup t c a.call compare
    of_call = record { moves = moved; footprint = inl (footprint d) }

    count_lost : (was == expected) ≡ false → GoodTook setup cores t c compare (landed a (gives_up Refusal.Raced act))
    count_lost other =
        raced_knowing setup setting cores t stands c here a active opens (undo act) undone left room compare
        (record { of_call = of_call; kept = kept; apart = λ e. refl }) plain
        (record {
          at = tt;
          reads = eq-eqb (left_of compare was) was kept;
          own = expected;
          has_read = loaded.own;
          changed = eqb-false was
              expected other;
        })
      where
        kept : left_of compare was ≡ was
        kept = ap (λ b. left_if b was held_word) other

    module _ (equal : (was == expected) ≡ true) where
      same : was ≡ expected
      same = eqb-true was expected equal

      leaves : left_of compare was ≡ held_word
      leaves = ap (λ b. left_if b was held_word) equal

      reads : count_of_word was ≡ Some (unheld count stamp)
      reads = ap count_of_word same ∙ counts.spelling.reads (unheld count stamp) loaded.fits

      unmarked : marked_by setup t at ≡ None
      unmarked = ap count_mark reads

      -- a count that the core has marked is another
      won_same : (f k : ℕ) → marked_by setup t (CountAt f k) ≡ Some c
          → last_left setup (inner setup setting cores t stands c here a active compare None None ∷ t) (CountAt f k)
          ≡ last_left setup t (CountAt f k)
      won_same f k held = last_left-there setup (CountAt f k) (inner setup setting cores t stands c here a active compare None None) t
          (λ is. none_some c (sym unmarked ∙ ap (marked_by setup t) (sym is) ∙ held))

      held_fits : CountFits (acquired d count stamp)
      held_fits = (
        (let below : c < setup.cores = here in let most = setting.most_cores in let own = own_core in omega arith),
        loaded.fits.1,
        loaded.fits.2,
      )

      abbrev grown : List Acquired
      grown = a.counts ++ x ∷ []

      abbrev more : List Acquired → ActiveCall
      more xs = went_with a xs (Undecided (next_work (cores c).own.core (length a.counts + 1) act))

      won : Lands setup (core_in_call (cores c) (cores c).own.made (more grown)) at
          → IsGood setup cores t (inner setup setting cores t stands c here a active compare None None)
          (core_in_call (cores c) (cores c).own.made (more grown))
      won lands =
          let e : Step = inner setup setting cores t stands c here a active compare None None in
          let after : Core = core_in_call (cores c) (cores c).own.made (more grown) in
          let after_is : holds after ≡ holds_act act (holds_counts None grown) = next_holds (cores c).own.core (length a.counts + 1) act
          (holds_counts None grown) in
          counters.holds_on setup setting cores t stands c here a active compare (more grown) (λ b. refl) (not_clock frame d)
          refl of_call lands
          (subst (λ (n : ℕ). n < 2 ^ 64) (sym leaves) (counts.spelling.small (acquired d count stamp) held_fits))
          (λ w there.
          let rest = act_over act (holds_counts None grown) (holds_counts None a.counts) w (counters.more_elsewhere None a.counts x w
          there) in
          let before : holds (cores c) ≡ holds_act act (holds_counts None a.counts) = ap holds_in active ∙ held_is in (
            ap (λ h. h.marks w) after_is ∙ rest.0 ∙ sym (ap (λ h. h.marks w) before),
            ap (λ h. h.stands w) after_is ∙ rest.1 ∙ sym
                (ap (λ h. h.stands w) before),
          ))
          (acquired_bares (holds (cores c)) (holds after) act a.counts grown at (ap holds_in active ∙ held_is) after_is)
          (ap (λ (n : ℕ). count_mark (count_of_word n)) leaves ∙ ap count_mark (counts.spelling.reads (acquired d count stamp) held_fits)
          ∙ ap (λ (e : ℕ). Some e) own_core ∙ sym (ap (λ b. if b then Some c else None)
          (ap (λ h. h.marks at) after_is ∙ (act_count act (holds_counts None grown) frame d spares).0
          ∙ counters.more_marked None a.counts x)))
          (λ b other is. none_some b (sym unmarked ∙ is))
          (ap (λ b. settled_by (if b then Some c else None) (held_by (put cores c after)) at (left_of compare was))
          (ap (λ h. h.marks at) after_is ∙ (act_count act (holds_counts None grown) frame d spares).0
          ∙ counters.more_marked None a.counts x)
          ∙ ap (λ k. (holds k).stands at) (put_same cores c after c refl) ∙ ap (λ h. h.stands at) after_is
          ∙ (act_count act (holds_counts None grown) frame d spares).1 ∙ counters.more_stands None a.counts x new
          ∙ stands_found frame d count change stamp loaded.fits ∙ sym same
          ∙ sym (ap (λ o. settled_by o (held_by cores) at was) unmarked))
          opens
          (λ carries. record {
            acts = has.acts;
            names = names_on setup setting t e stands.legal c a.call is_open carries (cores c).own.table (plan_for a.call) a.found
                has.names;
            knows = knows_next setup (e ∷ t) c (cores c).own.table (more grown) (cores c).own.core act has.knows.rest
                (stands.each c here).number
                (act_on setup setting t e stands.legal c a.call is_open carries a.call (plan_for a.call) a.found setup.cores act
                (reads_kept e refl refl refl (users_kept setup t e c (λ f. refl) won_same)
                (λ f. record { frame = refl; place = λ i node. refl })
                (record { guards = λ f has. has; rests = λ f claimed has. refl })) has.knows.knows)
                (has.knows.due ∙ ap (λ (f : ℕ). map due_of a.counts ++ record { frame = f; change = change } ∷ has.knows.rest) frame_is
                ∙ sym (ap (λ ds. ds ++ has.knows.rest) (map_more a.counts x) ∙ after_one (map due_of a.counts) (due_of x) has.knows.rest))
                has.knows.apart
                (length a.counts + 1) (sym (length-append a.counts (x ∷ []))) has.knows.starts goes;
          })
          (All-append (IsCount setup (e ∷ t) c a.call) a.counts (x ∷ [])
          (counts_on setup t e c a.call (λ own. refl) a.counts (call_is setup setting cores t stands c here a active).counts)
          (All-cons (IsCount setup (e ∷ t) c a.call) x [] (record {
            counts = counting;
            core = own_core;
            fits = loaded.fits;
            footprint = was_now (IsInFootprint c a.call at) setup t e c (footprint d);
            small = due_small act (map due_of a.counts) (record { frame = pin_frame pin; change = change }) has.knows.rest has.knows.due;
          }) (All-nil (IsCount setup (e ∷ t) c a.call))))
          (counters.more_apart a.counts x (call_is setup setting cores t stands c here a active).apart new)
          (spares_other setup t (inner setup setting cores t stands c here a active compare None None) (λ f i h. cc))
          (exclusive_elsewhere cores (inner setup setting cores t stands c here a active compare None None) (λ f i h. cc))

      count_won : GoodTook setup cores t c compare (landed a (Acquires x (next_work (cores c).own.core (length a.counts + 1) act)))
      count_won = subst (λ (xs : List Acquired). GoodTook setup cores t c compare (GoesOn (more xs)))
          (sym (ap (λ b. if b then grown else a.counts) (lt-ltb (length a.counts) 4 few))) won

    compare_good : GoodTook setup cores t c compare
        (landed a (took_count (cores c).own.core (length a.counts) change act (AtCompare frame d count stamp)
        (compare_end (was == expected) (pinned_at frame d count stamp))))
    compare_good = by (was == expected) refl
      where
        by : (b : Bool) → (was == expected) ≡ b
            → GoodTook setup cores t c compare (landed a (took_count (cores c).own.core (length a.counts) change act
            (AtCompare frame d count stamp) (compare_end b (pinned_at frame d count stamp))))
        by true equal = count_won equal
        by false other = count_lost other

-- A step by which a call acquires a count is good, where its frame is in the call's footprint.
acquire_footprint : (setup : Setting) → IsSetting setup → (cores : ℕ → Core) (t : Trace) → Invariant setup cores t → (c : ℕ)
    → c < setup.cores
    → (a : ActiveCall) → (cores c).active ≡ Some a
    → (pin : Pin) (change : ℤ) (act : ActOf) → a.stage ≡ Undecided (Acquire pin change act)
    → KnowsUndecided setup t c (cores c).own.table a (Acquire pin change act)
    → IsTrue (counts_references a.call) → ((b : ℕ) → IsInFootprint c a.call (CountAt (pin_frame pin) b) (state_after setup t))
    → ((e : Step) → IsRefusing setup t c e → KnowsTail setup (e ∷ t) c a.call a.counts (undo act))
    → SparesSwept act (pin_frame pin) → goes_on act ≡ true
    → GoodTook setup cores t c (pin_move pin)
    (landed a (took_count (cores c).own.core (length a.counts) change act (pin_after pin (last_left setup t (word_of (pin_move pin))))
    (pin_end pin (last_left setup t (word_of (pin_move pin))))))
acquire_footprint setup setting cores t stands c here a active (AtLoad frame d) change act is has counting footprint left spares goes =
    load_good setup setting cores t stands c here a active frame d
    (AtLoad frame d) change act refl refl is has counting footprint left spares refl
acquire_footprint setup setting cores t stands c here a active (AtCompare frame d count stamp) change act is has counting footprint left
    spares goes =
    compare_good setup setting cores t stands c here a active frame d (AtCompare frame d count stamp) change act refl refl is has counting
    footprint left spares count stamp has.knows.loaded refl goes

-- A call that removes what its target holds changes references and places, raises the clock, and makes no frame untyped: a line a call.
pub removal_counts : (call : Call) → removes_by call ≡ true → IsTrue (counts_references call)
removal_counts (Remove u b) is = refl
removal_counts (Shrink u i) is = refl
removal_counts (Unmap p v) is = refl
removal_counts call is = absurd (false≢true is)

pub removal_places : (call : Call) → removes_by call ≡ true → changes_places call ≡ true
removal_places (Remove u b) is = refl
removal_places (Shrink u i) is = refl
removal_places (Unmap p v) is = refl
removal_places call is = absurd (false≢true is)

pub removal_types : (call : Call) → removes_by call ≡ true → untypes call ≡ false
removal_types (Remove u b) is = refl
removal_types (Shrink u i) is = refl
removal_types (Unmap p v) is = refl
removal_types call is = absurd (false≢true is)

pub removal_raises : (call : Call) → removes_by call ≡ true → IsTrue (raises_clock call)
removal_raises (Remove u b) is = refl
removal_raises (Shrink u i) is = refl
removal_raises (Unmap p v) is = refl
removal_raises call is = absurd (false≢true is)

-- What may be used at a place is what it holds, or held.
usable_is : (p : Place) (waits : Bool) (k : Capability) → usable_in p waits ≡ Some k → capability_in p ≡ Some k
usable_is (Holds j) waits k is = is
usable_is (Removed j) true k is = is
usable_is _ _ k is = absurd (cc)

module _ (setup : Setting) (setting : IsSetting setup) (cores : ℕ → Core) (t : Trace) (stands : Invariant setup cores t) (c : ℕ)
    (here : c < setup.cores)
    (a : ActiveCall) (active : (cores c).active ≡ Some a) (names : NamesAre setup t c (cores c).own.table (plan_for a.call) a.found) where
  abbrev now : State
  now = state_after setup t

  pub plan_leads : Leads (LeadsIn now c) (plan_for a.call).names [] a.found
  plan_leads = leads_by (λ n wanted k. HasFound setup t c (own_in (cores c).own.table n) wanted k) (LeadsIn now c)
      (λ n wanted k had. found_named setup t c (cores c).own.table n wanted k (stands.each c here).works.table had)
      (plan_for a.call).names []
      a.found names

  call_leads : Leads (LeadsIn now c) (plan_for a.call).names [] a.found
  call_leads = plan_leads

  pub goes_by : GoesBy (own_pages now c) (plan_for a.call) (rule_of now c a.call)
  goes_by = calls_go now c a.call

  -- the frame of what is removed is in the footprint
  removed_footprint : (node index : ℕ) (cap : Capability) → IsRemoval setup t c a.call (plan_for a.call) a.found node index cap → (f : ℕ)
      → is_one_of f (named_by cap.kind cap.frame) ≡ true
      → is_one_of f (footprint_frames now c a.call) ≡ true
  removed_footprint node index cap has f names_it = footprint_about now c a.call f
      (one_right f (frames_named now c (rule_of now c a.call)) (frame_at_slot now (target_of now c (rule_of now c a.call)) ++
      frame_argument a.call)
      (one_left f (frame_at_slot now (target_of now c (rule_of now c a.call))) (frame_argument a.call)
      (subst (λ o. is_one_of f (frame_at_slot now o) ≡ true) (sym slot)
      (subst (λ o. is_one_of f (frame_of_cap o) ≡ true) (sym (usable_is (now.place node index) ((now.grace (PlaceOf node index)).waits c)
      cap has.usable)) names_it))))
    where
      slot : target_of now c (rule_of now c a.call) ≡ Some (record { node = node; index = index })
      slot = subst (λ x. IsTargetOf now c x (target_of now c (rule_of now c a.call))) has.next
          (target_is now c (own_pages now c) (plan_for a.call) (rule_of now c a.call) a.found goes_by plan_leads) ∙ has.way.reached

  removal_footprint : (close : Close) (cap : Capability) → KnowsClose setup t c a.call (plan_for a.call) a.found close cap → (f : ℕ)
      → is_one_of f (named_by cap.kind cap.frame) ≡ true
      → is_one_of f (footprint_frames now c a.call) ≡ true
  removal_footprint (close_compare node index word by) cap has = removed_footprint node index cap has.removal
  removal_footprint (AtDraw node index) cap has = removed_footprint node index cap has
  removal_footprint (AtStore node index at) cap has = absurd has

  removal_does : (close : Close) (cap : Capability) → KnowsClose setup t c a.call (plan_for a.call) a.found close cap → removes_by a.call
      ≡ true
  removal_does (close_compare node index word by) cap has = has.removal.removes
  removal_does (AtDraw node index) cap has = has.removes
  removal_does (AtStore node index at) cap has = absurd has

not_true : (b : Bool) → not b ≡ true → b ≡ false
not_true true h = cc
not_true false h = refl

-- The frame of a count that an act changes is in the call's footprint, which is one that changes references.
pub acquire_good : (setup : Setting) → IsSetting setup
    → (cores : ℕ → Core) (t : Trace) → Invariant setup cores t → (c : ℕ) → c < setup.cores
    → (a : ActiveCall) → (cores c).active ≡ Some a
    → (pin : Pin) (change : ℤ) (act : ActOf) → a.stage ≡ Undecided (Acquire pin change act)
    → KnowsUndecided setup t c (cores c).own.table a (Acquire pin change act)
    → GoodTook setup cores t c (pin_move pin)
    (landed a (took_count (cores c).own.core (length a.counts) change act (pin_after pin (last_left setup t (word_of (pin_move pin))))
    (pin_end pin (last_left setup t (word_of (pin_move pin))))))
acquire_good setup setting cores t stands c here a active pin change (fill_act fill) is has =
    acquire_footprint setup setting cores t stands c here a active pin change (fill_act fill) is has
    (put_counts a.call a.found has.knows.knows.read fill.cap has.knows.knows.puts (pin_frame pin)
    (due_named (named_by fill.cap.kind fill.cap.frame) (pos 1) (map due_of a.counts) (record { frame = pin_frame pin; change = change })
    has.knows.rest has.knows.due))
    (λ b. put_footprint (state_after setup t) c a.call a.found has.knows.knows.read fill.cap
    has.knows.knows.puts (call_leads setup setting cores t stands c here a active has.names) (pin_frame pin)
    (due_named (named_by fill.cap.kind fill.cap.frame) (pos 1) (map due_of a.counts) (record { frame = pin_frame pin; change = change })
    has.knows.rest has.knows.due)) (λ e by. tt) tt refl
acquire_good setup setting cores t stands c here a active pin change (map_act fill) is has =
    acquire_footprint setup setting cores t stands c here a active pin change (map_act fill) is has
    (put_counts a.call a.found None fill.cap has.knows.knows.puts (pin_frame pin)
    (due_named (named_by fill.cap.kind fill.cap.frame) (pos 1) (map due_of a.counts) (record { frame = pin_frame pin; change = change })
    has.knows.rest has.knows.due))
    (λ b. put_footprint (state_after setup t) c a.call a.found None fill.cap
    has.knows.knows.puts (call_leads setup setting cores t stands c here a active has.names) (pin_frame pin)
    (due_named (named_by fill.cap.kind fill.cap.frame) (pos 1) (map due_of a.counts) (record { frame = pin_frame pin; change = change })
    has.knows.rest has.knows.due)) (λ e by. tt) tt refl
acquire_good setup setting cores t stands c here a active pin change (remove_act close cap) is has =
    acquire_footprint setup setting cores t stands c here a active pin change (remove_act close cap) is has
    (removal_counts a.call (removal_does setup setting cores t stands c here a active has.names close cap has.knows.knows))
    (λ b. removal_footprint setup setting cores t stands c here a active has.names close cap has.knows.knows (pin_frame pin)
    (due_named (named_by cap.kind cap.frame) (negsuc 0) (map due_of a.counts) (record { frame = pin_frame pin; change = change })
    has.knows.rest has.knows.due)) (λ e by. tt) tt refl
acquire_good setup setting cores t stands c here a active pin change (make_act m) is has =
    acquire_footprint setup setting cores t stands c here a active pin change (make_act m) is has
    (made_counts a.call a.found m has.knows.knows.makes)
    (λ b. due_footprint (state_after setup t) c a.call a.found m has.knows.knows.makes
    (call_leads setup setting cores t stands c here a active has.names) (map due_of a.counts)
    (record { frame = pin_frame pin; change = change }) has.knows.rest has.knows.due)
    (λ e by. made_left setup t (e ∷ t) c a.counts m.frame m.object m.at a.call (made_changes a.call a.found m has.knows.knows.makes)
    (made_argument a.call a.found m has.knows.knows.makes) has.knows.knows.at) tt refl
acquire_good setup setting cores t stands c here a active pin change (invoke_act m) is has =
    acquire_footprint setup setting cores t stands c here a active pin change (invoke_act m) is has
    (invoke_counts a.call a.found m has.knows.knows.invokes)
    (λ b. ap (λ (n : ℕ). is_one_of n (footprint_frames (state_after setup t) c a.call))
    (invoking_due m.comp m.at (map due_of a.counts) (record { frame = pin_frame pin; change = change }) has.knows.rest has.knows.due)
    ∙ invoke_footprint (state_after setup t) c a.call a.found m has.knows.knows.invokes
    (call_leads setup setting cores t stands c here a active has.names)) (λ e by. tt) tt refl
acquire_good setup setting cores t stands c here a active pin change (return_act m) is has =
    acquire_footprint setup setting cores t stands c here a active pin change (return_act m) is has
    (subst (λ x. IsTrue (counts_references x)) (sym has.knows.knows.call_is) refl)
    (λ b. ap (λ (n : ℕ). is_one_of n (footprint_frames (state_after setup t) c a.call))
    (returning_due m.top m.at (map due_of a.counts) (record { frame = pin_frame pin; change = change }) has.knows.rest has.knows.due)
    ∙ top_footprint (state_after setup t) c a.call m.top has.knows.knows.top
    (let fits = (subst (StageFits (cores c).own.layout) is (is_active setup setting cores t stands c here a active).stage).1 in
    let some = fits.some_depth in let same = has.knows.knows.on.depth in omega (arith, some, same))) (λ e by. tt) tt refl
acquire_good setup setting cores t stands c here a active pin change (kill_act m) is has =
    acquire_footprint setup setting cores t stands c here a active pin change (kill_act m) is has
    (kill_counts a.call a.found m.comp has.knows.knows.kills)
    (λ b. ap (λ (n : ℕ). is_one_of n (footprint_frames (state_after setup t) c a.call))
    (killing_due m.comp m.at (map due_of a.counts) (record { frame = pin_frame pin; change = change }) has.knows.rest has.knows.due)
    ∙ kill_footprint (state_after setup t) c a.call a.found m.comp has.knows.knows.kills
    (call_leads setup setting cores t stands c here a active has.names)) (λ e by. tt) tt refl
acquire_good setup setting cores t stands c here a active pin change (untype_act m) is has =
    acquire_footprint setup setting cores t stands c here a active pin change (untype_act m) is has
    (sweep_counts setup setting cores t stands c here a active pin change m is has)
    (sweep_footprint setup setting cores t stands c here a active pin change m is has)
    (λ e by. sweep_left setup setting cores t stands c here a active pin change m is has (e ∷ t))
    (sweep_spares setup setting cores t stands c here a active pin change m is has) refl
acquire_good setup setting cores t stands c here a active pin change (switch_act m) is has =
    let call = switch_of a.call a.found (claimed_by m.at) m.tcap has.knows.knows.switches in
    acquire_footprint setup setting cores t stands c here a active pin change (switch_act m) is has
    (switch_counts a.call a.found (claimed_by m.at) m.tcap has.knows.knows.switches)
    (λ b. switch_due_footprint (state_after setup t) c a.call a.found m has.knows.knows.leaves m.at call
    (call_leads setup setting cores t stands c here a active has.names) (map due_of a.counts)
    (record { frame = pin_frame pin; change = change }) has.knows.rest has.knows.due)
    (λ e by. switch_left setup t e c a.call a.found a.counts m m.at call
    (call_leads setup setting cores t stands c here a active has.names)
    ((call_is setup setting cores t stands c here a active).phase ∙ ap (phase_at a.call) is) by has.knows.knows.thread) tt refl
acquire_good setup setting cores t stands c here a active pin change (comp_act m) is has =
    let of = comp_call a.call a.found m has.knows.knows.makes in
    acquire_footprint setup setting cores t stands c here a active pin change (comp_act m) is has
    (comp_counts a.call a.found m of)
    (λ b. comp_due_footprint (state_after setup t) c a.call a.found m of
    (call_leads setup setting cores t stands c here a active has.names) m.at (map due_of a.counts)
    (record { frame = pin_frame pin; change = change }) has.knows.rest has.knows.due)
    (λ e by. comp_left setup t (e ∷ t) c a.counts a.call a.found m of m.at
    (not_true (comp_meets_number m.at) has.knows.starts) has.knows.knows.at) tt refl
acquire_good setup setting cores t stands c here a active pin change act is has =
    absurd (no_due (map due_of a.counts) (record { frame = pin_frame pin; change = change }) has.knows.rest has.knows.due)

-- A decided call commits its earliest count.
module _ (setup : Setting) (setting : IsSetting setup) (cores : ℕ → Core) (t : Trace) (stands : Invariant setup cores t) (c : ℕ)
    (here : c < setup.cores)
    (a : ActiveCall) (active : (cores c).active ≡ Some a) (r : Reply) (drawn : Option ℕ) (stage_is : a.stage ≡ Decided r drawn Nothing)
    (x : Acquired) (xs : List Acquired) (counts_are : a.counts ≡ x ∷ xs) where
  abbrev stored : ℕ
  stored = word_of_count (settled_word (commit_of (is_ok r) drawn x))

  abbrev store : Move
  store = StoreOf (count_of x) stored

  holds_is : holds (cores c) ≡ holds_counts (done_by r drawn) (x ∷ xs)
  holds_is = ap holds_in active ∙ ap (λ stage. holds_at stage a.counts) stage_is ∙ ap (holds_counts (done_by r drawn)) counts_are

  stored_is : committed (done_by r drawn) x ≡ stored
  stored_is = stored_by r drawn x

  own_mark : marked_by setup t (count_of x) ≡ Some c
  own_mark = (stands.marks (count_of x) c).kept (ap (λ h. h.marks (count_of x)) holds_is ∙ counters.first_marked (done_by r drawn) x xs)

  settles : settled setup (held_by cores) t (count_of x) ≡ stored
  settles = ap (λ o. settled_by o (held_by cores) (count_of x) (last_left setup t (count_of x))) own_mark
      ∙ ap (λ h. h.stands (count_of x)) holds_is ∙ counters.first_stands (done_by r drawn) x xs ∙ stored_is

  stored_says : SaysCount (count_of_word stored)
  stored_says = subst (λ (n : ℕ). SaysCount (count_of_word n)) settles (stands.words (count_of x))

  apart : AreApart (x ∷ xs)
  apart = subst AreApart counts_are (call_is setup setting cores t stands c here a active).apart

  known : All (IsCount setup t c a.call) (x ∷ xs)
  known = subst (All (IsCount setup t c a.call)) counts_are (call_is setup setting cores t stands c here a active).counts

  first : IsCount setup t c a.call x
  first = All-head (IsCount setup t c a.call) x xs known

  bare : (holds_counts (done_by r drawn) xs).marks (count_of x) ≡ false
  bare = same_marks (done_by r drawn) None xs (count_of x) ∙ apart.0

  pub commit_good : GoodTook setup cores t c store (GoesOn (went_with a xs (Decided r drawn Nothing)))
  commit_good lands =
      let next : ActiveCall = went_with a xs (Decided r drawn Nothing) in
      let e : Step = inner setup setting cores t stands c here a active store None None in
      let after : Core = core_in_call (cores c) (cores c).own.made next in
      let spells = counts.spelling.spells stored _ stored_says.says in
      counters.holds_on setup setting cores t stands c here a active store next (λ b. refl)
      (not_clock x.pin.frame x.pin.core) refl
      (record { moves = own_counts a.call x.pin.frame c x.pin.core first.core first.counts; footprint = inr first.footprint }) lands
      (subst (λ (n : ℕ). n < 2 ^ 64) spells.1 (counts.spelling.small _ spells.0))
      (λ w there.
      let rest = counters.rest_elsewhere (done_by r drawn) x xs w there in
      (rest.0 ∙ sym (ap (λ h. h.marks w) holds_is), rest.1 ∙ sym (ap (λ h. h.stands w) holds_is)))
      (committed_bares (holds (cores c)) (holds after) (done_by r drawn) (x ∷ xs) xs (count_of x) holds_is refl)
      (ap count_mark stored_says.says ∙ sym (ap (λ b. if b then Some c else None) bare))
      (λ b other is. other (sym (some_inj c b (sym own_mark ∙ is))))
      (ap (λ b. settled_by (if b then Some c else None) (held_by (put cores c after)) (count_of x) stored) bare ∙ sym settles)
      (ap (phase_at a.call) stage_is) (λ carries. tt)
      (counts_on setup t e c a.call (λ own. refl) xs (All-tail (IsCount setup t c a.call) x xs known))
      apart.1
      (spares_other setup t e (λ f i h. cc)) (exclusive_elsewhere cores e (λ f i h. cc))
