-- The steps by which a call that switches claims a thread are good: the load of the thread's word, which refuses a thread that runs or that
-- another core has claimed; the compare, which is lost or holds the word for the call; and the load of the top of the stack.
use Rattle.thread_invariant.specs.step_ways.proofs.{◌≡◌, ◌≢◌, ◌<◌, ◌^◌, ◌-◌, ◌==◌, inl, inr, ℕ, suc, length, Bool, true, false}
use Rattle.thread_invariant.specs.step_ways.proofs.{if◌then◌else◌, Option, Some, None, IsTrue, arith, refl, sym, ◌∙◌, ap, subst, eqb-true}
use Rattle.thread_invariant.specs.step_ways.proofs.{eqb-false, eq-eqb, lt-ltb, Setting, IsSetting, left_if, stack_of_word, ThreadFits}
use Rattle.thread_invariant.specs.step_ways.proofs.{word_of_thread, thread_of_word, Idle, Running, Word, EntryAt, Move, LoadOf, CompareOf}
use Rattle.thread_invariant.specs.step_ways.proofs.{left_of, word_of, same_same, State, first_of_stack, put, thread_in, fits, put_same}
use Rattle.thread_invariant.specs.step_ways.proofs.{is_one_of, footprint_frames, thread_mark, marked_by, thread_value, Step, Trace}
use Rattle.thread_invariant.specs.step_ways.proofs.{state_after, last_left, own_read, same_word-other, own_read-here, Switching, Act, Goes}
use Rattle.thread_invariant.specs.step_ways.proofs.{Undecided, ActiveCall, GoesOn, landed, went, Core, holds_counts, settled_by}
use Rattle.thread_invariant.specs.step_ways.proofs.{KnowsUndecided, holds, held_by, holds_in, Invariant, HasComp, claimed_by, as_none}
use Rattle.thread_invariant.specs.step_ways.proofs.{counts_bare, none_kept, names_on, counts_on, exclusive_free, Claimed as ClaimedOf}
use Rattle.thread_invariant.specs.step_ways.proofs.{Switch as switch_act, Spared, SparesBlanks, IsOfCall, core_in_call, inner, call_is}
use Rattle.thread_invariant.specs.step_ways.proofs.{GoodTook, refuses_raced, refuses_busy, plan_for, Kind}
use Rattle.thread_invariant.specs.stage_thread.specs.{claim_compared, claimed_within, compared_after, stack_end, thread_after, thread_end}
use Rattle.thread_invariant.specs.act_states.specs.{ThreadWord, AtStack, SwitchAtFits, took_claim}
use Rattle.thread_invariant.specs.core_invariant.specs.{holds_idle, IsTop}
use Rattle.thread_invariant.specs.act_states.specs.stage_tcap.specs.{DepthFits, Claimed}
use Rattle.thread_invariant.specs.act_states.specs.declared.switches.SwitchAt.TheVariants.{LoadTable, Claim}
use Rattle.thread_invariant.specs.stage_thread.specs.declared.claim.Claim.TheVariants.{AtLoad, AtCompare}
use Rattle.thread_invariant.proofs.{CompWords.comp_below, EntryMarks.counts_apart}
use Rattle.switch_invariant.proofs.ThreadWords.{none_some, same_value, thread_is, first_mark, stack_mark, no_node, raced_head, idle_value}
use Rattle.switch_invariant.proofs.Words.{ShowsRun, shows, idle_unkept, plain_says, marked_says, top_comp}
use Rattle.{thread_invariant.specs.core_invariant.proofs.Bare.IsNotKept, thread_invariant.specs.step_ways.proofs.Refusals.refuses_running}
use Rattle.{switch_invariant.proofs.ThreadWords.top_height}
use Rattle.thread_invariant.specs.tcap_words.proofs.ThreadLemmas as words
use Rattle.thread_invariant.specs.step_ways.proofs.Counting as counters
use Rattle.switch_invariant.proofs.Calls as calls

-- A step on a word of a thread spares blank frames and temporal capabilities.
pub spares_thread : (setup : Setting) (t : Trace) (e : Step) (f i : ℕ) → word_of e.move ≡ EntryAt f i
    → IsTrue (fits Kind.Thread ((state_after setup t).frame f))
    → SparesBlanks setup t e
spares_thread setup t e f i at thread g j here =
    subst (λ (n : ℕ). Spared setup t e n j ((state_after setup t).frame n)) (same f i g j (sym at ∙ here))
    (subst (Spared setup t e f j) (sym (thread_is ((state_after setup t).frame f) thread)) tt)
  where
    same : (f i g j : ℕ) → EntryAt f i ≡ EntryAt g j → f ≡ g
    same f i g j h = cc

-- A word of which this is told is kept by none.
pub not_kept : (cores : ℕ → Core) (f i : ℕ) → ((d : ℕ) → (held_by cores d).bare f i ≡ None) → IsNotKept (held_by cores) (EntryAt f i)
not_kept cores f i none g j at d =
    subst (λ (n : ℕ). (held_by cores d).bare n j ≡ None) (same_frame f i g j at)
    (subst (λ (n : ℕ). (held_by cores d).bare f n ≡ None) (same_index f i g j at) (none d))
  where
    same_frame : (f i g j : ℕ) → EntryAt f i ≡ EntryAt g j → f ≡ g
    same_frame f i g j h = cc

    same_index : (f i g j : ℕ) → EntryAt f i ≡ EntryAt g j → i ≡ j
    same_index f i g j h = cc

module _ (setup : Setting) (setting : IsSetting setup) (cores : ℕ → Core) (t : Trace) (stands : Invariant setup cores t) (c : ℕ)
    (here : c < setup.cores)
    (a : ActiveCall) (active : (cores c).active ≡ Some a) (m : Switching) (stage_is : a.stage ≡ Undecided (Act (switch_act m)))
    (has : KnowsUndecided setup t c (cores c).own.table a (Act (switch_act m))) where
  abbrev s : State
  s = state_after setup t

  -- the load of the thread's word
  module _ (f by : ℕ) (is : m.at ≡ Claim (AtLoad f by)) where
    abbrev was : ℕ
    was = last_left setup t (EntryAt f 0)

    thread_at : IsTrue (fits Kind.Thread ((state_after setup t).frame f))
    thread_at = subst (λ at. IsTrue (fits Kind.Thread (s.frame (claimed_by at)))) is has.knows.knows.thread.thread

    footprint_it : is_one_of f (footprint_frames s c a.call) ≡ true
    footprint_it = subst (λ at. is_one_of (claimed_by at)
        (footprint_frames s c a.call) ≡ true) is
        (calls.footprint setup setting cores t stands c here a active m stage_is has)

    held_is : holds_in (Some a) ≡ holds_counts None a.counts
    held_is = calls.held_at setup setting cores t stands c here a active m stage_is has (Claim (AtLoad f by)) is

    mark_is : marked_by setup t (EntryAt f 0) ≡ thread_mark (thread_of_word was)
    mark_is = first_mark (s.frame f) was thread_at

    runs_at : (o : Option ℕ) → (thread_in (s.frame f)).runs_on ≡ o → (thread_in (s.frame (claimed_by m.at))).runs_on ≡ o
    runs_at o so = ap (λ at. (thread_in (s.frame (claimed_by at))).runs_on) is ∙ so

    abbrev Goal : Option ThreadWord → Type 0
    Goal o = GoodTook setup cores t c (LoadOf (EntryAt f 0)) (landed a (took_claim m (thread_after f by o) (thread_end o)))

    idle_good : (depth : ℕ) → thread_of_word was ≡ Some (Idle depth) → Goal (Some (Idle depth))
    idle_good depth says =
        let spells = words.spelling.spells was (Idle depth) says in
        let e : Step = calls.load setup setting cores t stands c here a active m stage_is has f 0 in
        calls.goes_on_to setup setting cores t stands c here a active m stage_is has f 0 footprint_it (Claim (AtCompare f by depth))
        (sym (ap claimed_by is)) (sym held_is)
        ((
          calls.known_at setup setting cores t stands c here a active m stage_is has (Claim (AtLoad f by)) is,
          own_read-here c e t refl (EntryAt f 0) refl ∙ ap (λ b. if b then Some was else None) (eq-eqb was was refl)
              ∙ ap (λ (n : ℕ). Some n) (sym spells.1),
        ))
        (calls.dues_at setup setting cores t stands c here a active m stage_is has (Claim (AtLoad f by)) is)

    running_good : (e depth : ℕ) → thread_of_word was ≡ Some (Running e depth) → Goal (Some (Running e depth))
    running_good e depth says =
        refuses_running setup setting cores t stands c here a active
        (calls.opens setup setting cores t stands c here a active m stage_is has) held_is
        (calls.room setup setting cores t stands c here a active m stage_is has) (LoadOf (EntryAt f 0))
        (calls.looks_at setup setting cores t stands c here a active m stage_is has f 0 footprint_it) e has.acts
        (calls.may_run setup setting cores t stands c here a active m stage_is has e (runs_at (Some e) runs))
        (λ nobody. calls.by_runs setup setting cores t stands c here a active m stage_is has (Some e) (runs_at (Some e) runs))
      where
        bare : marked_by setup t (EntryAt f 0) ≡ None
        bare = mark_is ∙ ap thread_mark says

        by_run : (o : Option ℕ) → (thread_in (s.frame f)).runs_on ≡ o → ShowsRun o (length (thread_in (s.frame f)).stack) was
            → (thread_in (s.frame f)).runs_on ≡ Some e
        by_run None so shown = absurd (unlike (same_value _ _ (sym shown ∙ says)))
          where
            unlike : Idle (length (thread_in (s.frame f)).stack) ≡ Running e depth → ⊥
            unlike h = cc
        by_run (Some d) so shown = so ∙ ap (λ (n : ℕ). Some n) (same d shown.depth (same_value _ _ (sym shown.says ∙ says)))
          where
            same : (d n : ℕ) → Running d n ≡ Running e depth → d ≡ e
            same d n h = cc

        runs : (thread_in (s.frame f)).runs_on ≡ Some e
        runs = by_run (thread_in (s.frame f)).runs_on refl
            (shows setup setting cores t stands f thread_at (thread_in (s.frame f)).runs_on refl bare)

    claimed_good : (d depth : ℕ) → thread_of_word was ≡ Some (Claimed d depth) → Goal (Some (Claimed d depth))
    claimed_good d depth says =
        refuses_busy setup setting cores t stands c here a active
        (calls.opens setup setting cores t stands c here a active m stage_is has) held_is
        (calls.room setup setting cores t stands c here a active m stage_is has) (LoadOf (EntryAt f 0))
        (calls.looks_at setup setting cores t stands c here a active m stage_is has f 0 footprint_it)
        (calls.plain setup setting cores t stands c here a active m stage_is has) d
        (counts_apart None a.counts f 0) (mark_is ∙ ap thread_mark says) (λ node. absurd (no_node (s.frame f) thread_at node))

    none_good : thread_of_word was ≡ None → ⊥
    none_good says = by_run (thread_in (s.frame f)).runs_on
        (shows setup setting cores t stands f thread_at (thread_in (s.frame f)).runs_on refl (mark_is ∙ ap thread_mark says))
      where
        not_some : (v : ThreadWord) → None ≡ Some v → ⊥
        not_some v h = cc

        by_run : (o : Option ℕ) → ShowsRun o (length (thread_in (s.frame f)).stack) was → ⊥
        by_run None shown = not_some (Idle (length (thread_in (s.frame f)).stack)) (sym says ∙ shown)
        by_run (Some d) shown = not_some (Running d shown.depth) (sym says ∙ shown.says)

    by_word : (o : Option ThreadWord) → thread_of_word was ≡ o → Goal o
    by_word None says = absurd (none_good says)
    by_word (Some (Idle depth)) says = idle_good depth says
    by_word (Some (Running e depth)) says = running_good e depth says
    by_word (Some (Claimed d depth)) says = claimed_good d depth says

    pub load_good : GoodTook setup cores t c (LoadOf (EntryAt f 0))
        (landed a (took_claim m (thread_after f by (thread_of_word was)) (thread_end (thread_of_word was))))
    load_good = by_word (thread_of_word was) refl

  -- the compare
  module _ (f by depth : ℕ) (is : m.at ≡ Claim (AtCompare f by depth)) where
    abbrev at : Word
    at = EntryAt f 0

    abbrev found : ℕ
    found = last_left setup t (EntryAt f 0)

    abbrev expected : ℕ
    expected = word_of_thread (Idle depth)

    abbrev claimed_word : ℕ
    claimed_word = word_of_thread (Claimed by depth)

    abbrev compare : Move
    compare = CompareOf (EntryAt f 0) (word_of_thread (Idle depth)) (word_of_thread (Claimed by depth))

    is_thread : IsTrue (fits Kind.Thread (s.frame f))
    is_thread = subst (λ x. IsTrue (fits Kind.Thread (s.frame (claimed_by x)))) is has.knows.knows.thread.thread

    is_in_it : is_one_of f (footprint_frames s c a.call) ≡ true
    is_in_it = subst (λ x. is_one_of (claimed_by x) (footprint_frames s c a.call) ≡ true) is
        (calls.footprint setup setting cores t stands c here a active m stage_is has)

    counts_held : holds_in (Some a) ≡ holds_counts None a.counts
    counts_held = calls.held_at setup setting cores t stands c here a active m stage_is has (Claim (AtCompare f by depth)) is

    known : (by ≡ c) × (own_read t c (EntryAt f 0) ≡ Some (word_of_thread (Idle depth)))
    known = calls.known_at setup setting cores t stands c here a active m stage_is has (Claim (AtCompare f by depth)) is

    depth_fits : DepthFits depth
    depth_fits = (subst (SwitchAtFits (cores c).own.layout) is
        (calls.fits_in setup setting cores t stands c here a active m stage_is has).at).1

    of_call : IsOfCall setup t c a.call compare
    of_call = record {
      moves = calls.changes_it setup setting cores t stands c here a active m stage_is has f is_thread;
      footprint = inl is_in_it;
    }

    mark_shows : marked_by setup t (EntryAt f 0) ≡ thread_mark (thread_of_word found)
    mark_shows = first_mark (s.frame f) found is_thread

    lost : (found == expected) ≡ false
        → GoodTook setup cores t c compare (landed a (took_claim m (compared_after false f by depth) (claim_compared false)))
    lost other =
        refuses_raced setup setting cores t stands c here a active
        (calls.opens setup setting cores t stands c here a active m stage_is has) counts_held
        (calls.room setup setting cores t stands c here a active m stage_is has) compare
        (record { of_call = of_call; kept = kept; apart = λ d. refl })
        (calls.plain setup setting cores t stands c here a active m stage_is has)
        (record {
          at = inr (raced_head (s.frame f) is_thread, refl);
          reads = eq-eqb (left_of compare found) found kept;
          own = expected;
          has_read = known.1;
          changed = eqb-false found expected other;
        })
      where
        kept : left_of compare found ≡ found
        kept = ap (λ b. left_if b found claimed_word) other

    module _ (equal : (found == expected) ≡ true) where
      same : found ≡ expected
      same = eqb-true found expected equal

      leaves : left_of compare found ≡ claimed_word
      leaves = ap (λ b. left_if b found claimed_word) equal

      says : thread_of_word found ≡ Some (Idle depth)
      says = ap thread_of_word same ∙ words.spelling.reads (Idle depth) depth_fits

      bare : marked_by setup t (EntryAt f 0) ≡ None
      bare = mark_shows ∙ ap thread_mark says

      -- the thread runs nowhere, so no core keeps its word
      runs_none : (o : Option ℕ) → (thread_in (s.frame f)).runs_on ≡ o → ShowsRun o (length (thread_in (s.frame f)).stack) found
          → (thread_in (s.frame f)).runs_on ≡ None
      runs_none None so shown = so
      runs_none (Some d) so shown = absurd (unlike d shown.depth (same_value (Running d shown.depth) (Idle depth) (sym shown.says ∙ says)))
        where
          unlike : (d n : ℕ) → Running d n ≡ Idle depth → ⊥
          unlike d n h = cc

      unkept : (d : ℕ) → (held_by cores d).bare f 0 ≡ None
      unkept = idle_unkept setup setting cores t stands f is_thread
          (runs_none (thread_in (s.frame f)).runs_on refl
          (shows setup setting cores t stands f is_thread (thread_in (s.frame f)).runs_on refl bare)) 0

      claimed_fits : ThreadFits (Claimed by depth)
      claimed_fits = (
        (let below : c < setup.cores = here in let most = setting.most_cores in let own = known.0 in omega (arith, below, most, own)),
        depth_fits,
      )

      abbrev next : ActiveCall
      next = went a (Undecided (Act (switch_act (record m { at = Claim (AtStack f depth) }))))

      abbrev after : Core
      after = core_in_call (cores c) (cores c).own.made next

      held_before : holds (cores c) ≡ holds_counts None a.counts
      held_before = ap holds_in active ∙ counts_held

      marks_it : (holds after).marks (EntryAt f 0) ≡ true
      marks_it = ap (λ b. if b then true else (holds_counts None a.counts).marks (EntryAt f 0)) (same_same (EntryAt f 0))

      won : GoodTook setup cores t c compare (GoesOn next)
      won lands =
          let e : Step = inner setup setting cores t stands c here a active compare None None in
          let is_open = calls.is_open setup setting cores t stands c here a active m stage_is has in
          counters.holds_on setup setting cores t stands c here a active compare next (λ b. refl) (λ h. cc) refl of_call lands
          (subst (λ (n : ℕ). n < 2 ^ 64) (sym leaves) (words.spelling.small (Claimed by depth) claimed_fits))
          (λ w there. (
            ap (λ b. if b then true else (holds_counts None a.counts).marks w) (same_word-other w at there) ∙ sym
                (ap (λ h. h.marks w) held_before),
            ap (λ b. if b then expected else (holds_counts None a.counts).stands w) (same_word-other w at there) ∙ sym
                (ap (λ h. h.stands w) held_before),
          ))
          (as_none (holds (cores c)) (holds after) at (λ g i. ap (λ h. h.bare g i) held_before ∙ counts_bare None a.counts g i)
          (counts_bare None a.counts))
          (first_mark (s.frame f) (left_of compare found) is_thread ∙ ap (λ (n : ℕ). thread_mark (thread_of_word n)) leaves
          ∙ ap thread_mark (words.spelling.reads (Claimed by depth) claimed_fits)
          ∙ ap (λ (n : ℕ). Some n) known.0 ∙ sym (ap (λ b. if b then Some c else None) marks_it))
          (λ b other mark. none_some b (sym bare ∙ mark))
          (ap (λ b. settled_by (if b then Some c else None) (held_by (put cores c after)) at (left_of compare found)) marks_it
          ∙ ap (λ k. (holds k).stands at) (put_same cores c after c refl)
          ∙ ap (λ b. if b then expected else (holds_counts None a.counts).stands at) (same_same at)
          ∙ sym same ∙ sym (ap (λ o. settled_by o (held_by cores) at found) bare ∙ none_kept 8 (held_by cores) f 0 found unkept))
          (calls.opens setup setting cores t stands c here a active m stage_is has)
          (λ carries. record {
            acts = has.acts;
            names = names_on setup setting t e stands.legal c a.call is_open carries (cores c).own.table (plan_for a.call) a.found
                has.names;
            knows = record {
              knows = calls.carried setup setting cores t stands c here a active m stage_is has compare (Claim (AtStack f depth))
                  (sym (ap claimed_by is)) tt;
              all = calls.dues_at setup setting cores t stands c here a active m stage_is has (Claim (AtCompare f by depth)) is;
              goes = refl;
            };
          })
          (counts_on setup t e c a.call (λ own. refl) a.counts (call_is setup setting cores t stands c here a active).counts)
          (call_is setup setting cores t stands c here a active).apart
          (spares_thread setup t e f 0 refl is_thread)
          (exclusive_free cores e (not_kept cores f 0 unkept))

    pub compare_good : GoodTook setup cores t c compare
        (landed a (took_claim m (compared_after (found == expected) f by depth) (claim_compared (found == expected))))
    compare_good = by_test (found == expected) refl
      where
        by_test : (equal : Bool) → (found == expected) ≡ equal
            → GoodTook setup cores t c compare (landed a (took_claim m (compared_after equal f by depth) (claim_compared equal)))
        by_test true same = won same
        by_test false other = lost other

  -- the load of the top of its stack
  module _ (f depth : ℕ) (is : m.at ≡ Claim (AtStack f depth)) where
    fit : IsTrue (fits Kind.Thread (s.frame f))
    fit = subst (λ x. IsTrue (fits Kind.Thread (s.frame (claimed_by x)))) is has.knows.knows.thread.thread

    abbrev top : ℕ
    top = first_of_stack (thread_in (s.frame f)).stack

    abbrev to : ClaimedOf
    to = record { thread = f; depth = depth; comp = top }

    idle_held : holds_in (Some a) ≡ holds_idle f depth (holds_counts None a.counts)
    idle_held = calls.held_at setup setting cores t stands c here a active m stage_is has (Claim (AtStack f depth)) is

    mark : marked_by setup t (EntryAt f 0) ≡ Some c
    mark = (stands.marks (EntryAt f 0) c).kept (ap (λ h. h.marks (EntryAt f 0)) (ap holds_in active ∙ idle_held)
        ∙ ap (λ b. if b then true else (holds_counts None a.counts).marks (EntryAt f 0)) (same_same (EntryAt f 0)))

    idle_says : thread_of_word (word_of_thread (Idle depth))
        ≡ Some (thread_value (thread_in (s.frame f)).runs_on (length (thread_in (s.frame f)).stack))
    idle_says = ap thread_of_word (sym (ap (λ h. h.stands (EntryAt f 0)) (ap holds_in active ∙ idle_held)
        ∙ ap (λ b. if b then word_of_thread (Idle depth) else (holds_counts None a.counts).stands (EntryAt f 0)) (same_same (EntryAt f 0))))
        ∙ marked_says setup setting cores t stands f fit 0 c mark

    fits_depth : DepthFits depth
    fits_depth = (subst (SwitchAtFits (cores c).own.layout) is
        (calls.fits_in setup setting cores t stands c here a active m stage_is has).at).1

    value : (thread_in (s.frame f)).runs_on ≡ None × length (thread_in (s.frame f)).stack ≡ depth
    value = idle_value (thread_in (s.frame f)).runs_on (length (thread_in (s.frame f)).stack) depth
        (same_value _ _ (sym idle_says ∙ words.spelling.reads (Idle depth) fits_depth))

    index : depth ≡ suc (depth - 1)
    index = let some = fits_depth.0 in omega (arith, some)

    low : depth - 1 < 16
    low = let most = fits_depth.1 in let some = fits_depth.0 in omega (arith, most, some)

    top_says : stack_of_word (last_left setup t (EntryAt f depth)) ≡ Some (record { 0 = Some top })
    top_says = ap (λ (n : ℕ). stack_of_word (last_left setup t (EntryAt f n))) index
        ∙ plain_says setup setting cores t stands f fit (suc (depth - 1))
        (stack_mark (s.frame f) (depth - 1) (last_left setup t (EntryAt f (suc (depth - 1)))) fit)
        (idle_unkept setup setting cores t stands f fit value.0 (suc (depth - 1))) low
        ∙ ap (λ (o : Option ℕ). Some (record { 0 = o })) (top_height (thread_in (s.frame f)).stack (depth - 1) (value.1 ∙ index))

    -- the component at the top is there, and the thread names it
    has_top : HasComp s c top
    has_top = top_comp setup setting t stands.legal c f fit (let some = fits_depth.0 in let same = value.1 in omega (arith, some, same))

    within : top < m.frames
    within = let low = comp_below setup setting cores t stands top has_top.comp in
        let same = calls.frames_are setup setting cores t stands c here a active m stage_is has in omega (arith, low, same)

    at_top : IsTop s c to
    at_top = record { top = refl; comp = has_top }

    goes : GoodTook setup cores t c (LoadOf (EntryAt f depth)) (landed a (Goes (Act (switch_act (record m { at = LoadTable to })))))
    goes = calls.goes_on_to setup setting cores t stands c here a active m stage_is has f depth
        (subst (λ x. is_one_of (claimed_by x) (footprint_frames s c a.call) ≡ true) is
        (calls.footprint setup setting cores t stands c here a active m stage_is has)) (LoadTable to)
        (sym (ap claimed_by is)) (sym idle_held) at_top
        (calls.dues_at setup setting cores t stands c here a active m stage_is has (Claim (AtStack f depth)) is)

    pub stack_good : GoodTook setup cores t c (LoadOf (EntryAt f depth))
        (landed a (took_claim m (AtStack f depth) (stack_end m.frames f depth (stack_of_word (last_left setup t (EntryAt f depth))))))
    stack_good = subst (λ o. GoodTook setup cores t c (LoadOf (EntryAt f depth))
        (landed a (took_claim m (AtStack f depth) (stack_end m.frames f depth o))))
        (sym top_says)
        (subst (λ b. GoodTook setup cores t c (LoadOf (EntryAt f depth)) (landed a (took_claim m (AtStack f depth) (claimed_within b to))))
        (sym (lt-ltb top m.frames within)) goes)
