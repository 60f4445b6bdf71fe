-- The stores after the decision of a switch are good: the word of the thread to which the core went on, as running, and that of a thread
-- that it gives back, as idle.
use Rattle.thread_invariant.specs.step_ways.proofs as low
use low.{◌≡◌, ◌≢◌, ◌<◌, ◌^◌, ◌∷◌, inr, ℕ, true, false, if◌then◌else◌, Option, Some, None, IsTrue, arith, refl, sym, ◌∙◌, ap, subst, Setting}
use low.{IsSetting, Reply, ThreadFits, word_of_thread, Idle, Running, Word, EntryAt, same_word, Move, StoreOf, same_same, State, put, fits}
use low.{changes_in_frame, changes_threads, IsInFootprint, thread_mark, marked_by, Step, Trace, WasAt, state_after, last_left, was_stays}
use low.{same_word-other, Tail, Nothing, StoreRunning, StoreIdle, StageFits, Decided, ActiveCall, GoesOn, went_with, Core, Holding}
use low.{holds_counts, settled_by, KnowsTail, phase_at, done_by, holds, holds_at, holds_in, holds_tail, held_by, Invariant, as_none}
use low.{counts_bare, none_kept, counts_on, exclusive_free, core_in_call, inner, call_is, is_active, GoodTook, Kind}
use Rattle.thread_invariant.specs.act_states.specs.{ThreadWord, idle_move, running_move}
use Rattle.thread_invariant.specs.core_invariant.specs.{KnowsIdle, KnowsRunning}
use Rattle.thread_invariant.proofs.{counts_apart, own_thread}
use Rattle.switch_invariant.proofs.Claims.{not_kept, spares_thread}
use Rattle.switch_invariant.proofs.ThreadWords.{first_mark, none_some, thread_is}
use Rattle.{thread_invariant.specs.tcap_words.specs.Thread.DepthFits, thread_invariant.specs.call_stages.specs.Fits.TailFits}
use Rattle.{thread_invariant.specs.core_invariant.proofs.Bare.core_bare}
use Rattle.thread_invariant.specs.tcap_words.proofs.ThreadLemmas as words
use Rattle.thread_invariant.specs.step_ways.proofs.Counting as counters

-- A word of a thread that its core has marked, and that is now stored as what it stands for.
module _ (setup : Setting) (setting : IsSetting setup) (cores : ℕ → Core) (t : Trace) (stands : Invariant setup cores t) (c : ℕ)
    (here : c < setup.cores)
    (a : ActiveCall) (active : (cores c).active ≡ Some a) (r : Reply) (drawn : Option ℕ) (tail left : Tail)
    (stage_is : a.stage ≡ Decided r drawn tail) (f : ℕ) (v : ThreadWord)
    (threads : changes_threads a.call ≡ true) (footprint : WasAt (IsInFootprint c a.call (EntryAt f 0)) setup t c)
    (thread : IsTrue (fits Kind.Thread ((state_after setup t).frame f))) (v_fits : ThreadFits v) (unmarked : thread_mark (Some v) ≡ None)
    (before : (w : Word) → (holds_tail tail (holds_counts (done_by r drawn) a.counts)).marks w
    ≡ (if same_word w (EntryAt f 0) then true else (holds_tail left (holds_counts (done_by r drawn) a.counts)).marks w))
    (before_stands : (w : Word) → (holds_tail tail (holds_counts (done_by r drawn) a.counts)).stands w
    ≡ (if same_word w (EntryAt f 0) then word_of_thread v else (holds_tail left (holds_counts (done_by r drawn) a.counts)).stands w))
    (no_mark : (holds_tail left (holds_counts (done_by r drawn) a.counts)).marks (EntryAt f 0) ≡ false)
    (bare_before : (g i : ℕ) → (holds_tail tail (holds_counts (done_by r drawn) a.counts)).bare g i ≡ None)
    (bare_after : (g i : ℕ) → (holds_tail left (holds_counts (done_by r drawn) a.counts)).bare g i ≡ None) where
  abbrev s : State
  s = state_after setup t

  abbrev at : Word
  at = EntryAt f 0

  abbrev stored : ℕ
  stored = word_of_thread v

  abbrev store : Move
  store = StoreOf (EntryAt f 0) (word_of_thread v)

  abbrev e : Step
  e = inner setup setting cores t stands c here a active store None None

  abbrev next : ActiveCall
  next = went_with a a.counts (Decided r drawn left)

  abbrev after : Core
  after = core_in_call (cores c) (cores c).own.made next

  held_is : holds (cores c) ≡ holds_tail tail (holds_counts (done_by r drawn) a.counts)
  held_is = ap holds_in active ∙ ap (λ stage. holds_at stage a.counts) stage_is

  mark : marked_by setup t (EntryAt f 0) ≡ Some c
  mark = (stands.marks at c).kept (ap (λ h. h.marks at) held_is ∙ before at
      ∙ ap (λ b. if b then true else (holds_tail left (holds_counts (done_by r drawn) a.counts)).marks at) (same_same at))

  stands_for : (held_by cores c).stands (EntryAt f 0) ≡ word_of_thread v
  stands_for = ap (λ h. h.stands at) held_is ∙ before_stands at
      ∙ ap (λ b. if b then stored else (holds_tail left (holds_counts (done_by r drawn) a.counts)).stands at) (same_same at)

  -- a word that carries a mark is kept by none without one
  none_before : (d : ℕ) → (held_by cores d).bare f 0 ≡ None
  none_before d = by ((held_by cores d).bare f 0) refl
    where
      by : (o : Option ℕ) → (held_by cores d).bare f 0 ≡ o → (held_by cores d).bare f 0 ≡ None
      by None is = is
      by (Some x) is = absurd (none_some c (sym (stands.exclusive d f 0 x is).unmarked ∙ mark))

  none_after : (d : ℕ) → (held_by (put cores c after) d).bare f 0 ≡ None
  none_after d = core_bare cores c after f 0 (bare_after f 0 ∙ sym (ap (λ h. h.bare f 0) held_is ∙ bare_before f 0)) d ∙ none_before d

  pub word_good : KnowsTail setup (e ∷ t) c a.call a.counts left
      → GoodTook setup cores t c store (GoesOn (went_with a a.counts (Decided r drawn left)))
  word_good knows lands =
      counters.holds_on setup setting cores t stands c here a active store next (λ b. refl) (λ h. cc) refl
      (record {
        moves = subst (λ x. IsTrue (changes_in_frame a.call x)) (sym (thread_is (s.frame f) thread)) threads;
        footprint = inr footprint;
      }) lands
      (words.spelling.small v v_fits)
      (λ w other. (
        sym (ap (λ h. h.marks w) held_is ∙ before w
            ∙ ap (λ b. if b then true else (holds_tail left (holds_counts (done_by r drawn) a.counts)).marks w)
            (same_word-other w at other)),
        sym (ap (λ h. h.stands w) held_is ∙ before_stands w
            ∙ ap (λ b. if b then stored else (holds_tail left (holds_counts (done_by r drawn) a.counts)).stands w)
            (same_word-other w at other)),
      ))
      (as_none (holds (cores c)) (holds after) at (λ g i. ap (λ h. h.bare g i) held_is ∙ bare_before g i) bare_after)
      (first_mark (s.frame f) stored thread ∙ ap thread_mark (words.spelling.reads v v_fits) ∙ unmarked
      ∙ sym (ap (λ b. if b then Some c else None) no_mark))
      (λ b other is. other (same_core b c (sym is ∙ mark)))
      (ap (λ b. settled_by (if b then Some c else None) (held_by (put cores c after)) at stored) no_mark
      ∙ none_kept 8 (held_by (put cores c after)) f 0 stored none_after
      ∙ sym (ap (λ o. settled_by o (held_by cores) at (last_left setup t at)) mark ∙ stands_for))
      (ap (phase_at a.call) stage_is)
      (λ carries. knows)
      (counts_on setup t e c a.call (λ own. refl) a.counts (call_is setup setting cores t stands c here a active).counts)
      (call_is setup setting cores t stands c here a active).apart
      (spares_thread setup t e f 0 refl thread)
      (exclusive_free cores e (not_kept cores f 0 none_before))
    where
      same_core : (b d : ℕ) → Some b ≡ Some d → b ≡ d
      same_core b d h = cc

module _ (setup : Setting) (setting : IsSetting setup) (cores : ℕ → Core) (t : Trace) (stands : Invariant setup cores t) (c : ℕ)
    (here : c < setup.cores)
    (a : ActiveCall) (active : (cores c).active ≡ Some a) (r : Reply) (drawn : Option ℕ) where
  abbrev rest : Holding
  rest = holds_counts (done_by r drawn) a.counts

  is_small : (tail : Tail) → a.stage ≡ Decided r drawn tail → TailFits (cores c).own.layout tail
  is_small tail stage_is = (subst (StageFits (cores c).own.layout) stage_is (is_active setup setting cores t stands c here a active).stage)

  -- a thread that is given back
  pub idle_good : (f depth : ℕ) → a.stage ≡ Decided r drawn (StoreIdle f depth) → KnowsIdle setup t c a.call f
      → GoodTook setup cores t c (idle_move f depth) (GoesOn (went_with a a.counts (Decided r drawn Nothing)))
  idle_good f depth stage_is knows =
      word_good setup setting cores t stands c here a active r drawn (StoreIdle f depth) Nothing stage_is f (Idle depth) knows.threads
      knows.footprint knows.thread.thread (is_small (StoreIdle f depth) stage_is).1 refl (λ w. refl) (λ w. refl)
      (counts_apart (done_by r drawn) a.counts f 0) (counts_bare (done_by r drawn) a.counts) (counts_bare (done_by r drawn) a.counts) tt

  -- the thread to which the core went on
  pub running_good : (f core depth old old_depth : ℕ) → a.stage ≡ Decided r drawn (StoreRunning f core depth old old_depth)
      → KnowsRunning setup t c a.call f core old
      → GoodTook setup cores t c (running_move f core depth) (GoesOn (went_with a a.counts (Decided r drawn (StoreIdle old old_depth))))
  running_good f core depth old old_depth stage_is knows =
      word_good setup setting cores t stands c here a active r drawn (StoreRunning f core depth old old_depth) (StoreIdle old old_depth)
      stage_is f (Running core depth) knows.rest.threads knows.footprint thread (
        (let below : c < setup.cores = here in let most = setting.most_cores in
            let own = knows.core in omega (arith, below, most, own)),
        depth_fits,
      )
      refl (λ w. refl) (λ w. refl)
      (ap (λ b. if b then true else rest.marks (EntryAt f 0)) (same_word-other (EntryAt f 0) (EntryAt old 0) apart)
      ∙ counts_apart (done_by r drawn) a.counts f 0)
      (counts_bare (done_by r drawn) a.counts) (counts_bare (done_by r drawn) a.counts)
      (record {
        threads = knows.rest.threads;
        footprint = was_stays (IsInFootprint c a.call (EntryAt old 0)) setup t
            (inner setup setting cores t stands c here a active (running_move f core depth) None None) c (λ own. refl) knows.rest.footprint;
        thread = knows.rest.thread;
      })
    where
      apart : EntryAt f 0 ≢ EntryAt old 0
      apart same = knows.apart (same_frame f old same)
        where
          same_frame : (g h : ℕ) → EntryAt g 0 ≡ EntryAt h 0 → g ≡ h
          same_frame g h same = cc

      thread : IsTrue (fits Kind.Thread ((state_after setup t).frame f))
      thread = subst (λ (g : ℕ). IsTrue (fits Kind.Thread ((state_after setup t).frame g))) (sym knows.own)
          (subst (λ x. IsTrue (fits Kind.Thread x)) (sym (own_thread setup setting t stands.legal c here)) refl)

      depth_fits : DepthFits depth
      depth_fits = (is_small (StoreRunning f core depth old old_depth) stage_is).1
