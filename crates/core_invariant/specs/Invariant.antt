-- When the cores of a machine stand for a trace: what holds between two steps, whatever the calls.
use Rattle.act_fits.specs.act_states.specs as low
use Rattle.std.specs.Prelude.{◌≡◌, ◌⊎◌, ◌+◌, ◌-◌, ◌<◌, ◌≤◌}
use low.{word_of_live, word_of_stack, word_of_thread, thread_of_word, Running, Push as PushOf, Pop as PopOf, ℕ, Bool, true, List, []}
use low.{length, Option, Some, None, Setting, count_of_word, CountWord, Word, CountAt, FrameAt, FlushAt, LiveAt, EntryAt, Thing, FrameOf}
use low.{State, thread_of, sum_below, Reply, Ok, Acquired, word_of_head, credited, in_order, amount_of, phases_of, Makings.making_keeps}
use low.{Kills.killing_keeps, Comps.comp_keeps, Shares.share_keeps, Pair, PairAt, LoadA, MarkA, ListA, LoadB, ListB, CompareB, AgainB}
use low.{StoreList, StoreB, StoreA}
use Rattle.kernel_history.specs.{Out, phase, calls_of, state_after, last_left, IsLegal, KeepsBounds, marked_by, HasMarked, KeepsDiscipline}
use Rattle.kernel_history.specs.{KeepsFootprints, KeepsFirst, stamp, clock, exit_of, flush_stored, GraceIs}
use Rattle.act_fits.specs.stage_tcap.specs.{relisted, left_a, word_of_list}
use low.declared.work.Work.TheVariants.{Lookup, Read, Scan, Acquire, Act as act_work}
use low.declared.work.Tail.TheVariants.{Nothing, Quiesce, Unmark, StoreDead, StoreFlush, Release, StoreLive, Push, Pop, Share as share_tail}
use Rattle.act_fits.specs.call_stages.specs.declared.stages.Stage.TheVariants.{Enter, Living, Undecided, Decided, Leave}
use Rattle.core_invariant.specs.{Holding.Holding, Holding.nothing, Holding.holds_counts, Holding.holds_drawn, Holding.settled}
use Rattle.core_invariant.specs.{Holding.MarkIs, Holding.keeps, Holding.will_store, Holding.keeps_bare, Holding.keeps_list}
use Rattle.core_invariant.specs.{Frozen.holds_all, Frozen.holds_release, Threads.holds_running, Threads.holds_idle, Shares.HasTcap}
use Rattle.core_invariant.specs.{Words.Times, Words.WordIs, Words.CountsAre, Knows.CoreIs}
use low.{declared.makings.MakingAt.MakingAt, declared.comps.CompAt.CompAt, declared.comps.CompMaking.CompMaking}
use low.{declared.kills.KillingAt.KillingAt, declared.work.Act.Act, declared.work.Work.Work, declared.work.Tail.Tail}
use low.{declared.work.Tail.TheVariants.StoreRunning, declared.work.Tail.TheVariants.StoreIdle}
use Rattle.{kernel_history.specs.frame_words.specs.declared.live_word.LiveWord.TheVariants.Dead, kernel_history.specs.Trace.Trace}
use Rattle.{kernel_history.specs.Graces.TimesAre, act_fits.specs.call_stages.specs.declared.stages.Stage.Stage}
use Rattle.{act_fits.specs.call_stages.specs.declared.stages.ActiveCall.ActiveCall, act_fits.specs.call_stages.specs.View.Core}
use Rattle.{core_invariant.specs.Reaching.HasPassed, core_invariant.specs.Reaching.HasFlushed}

-- Whether a decided call has been carried out, and has then drawn a stamp.
abbrev pub done_by : Reply → Option ℕ → Option (Option ℕ)
done_by (Ok v) drawn = Some drawn
done_by _ drawn = None

abbrev pub is_done : Stage → Option (Option ℕ)
is_done Enter = None
is_done (Living alive) = None
is_done (Undecided work) = None
is_done (Decided r drawn tail) = done_by r drawn
is_done (Leave r x) = None

-- The words that a call has marked beside the counts that it acquires: at an act these are read off its record.
abbrev pub holds_act : Act → Holding → Holding
holds_act act h = holds_all (phases_of act).keeps h

abbrev pub holds_making : ℕ → MakingAt → Holding → Holding
holds_making f at h = holds_all (making_keeps f at) h

abbrev pub holds_killing : KillingAt → Holding → Holding
holds_killing at h = holds_all (killing_keeps at) h

abbrev pub holds_comp : CompMaking → CompAt → Holding → Holding
holds_comp m at h = holds_all (comp_keeps m at) h

abbrev pub holds_share : Pair → PairAt → Holding → Holding
holds_share p at h = holds_all (share_keeps p at) h

-- The words of its thread's stack that a core has still to store are kept without a mark.
abbrev pub holds_push : PushOf → Holding → Holding
holds_push (PushOf.AtStack f core depth comp) h =
    keeps_bare f (depth + 1) (word_of_stack (record { 0 = Some comp })) (keeps_bare f 0 (word_of_thread (Running core (depth + 1))) h)
holds_push (PushOf.AtThread f core depth) h = keeps_bare f 0 (word_of_thread (Running core (depth + 1))) h

abbrev pub holds_pop : PopOf → Holding → Holding
holds_pop (PopOf.AtThread f core depth) h =
    keeps_bare f 0 (word_of_thread (Running core (depth - 1))) (keeps_bare f depth (word_of_stack (record { 0 = None })) h)
holds_pop (PopOf.AtStack f depth) h = keeps_bare f depth (word_of_stack (record { 0 = None })) h

-- The head of the first of two temporal capabilities, from when it is marked: it stands for what was found there, and once the call is
-- decided for what is still to be stored.
abbrev pub holds_head : Pair → Bool → Holding → Holding
holds_head p moved h = keeps (EntryAt p.a 0) (word_of_head (left_a moved p.head_a (amount_of p.what))) h

-- The heads of both, once a delegation is decided: each stands for what is still to be stored, and so do the words of the second's list.
abbrev pub holds_heads : Pair → Holding → Holding
holds_heads p h = keeps (EntryAt p.b 0) (word_of_head (credited (relisted p.grows p.head_b) (amount_of p.what))) (holds_head p true h)

abbrev pub holds_list : Pair → ℕ → Holding → Holding
holds_list p entry h = keeps_list p.b entry (word_of_list (in_order p.list_b)) (holds_heads p h)

abbrev pub holds_shared : Pair → PairAt → Holding → Holding
holds_shared p LoadA h = h
holds_shared p MarkA h = h
holds_shared p (ListA n) h = h
holds_shared p LoadB h = h
holds_shared p (ListB n) h = h
holds_shared p CompareB h = h
holds_shared p (AgainB r) h = h
holds_shared p (StoreList n) h = holds_list p n h
holds_shared p StoreB h = holds_heads p h
holds_shared p (StoreA moved v) h = holds_head p moved h

-- And at a tail.
abbrev pub holds_tail : Tail → Holding → Holding
holds_tail Nothing h = h
holds_tail (Quiesce close) h = holds_drawn close h
holds_tail (Unmark f word) h = keeps (FrameAt f) word h
holds_tail (StoreDead life stamp) h = keeps (LiveAt life.number) (word_of_live (Dead life.epoch stamp)) h
holds_tail (StoreFlush by stamp) h = will_store (FlushAt by) stamp h
holds_tail (Release release) h = holds_release release h
holds_tail (StoreLive l live f word) h = keeps (LiveAt l) live (keeps (FrameAt f) word h)
holds_tail (Push push) h = holds_push push h
holds_tail (Pop pop) h = holds_pop pop h
holds_tail (share_tail p) h = holds_shared p p.at h
holds_tail (StoreRunning f core depth old old_depth) h = holds_running f core depth old old_depth h
holds_tail (StoreIdle f depth) h = holds_idle f depth h

abbrev pub holds_work : Work → Holding → Holding
holds_work (Lookup look) h = h
holds_work (Read comp look) h = h
holds_work (Scan q act) h = h
holds_work (Acquire pin change act) h = holds_act act h
holds_work (act_work act) h = holds_act act h

abbrev pub holds_stage : Stage → Holding → Holding
holds_stage Enter h = h
holds_stage (Living alive) h = h
holds_stage (Undecided work) h = holds_work work h
holds_stage (Decided r drawn tail) h = holds_tail tail h
holds_stage (Leave r x) h = h

-- What a core holds where its call stands: the counts that the call has acquired and not committed, and an entry that it has closed.
abbrev pub holds_at : Stage → List Acquired → Holding
holds_at stage counts = holds_stage stage (holds_counts (is_done stage) counts)

abbrev pub holds_in : Option ActiveCall → Holding
holds_in None = nothing
holds_in (Some a) = holds_at a.stage a.counts

-- What a core holds.
abbrev pub holds : Core → Holding
holds core = holds_in core.active

-- What the cores hold.
abbrev pub held_by : (ℕ → Core) → ℕ → Holding
held_by cores d = holds (cores d)

-- The stamps after a trace.
abbrev pub times_of : Setting → Trace → Times
times_of setup t = record { stamp = stamp setup t; exit = exit_of t; flush = flush_stored t }

-- What the settled word of a count shows.
abbrev pub count_shown : Setting → (ℕ → Holding) → Trace → ℕ → ℕ → Option CountWord
count_shown setup held t f d = count_of_word (settled setup held t (CountAt f d))

-- The settled counts of a frame are its references after the trace.
abbrev pub SumIs : Setting → (ℕ → Holding) → Trace → ℕ → Type 0
SumIs setup held t f = CountsAre (state_after setup t) f (stamp setup t (FrameOf f)) (count_shown setup held t f)

-- The core has made no step, and is in no call.
pub record IsAbsent (core : Core) (t : Trace) (c : ℕ) : Type 0 where
  pub out : phase t c ≡ Out
  pub none : calls_of t c ≡ []
  pub idle : core.active ≡ None

-- The calls that all cores of the machine have counted.
abbrev pub counted_in : Setting → State → ℕ
counted_in setup s = sum_below (λ c. (s.core c).counted) setup.cores

-- A word says that its thread runs on core d, at some depth.
pub record SaysRunning (d word : ℕ) : Type 0 where
  pub depth : ℕ
  pub says : thread_of_word word ≡ Some (Running d depth)

-- A word of the core's current thread, whose first word says that it runs on the core.
pub record IsOfThread (setup : Setting) (t : Trace) (d f i : ℕ) : Type 0 where
  pub thread : ((state_after setup t).core d).thread ≡ f
  pub stack : 1 ≤ length (thread_of (state_after setup t) d).stack
  pub says : i ≡ 0 → SaysRunning d (last_left setup t (EntryAt f i))

-- A word of the list of a temporal capability, whose head carries the core's mark and which no other core may retype.
pub record IsOfList (setup : Setting) (t : Trace) (d f i : ℕ) : Type 0 where
  pub list : 1 ≤ i
  pub tcap : HasTcap (state_after setup t) d f
  pub head : marked_by setup t (EntryAt f 0) ≡ Some d

-- What a core keeps without a mark is a word of its current thread, or of a list that it has still to store: no other core steps on it but
-- to leave it as found, and it carries no mark.
pub record IsExclusive (setup : Setting) (t : Trace) (d f i : ℕ) : Type 0 where
  pub core : d < setup.cores
  pub unmarked : marked_by setup t (EntryAt f i) ≡ None
  pub word : IsOfThread setup t d f i ⊎ IsOfList setup t d f i

-- The cores stand for the trace.
pub record Invariant (setup : Setting) (cores : ℕ → Core) (t : Trace) : Type 0 where
  -- the trace is a legal history; its calls keep within their bounds, and are decided in order where they are alone; and its
  -- steps keep the discipline and their footprints
  pub legal : IsLegal setup t
  pub bounds : KeepsBounds setup.cores t
  pub alone : KeepsFirst setup t
  pub discipline : KeepsDiscipline setup t
  pub footprints : KeepsFootprints setup t
  -- each word carries the marks of the cores that hold it, put there in their present calls, and its settled value says what the
  -- state is, kind by kind
  pub marks : (w : Word) (d : ℕ) → MarkIs setup (held_by cores) t w d
  pub marked : (w : Word) (d : ℕ) → marked_by setup t w ≡ Some d → HasMarked setup t w d
  pub words : (w : Word) → WordIs (state_after setup t) (times_of setup t) w (settled setup (held_by cores) t w)
  -- a core keeps no word without a mark but those of its own thread, and those of a list that it has still to store
  pub exclusive : (d f i v : ℕ) → (held_by cores d).bare f i ≡ Some v → IsExclusive setup t d f i
  -- the settled counts of each frame sum to the references to it
  pub sums : (f : ℕ) → SumIs setup (held_by cores) t f
  -- a counted call draws at most one stamp; no core has left or flushed later than now; and grace periods go with stamps
  pub draws : clock setup t ≤ 1 + counted_in setup (state_after setup t)
  pub some_time : 1 ≤ clock setup t
  pub times : (c : ℕ) → TimesAre setup t c
  pub graces : (x : Thing) → GraceIs setup t x
  -- of a thing of which no grace period has begun, or whose last one was ended, no core waits, nor is to flush
  pub unbegun : (x : Thing) (d : ℕ) → HasPassed setup t x 0 d × HasFlushed setup t x 0 d
  -- each core of the machine is where its model says, and there is no other
  pub each : (c : ℕ) → c < setup.cores → CoreIs setup (cores c) t c
  pub away : (c : ℕ) → setup.cores ≤ c → IsAbsent (cores c) t c
