-- What each permissive definition refuses: traces that break it, and keep the others.
use Rattle.std.specs.Prelude.{◌≡◌, ◌<◌, ◌∷◌}
use Rattle.kernel_rules.specs.{ℕ, [], Some, None, whole_copy, PageFlags, Item, One, Ready, Decide, Return, Call, Reply}
use Rattle.word_map.specs.{EntryAt, FrameAt, CountAt, CoreAt, FlushAt, LiveAt, ClockAt, Move, LoadOf, CompareOf, StoreOf, AddOf, word_of}
use Rattle.kernel_history.specs.{Trace.Step, Trace.Trace, Trace.Open, Trace.phase, Trace.state_before, Justified.IsJustified, Legal.IsLegal}
use Rattle.kernel_history.specs.{Bounds.KeepsBounds, Footprint.KeepsFootprints, Discipline.KeepsDiscipline, Moments.WordsSayAlong}
use Rattle.kernel_history.specs.{Order.IsIdle, Order.Follows, Scenes.two_cores, Scenes.there, Scenes.enters, Scenes.goes, Scenes.decides}
use Rattle.kernel_history.specs.{Scenes.loads, Scenes.one_step, Scenes.range_word, Scenes.mark_word, Scenes.done, Scenes.retyped}
use Rattle.kernel_history.specs.{Scenes.named, Scenes.half_named, Scenes.marked_beside, Scenes.name_removed, Scenes.other_enters}
use Rattle.kernel_history.specs.{Scenes.clock_raised, Scenes.target_read, Scenes.fills_again, Scenes.between, Scenes.both_look}
use Rattle.{kernel_rules.specs.MayReply, kernel_rules.specs.FrameKind, kernel_rules.specs.Make, kernel_history.specs.Scenes.ready_to_look}

-- The trace is legal, on words in the footprints of its calls and within their bounds, but steps out of the discipline.
pub record BreaksDiscipline (t : Trace) : Type 0 where
  pub legal : IsLegal two_cores t
  pub footprint : KeepsFootprints two_cores t
  pub within : KeepsBounds 2 t
  pub refused : KeepsDiscipline two_cores t → ⊥

-- No page flags.
abbrev pub no_flags : PageFlags
no_flags = record { 0 = 0 }

-- Each word is stepped on by its calls alone.
pub record DisciplineRefuses : Type 0 where
  -- a look that empties the place that it looks at
  pub look_changes_a_place : BreaksDiscipline (one_step (Call.Look 0) (StoreOf (EntryAt 1 0) 0))
  -- a copy that writes a thread, a temporal capability or a component
  pub copy_changes_a_thread : BreaksDiscipline (one_step (whole_copy 0 1 20) (StoreOf (EntryAt 4 1) 0))
  pub copy_changes_a_budget : BreaksDiscipline (one_step (whole_copy 0 1 20) (StoreOf (EntryAt 6 0) 0))
  pub return_changes_a_component : BreaksDiscipline (one_step Call.Ret (StoreOf (EntryAt 3 0) 1))
  -- a retype that writes in a frame that is untyped, of a user, or blank
  pub retype_writes_untyped : BreaksDiscipline (one_step (Call.Retype 0 8 FrameKind.User) (StoreOf (EntryAt 8 0) 1))
  pub retype_writes_a_user_frame : BreaksDiscipline (goes 0 (StoreOf (EntryAt 8 0) 1) (retyped FrameKind.User 1))
  pub retype_writes_a_blank_frame : BreaksDiscipline (goes 0 (StoreOf (EntryAt 8 0) 1) (retyped FrameKind.Kernel 2))
  -- a copy that looks at what a frame is, and a map that changes it
  pub copy_looks_at_a_frame : BreaksDiscipline (one_step (whole_copy 0 1 20) (LoadOf (FrameAt 1)))
  pub map_changes_a_frame : BreaksDiscipline (one_step (Call.Map 2 0 0 8 no_flags) (StoreOf (FrameAt 8) 1))
  -- a tick, a return and a flush that look at a liveness number; a call through a gate, and a make of a leaf, that change one
  pub tick_looks_at_a_number : BreaksDiscipline (one_step (Call.Tick 1) (LoadOf (LiveAt 0)))
  pub return_looks_at_a_number : BreaksDiscipline (one_step Call.Ret (LoadOf (LiveAt 0)))
  pub flush_looks_at_a_number : BreaksDiscipline (one_step Call.Flush (LoadOf (LiveAt 0)))
  pub gate_changes_a_number : BreaksDiscipline (one_step (Call.Call 0) (StoreOf (LiveAt 0) 0))
  pub leaf_changes_a_number : BreaksDiscipline (one_step (Call.Make Make.Leaf 0 8 1 20) (StoreOf (LiveAt 0) 0))
  -- a look that reads a count, and a tick that changes one
  pub look_reads_a_count : BreaksDiscipline (one_step (Call.Look 0) (LoadOf (CountAt 0 0)))
  pub tick_changes_a_count : BreaksDiscipline (one_step (Call.Tick 1) (StoreOf (CountAt 6 0) 0))
  -- a call that changes the word or the flush word of another core, and a look that changes its own core's flush word
  pub core_of_another : BreaksDiscipline (one_step (Call.Look 0) (StoreOf (CoreAt 1) 1))
  pub flush_of_another : BreaksDiscipline (one_step Call.Flush (StoreOf (FlushAt 1) 1))
  pub look_stores_a_flush : BreaksDiscipline (one_step (Call.Look 0) (StoreOf (FlushAt 0) 1))
  -- a removal that sets the clock back, or raises it by 2, or raises its core's word, and a copy that raises the clock
  pub clock_is_set : BreaksDiscipline (one_step (Call.Remove 1 0) (StoreOf ClockAt 0))
  pub clock_jumps : BreaksDiscipline (one_step (Call.Remove 1 0) (AddOf ClockAt 2))
  pub own_word_is_raised : BreaksDiscipline (one_step (Call.Remove 1 0) (AddOf (CoreAt 0) 1))
  pub copy_raises_the_clock : BreaksDiscipline (one_step (whole_copy 0 1 20) (AddOf ClockAt 1))
  -- core 0 puts the mark of core 1
  pub puts_the_mark_of_another : BreaksDiscipline (one_step (whole_copy 0 1 20) (StoreOf (EntryAt 1 20) (mark_word 1)))
  -- core 0 fills the place that core 1 has marked
  pub fills_a_marked_place :
      BreaksDiscipline (goes 0 (StoreOf (EntryAt 1 21) range_word) marked_beside)

-- A call counts references in the words of its own core, and a retype to untyped steps on all count words of its frame, and no other.
pub record OwnCountsRefuse : Type 0 where
  -- a copy that reads another core's count of the object that it names, and one that changes it
  pub reads_anothers : BreaksDiscipline (one_step (whole_copy 1 1 20) (LoadOf (CountAt 0 1)))
  pub changes_anothers : BreaksDiscipline (one_step (whole_copy 1 1 20) (StoreOf (CountAt 0 1) 0))
  -- a retype to untyped that changes another core's count of another frame, and a retype to kernel that changes that of its frame
  pub untypes_another_frame : BreaksDiscipline (one_step (Call.Retype 0 8 FrameKind.Untyped) (StoreOf (CountAt 0 1) 0))
  pub retypes_to_kernel : BreaksDiscipline (one_step (Call.Retype 0 8 FrameKind.Kernel) (StoreOf (CountAt 8 1) 0))

-- The trace is legal and within its bounds, but a step of it is on a word that is not in the footprint of its call.
pub record BreaksFootprint (t : Trace) : Type 0 where
  pub legal : IsLegal two_cores t
  pub within : KeepsBounds 2 t
  pub refused : KeepsFootprints two_cores t → ⊥

-- A call steps within its footprint alone: on entries, on a frame's word, on its count, and on liveness numbers.
pub record FootprintsRefuse : Type 0 where
  pub look_reads_a_far_entry : BreaksFootprint (one_step (Call.Look 0) (LoadOf (EntryAt 8 0)))
  pub map_reads_a_far_frame : BreaksFootprint (one_step (Call.Map 2 0 0 8 no_flags) (LoadOf (FrameAt 9)))
  pub copy_changes_a_far_count : BreaksFootprint (one_step (whole_copy 0 1 20) (StoreOf (CountAt 9 0) 0))
  pub kill_reads_a_far_number : BreaksFootprint (one_step (Call.Kill 3) (LoadOf (LiveAt 5)))

-- A look of seven steps is within its bound, and one more breaks it.
abbrev pub looks_six : Trace
looks_six = loads 0 1 0 (loads 0 0 0 (loads 0 1 0 (loads 0 0 0 (loads 0 1 0 (loads 0 0 0 (enters 0 (Call.Look 0) []))))))

pub record BoundsRefuse : Type 0 where
  pub within : KeepsBounds 2 looks_six
  pub legal : IsLegal two_cores (loads 0 0 0 looks_six)
  pub refused : KeepsBounds 2 (loads 0 0 0 looks_six) → ⊥

-- The step at which core c decides.
abbrev pub deciding : ℕ → Move → Reply → Trace → Step
deciding c m r t = record { core = c; move = m; found = there t (word_of m); enters = None; decides = Some r; returns = None }

-- Core c decides its call at an operation. But for the decision the step is legal, and the call relation permits the reply; it is
-- not justified.
pub record Unjustified (c : ℕ) (m : Move) (k : Call) (r : Reply) (t : Trace) : Type 0 where
  pub legal : IsLegal two_cores (goes c m t)
  pub footprint : KeepsFootprints two_cores (goes c m t)
  pub within : KeepsBounds 2 (goes c m t)
  pub is_open : phase t c ≡ Open k
  pub permitted : MayReply (state_before two_cores t (deciding c m r t)) c k r
  pub unjustified : IsJustified two_cores t (deciding c m r t) k r → ⊥
  pub refused : IsLegal two_cores (decides c m r t) → ⊥

pub record JustificationRefuses : Type 0 where
  -- a copy is carried out, though it has not reached the place of its first name, or its target
  pub ok_off_the_way : Unjustified 0 (CompareOf (EntryAt 1 20) 0 range_word) (whole_copy 0 1 20) done half_named
  pub ok_off_its_target : Unjustified 0 (LoadOf (EntryAt 0 0)) (whole_copy 0 1 20) done named
  -- a copy is held up by a mark in a place of the leaf that is not on its way
  pub busy_beside_the_way : Unjustified 0 (LoadOf (EntryAt 1 21)) (whole_copy 0 1 20) (Reply.Busy 1) marked_beside
  -- a copy loses a race for the place of a name, for the word of a core, and for the clock
  pub raced_for_a_name : Unjustified 0 (LoadOf (EntryAt 1 0)) (whole_copy 0 1 20) Reply.Raced name_removed
  pub raced_for_a_core : Unjustified 0 (LoadOf (CoreAt 1)) (whole_copy 0 1 20) Reply.Raced other_enters
  pub raced_for_the_clock : Unjustified 0 (LoadOf ClockAt) (whole_copy 0 1 20) Reply.Raced clock_raised
  -- a copy loses a race for its target, which it has read, and which nobody has changed since
  pub raced_for_nothing : Unjustified 1 (LoadOf (EntryAt 1 20)) (whole_copy 0 1 20) Reply.Raced target_read
  -- a copy waits for a core that entered after the place, long removed, was filled again
  pub waits_for_nothing : Unjustified 0 (LoadOf (EntryAt 1 13)) (whole_copy 0 1 13) (Reply.Quiescing 1) fills_again

-- The trace is legal, on words in the footprints of its calls and within their bounds, but a word says otherwise than the state.
pub record BreaksWords (t : Trace) : Type 0 where
  pub legal : IsLegal two_cores t
  pub footprint : KeepsFootprints two_cores t
  pub within : KeepsBounds 2 t
  pub refused : WordsSayAlong two_cores t → ⊥

-- A core in a call whose word says that it is in none, and a place filled by no decision.
pub record WordsRefuse : Type 0 where
  pub core_says_out : BreaksWords (one_step (Call.Look 0) (StoreOf (CoreAt 0) 0))
  pub entry_is_filled : BreaksWords (one_step (whole_copy 0 1 20) (StoreOf (EntryAt 1 20) range_word))

-- The trace does not follow an order of this one item.
abbrev pub RefusesItem : Item → Trace → Type 0
RefusesItem item t = Follows ready_to_look both_look (item ∷ []) t → ⊥

-- In a legal trace core 1 looks from entry to return after core 0 has entered its look. It does not begin with a step of core 1,
-- nor with core 0 up to where it is ready, has decided, or has returned.
pub record OrderRefuses : Type 0 where
  pub legal : IsLegal two_cores between
  pub calls : (c : ℕ) → c < 2 → IsIdle both_look between c
  pub one : RefusesItem (record { core = 1; how = One }) between
  pub ready : RefusesItem (record { core = 0; how = Ready }) between
  pub decide : RefusesItem (record { core = 0; how = Decide }) between
  pub return : RefusesItem (record { core = 0; how = Return }) between
