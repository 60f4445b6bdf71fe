-- Who may step on a word, and who may change it: what other cores and other calls may rely on, whatever the plans of the calls.
use Rattle.std.specs.Prelude.{◌≡◌, ◌≢◌, ◌⊎◌, ◌==◌, ◌&&◌, ◌||◌, ◌∷◌}
use Rattle.kernel_rules.specs.{ℕ, Bool, true, false, [], Some, IsTrue, Setting, Make, Call, Look}
use Rattle.kernel_rules.specs.{Copy, Remove, Grow, Shrink, Retype, Map, Unmap, Touch, Flush, Gate, Kill, Ret, Switch, Tick, Transfer}
use Rattle.kernel_rules.specs.{Delegate, Test, Part, Replenish, Object, Blank, Table, Leaf, Pages, Pleaf, Comp, Thread, Tcap, Frame}
use Rattle.kernel_rules.specs.{Untyped, User, Kernel, asks_life}
use Rattle.word_map.specs.{EntryAt, FrameAt, CountAt, CoreAt, FlushAt, LiveAt, ClockAt, Move, LoadOf, CompareOf, StoreOf, AddOf, word_of}
use Rattle.entry_words.specs.spk_nums.specs.declared.calls.Call.TheVariants.{Make as make_call, Call as call_gate}
use Rattle.kernel_history.specs.{Bounds.call_in, Trace.Step, Trace.Trace, Trace.phase, Trace.after_enter, Trace.state_after}
use Rattle.{word_map.specs.left_of, entry_words.specs.spk_nums.specs.declared.kinds.FrameKind.TheVariants.Untyped as to_untyped}
use Rattle.{entry_words.specs.spk_nums.specs.declared.calls.Make.TheVariants.Comp as make_comp, word_map.specs.Word.Word}
use Rattle.{kernel_rules.specs.State.State, kernel_history.specs.Marking.marked_by}

-- The entries of a node are changed by the calls that fill a place or remove what one holds.
abbrev pub changes_places : Call → Bool
changes_places (Copy a t b rights) = true
changes_places (Remove t b) = true
changes_places (Grow t i l) = true
changes_places (Shrink t i) = true
changes_places (make_call what range frame table slot) = true
changes_places (Map p v r f w) = true
changes_places (Unmap p v) = true
changes_places (Gate k t b) = true
changes_places (Part r f n t b) = true
changes_places _ = false

-- The words of a frame that is blank are changed by the call that makes an object of it.
abbrev pub makes_objects : Call → Bool
makes_objects (make_call what range frame table slot) = true
makes_objects _ = false

-- The words of a thread are changed by the calls that enter or leave a component on it, or move a core to it.
abbrev pub changes_threads : Call → Bool
changes_threads (call_gate g) = true
changes_threads Ret = true
changes_threads (Switch h q) = true
changes_threads _ = false

-- The words of a temporal capability are changed by the calls that charge, move, give back or compare budgets.
abbrev pub changes_budgets : Call → Bool
changes_budgets (Tick n) = true
changes_budgets (Transfer a b m) = true
changes_budgets (Delegate a b m) = true
changes_budgets (Test a b) = true
changes_budgets (Replenish a m) = true
changes_budgets _ = false

-- Which calls change the words of a frame with this object; those of a component are changed by none.
abbrev pub changes_object : Call → Object → Bool
changes_object call Blank = makes_objects call
changes_object call Table = changes_places call
changes_object call Leaf = changes_places call
changes_object call Pages = changes_places call
changes_object call Pleaf = changes_places call
changes_object call (Comp k) = false
changes_object call (Thread t) = changes_threads call
changes_object call (Tcap q) = changes_budgets call

-- The words of a frame without an object are changed by none.
abbrev pub changes_in_frame : Call → Frame → Bool
changes_in_frame call Untyped = false
changes_in_frame call User = false
changes_in_frame call (Kernel object) = changes_object call object

-- The word of a frame is changed by the calls that change what the frame is, and looked at by these and by `map` alone.
abbrev pub changes_frames : Call → Bool
changes_frames (Retype r f k) = true
changes_frames (make_call what range frame table slot) = true
changes_frames _ = false

abbrev pub looks_at_frames : Call → Bool
looks_at_frames (Map p v r f w) = true
looks_at_frames call = changes_frames call

-- The word of a liveness number is changed by the calls that end or begin its life, and looked at by the calls that ask whether a
-- component lives: every one but `ret`, `flush` and `tick`.
abbrev pub makes_component : Make → Bool
makes_component (make_comp table pages live) = true
makes_component _ = false

abbrev pub changes_numbers : Call → Bool
changes_numbers (make_call what range frame table slot) = makes_component what
changes_numbers (Kill k) = true
changes_numbers _ = false

abbrev pub looks_at_numbers : Call → Bool
looks_at_numbers call = asks_life call

-- The counts of references are stepped on by the calls that take or release one: a range counts none,
abbrev pub counts_references : Call → Bool
counts_references (Look a) = false
counts_references (Touch v) = false
counts_references Flush = false
counts_references (Tick n) = false
counts_references (Transfer a b m) = false
counts_references (Delegate a b m) = false
counts_references (Test a b) = false
counts_references (Part r f n t b) = false
counts_references (Replenish a m) = false
counts_references _ = true

-- a call of core c on its own core's count words, and a retype to untyped on each count word of the frame.
abbrev pub untypes_frame : Call → ℕ → Bool
untypes_frame (Retype r g to_untyped) f = f == g
untypes_frame _ f = false

abbrev pub may_count : ℕ → Call → ℕ → ℕ → Bool
may_count c call f d = counts_references call && (d == c || untypes_frame call f)

-- The flush word of a core is changed by its own `flush`.
abbrev pub stores_flush : Call → Bool
stores_flush Flush = true
stores_flush _ = false

-- The clock is raised by the calls that begin grace periods.
abbrev pub raises_clock : Call → Bool
raises_clock (Remove t b) = true
raises_clock (Shrink t i) = true
raises_clock (Retype r f k) = true
raises_clock (Unmap p v) = true
raises_clock (Kill k) = true
raises_clock Ret = true
raises_clock (Switch h q) = true
raises_clock _ = false

-- Whether a call of core c may load a word.
abbrev pub may_load : ℕ → Call → Word → Bool
may_load c call (EntryAt f i) = true
may_load c call (FrameAt f) = looks_at_frames call
may_load c call (CountAt f d) = may_count c call f d
may_load c call (CoreAt d) = true
may_load c call (FlushAt d) = true
may_load c call (LiveAt l) = looks_at_numbers call
may_load c call ClockAt = true

-- Whether a call of core c may compare or store in a word, in a state that says what the frames hold: of the cores' words in its
-- own alone, and never in the clock.
abbrev pub may_change : State → ℕ → Call → Word → Bool
may_change s c call (EntryAt f i) = changes_in_frame call (s.frame f)
may_change s c call (FrameAt f) = changes_frames call
may_change s c call (CountAt f d) = may_count c call f d
may_change s c call (CoreAt d) = d == c
may_change s c call (FlushAt d) = d == c && stores_flush call
may_change s c call (LiveAt l) = changes_numbers call
may_change s c call ClockAt = false

-- A call may raise a word: the clock alone, by 1.
abbrev pub MayRaise : Call → Word → ℕ → Type 0
MayRaise call ClockAt by = IsTrue (raises_clock call) × (by ≡ 1)
MayRaise call _ by = ⊥

-- A call of core c may make this operation.
abbrev pub MayMove : State → ℕ → Call → Move → Type 0
MayMove s c call (LoadOf w) = IsTrue (may_load c call w)
MayMove s c call (CompareOf w expected new) = IsTrue (may_change s c call w)
MayMove s c call (StoreOf w new) = IsTrue (may_change s c call w)
MayMove s c call (AddOf w by) = MayRaise call w by

-- A word gets the mark of core d by d's own step on it alone.
abbrev pub MarksOwn : Setting → Trace → Step → Type 0
MarksOwn setup t e =
    (w : Word) (d : ℕ) → marked_by setup (e ∷ t) w ≡ Some d → (marked_by setup t w ≡ Some d) ⊎ ((e.core ≡ d) × (word_of e.move ≡ w))

-- A word that carries the mark of another core is left as found.
abbrev pub KeepsMarked : Setting → Trace → Step → Type 0
KeepsMarked setup t e = (d : ℕ) → marked_by setup t (word_of e.move) ≡ Some d → d ≢ e.core → left_of e.move e.found ≡ e.found

-- The step e after t keeps the discipline: its operation is one of its call, it puts no mark but its own core's, and it changes no
-- word that another core has marked.
pub record IsDisciplined (setup : Setting) (t : Trace) (e : Step) : Type 0 where
  pub call : Call
  pub is_of : call_in (after_enter e.enters (phase t e.core)) ≡ Some call
  pub moves : MayMove (state_after setup t) e.core call e.move
  pub marks : MarksOwn setup t e
  pub keeps : KeepsMarked setup t e

-- Each step of the trace keeps the discipline.
abbrev pub KeepsDiscipline : Setting → Trace → Type 0
KeepsDiscipline setup [] = Unit {0}
KeepsDiscipline setup (e ∷ t) = KeepsDiscipline setup t × IsDisciplined setup t e
