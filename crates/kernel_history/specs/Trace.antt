-- Traces of atomic steps, and what they leave. A trace lists its steps with the newest first.
use Rattle.std.specs.Prelude.{◌⊎◌, ◌+◌, ◌==◌, ◌&&◌, ◌∷◌, ◌++◌, if◌then◌else◌}
use Rattle.kernel_rules.specs.{ℕ, Bool, true, false, List, [], Option, Some, None, is_some}
use Rattle.kernel_rules.specs.{option_to_list, length, Call, Reply, Decision, Setting, start, entered, returned, state_by}
use Rattle.word_map.specs.{same_word, Move, LoadOf, CompareOf, StoreOf, AddOf, word_of, left_of}
use Rattle.{word_map.specs.Word.Word, kernel_rules.specs.State.State, kernel_history.specs.BootWords.boot_word}

-- An atomic step of a core: its operation on a word, the value found there, and the events of the core's call at it: it enters,
-- decides (the call takes effect there) or returns. What it leaves in the word is a function of the operation and of what it found.
pub record Step : Type 0 where
  pub core : ℕ
  pub move : Move
  pub found : ℕ
  pub enters : Option Call
  pub decides : Option Reply
  pub returns : Option Reply

-- A trace is a list of steps, the newest first.
abbrev pub Trace : Type 0
Trace = List Step

-- The value last left in the word, or the boot word if none was left.
abbrev pub last_left : Setting → Trace → Word → ℕ
last_left setup [] w = boot_word setup w
last_left setup (e ∷ t) w = if same_word w (word_of e.move) then (left_of e.move e.found) else last_left setup t w

-- A core is between calls, in a call that is not decided, or in one that is.
pub data Phase : Type 0 where
  Out : Phase
  Open : Call → Phase
  Decided : Call → Reply → Phase

-- The phase after an invocation.
abbrev pub after_enter : Option Call → Phase → Phase
after_enter None p = p
after_enter (Some call) p = Open call

-- The phase after a decision: an open call is decided.
abbrev pub decided : Phase → Reply → Phase
decided Out r = Out
decided (Open call) r = Decided call r
decided (Decided call q) r = Decided call q

-- The phase after a step that may decide.
abbrev pub after_decide : Option Reply → Phase → Phase
after_decide None p = p
after_decide (Some r) p = decided p r

-- The phase after a step that may return.
abbrev pub after_return : Option Reply → Phase → Phase
after_return None p = p
after_return (Some r) p = Out

-- The core's phase after the trace.
abbrev pub phase : Trace → ℕ → Phase
phase [] c = Out
phase (e ∷ t) c = if c == e.core then after_return e.returns (after_decide e.decides (after_enter e.enters (phase t c))) else phase t c

-- The state after an invocation.
abbrev pub state_entered : Option Call → State → ℕ → State
state_entered None s c = s
state_entered (Some call) s c = entered s c

-- The state after a decision in this phase: that which the call relation leaves for the open call.
abbrev pub state_decided_in : Phase → Reply → State → ℕ → State
state_decided_in Out r s c = s
state_decided_in (Open call) r s c = state_by s c call r
state_decided_in (Decided call q) r s c = s

-- The state after a step that may decide.
abbrev pub state_decided : Option Reply → Phase → State → ℕ → State
state_decided None p s c = s
state_decided (Some r) p s c = state_decided_in p r s c

-- The state after a step that may return.
abbrev pub state_returned : Option Reply → State → ℕ → State
state_returned None s c = s
state_returned (Some r) s c = returned s c

-- The state after the events of the trace, from the start state on.
abbrev pub state_after : Setting → Trace → State
state_after setup [] = start setup
state_after setup (e ∷ t) =
    state_returned e.returns
    (state_decided e.decides (after_enter e.enters (phase t e.core)) (state_entered e.enters (state_after setup t) e.core) e.core)
    e.core

-- The calls that the core has entered, in order.
abbrev pub calls_of : Trace → ℕ → List Call
calls_of [] c = []
calls_of (e ∷ t) c = if c == e.core then calls_of t c ++ option_to_list e.enters else calls_of t c

-- How many steps the core has made in the call that it entered last.
abbrev pub steps_in_call : Trace → ℕ → ℕ
steps_in_call [] c = 0
steps_in_call (e ∷ t) c = if c == e.core then (if is_some e.enters then 1 else steps_in_call t c + 1) else steps_in_call t c

-- What the core's last step on the word, in the call that it entered last, has left there.
abbrev pub own_left : Trace → ℕ → Word → Option ℕ
own_left [] c w = None
own_left (e ∷ t) c w =
    if c == e.core
    then (if same_word w (word_of e.move) then Some (left_of e.move e.found) else (if is_some e.enters then None else own_left t c w))
    else own_left t c w

-- Whether an operation reads its word: a load or a compare.
abbrev pub reads : Move → Bool
reads (LoadOf w) = true
reads (CompareOf w expected new) = true
reads (StoreOf w new) = false
reads (AddOf w by) = false

-- Whether a step has read its word and left it as found.
abbrev pub only_reads : Step → Bool
only_reads e = reads e.move && left_of e.move e.found == e.found

-- What the core's last step on the word, in the call that it entered last, has read there, if that step left it as found.
abbrev pub own_read : Trace → ℕ → Word → Option ℕ
own_read [] c w = None
own_read (e ∷ t) c w =
    if c == e.core
    then (if same_word w (word_of e.move) then (if only_reads e then Some e.found else None)
    else (if is_some e.enters then None else own_read t c w))
    else own_read t c w

-- The decision of a step that may decide.
abbrev pub decision_at : Option Reply → ℕ → ℕ → List Decision
decision_at None c i = []
decision_at (Some r) c i = record { core = c; index = i; reply = r } ∷ []

-- The decisions, in order; a call's index counts the core's calls from 1.
abbrev pub decisions_of : Trace → List Decision
decisions_of [] = []
decisions_of (e ∷ t) = decisions_of t ++ decision_at e.decides e.core (length (calls_of (e ∷ t) e.core))

-- The state in which the step e decides, if it does: that which the trace t left, with e's call entered.
abbrev pub state_before : Setting → Trace → Step → State
state_before setup t e = state_entered e.enters (state_after setup t) e.core

-- What is said, where this is not the case.
abbrev pub IfNot : Bool → Type 0 → Type 0
IfNot true Said = ⊥
IfNot false Said = Said

-- At a moment of core c's call that is open after t, the state was as said: after one of the steps from its invocation on.
abbrev pub WasAt : (State → Type 0) → Setting → Trace → ℕ → Type 0
WasAt P setup [] c = ⊥
WasAt P setup (e ∷ t) c = P (state_after setup (e ∷ t)) ⊎ IfNot (c == e.core && is_some e.enters) (WasAt P setup t c)

-- At a moment of e's call, up to its step e, the state was as said.
abbrev pub WasBefore : (State → Type 0) → Setting → Trace → Step → Type 0
WasBefore P setup t e = P (state_before setup t e) ⊎ IfNot (is_some e.enters) (WasAt P setup t e.core)
