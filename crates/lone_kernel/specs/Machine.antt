-- What a machine for given orders is, and one step of a core.
use Rattle.std.specs.Prelude.{◌≡◌, ◌≢◌, ◌+◌, ◌-◌, ◌<◌, ◌≤◌, ◌^◌, ◌++◌}
use Rattle.flight_laws.specs.core_invariant.specs.{Bool, true, false, ℕ, List, [], length}
use Rattle.flight_laws.specs.core_invariant.specs.{slice_get, slice_index, get_or as slice_index_or, set as slice_set, Option, Some, None}
use Rattle.flight_laws.specs.core_invariant.specs.{option_map, All, IsSome, InLimits, Call, Decision, How, Setting, Shape, place_of}
use Rattle.flight_laws.specs.core_invariant.specs.{size_of, word_of, left_of, told_of, Step, decision_at, Core, IsCore, started, move_of}
use Rattle.flight_laws.specs.core_invariant.specs.{ready_of, absorbed, told_of_step, shape_of, decided_in, Absorbed, ActiveCall}
use Rattle.flight_laws.specs.flight.specs.{is_decided_at, is_decided_in, turned, step_of}
use Rattle.boot_words.specs.kernel_rules.specs.{One, Ready, Decide, Return}
use Rattle.call_steps.specs.call_stages.specs.declared.stages.Absorbed.TheVariants.{Going, Decided, Returned}
use Rattle.lone_kernel.specs.{declared.seats.Seat.Seat, declared.seats.Turn.Turn, declared.seats.Turn.TheVariants.Begins}
use Rattle.lone_kernel.specs.{declared.seats.Turn.TheVariants.GoesOn}

-- A machine: its setup, its words, each core's list of calls, where each core stands, and the decisions in order.
pub record Machine : Type 0 where
  pub setup : Setting
  pub words : List ℕ
  pub lists : List (List Call)
  pub seats : List Seat
  pub decisions : List Decision

-- A core that has made no call of its list.
abbrev pub fresh_seat : Setting → ℕ → List Call → Seat
fresh_seat setup c list = record { begun = 0; due = length list; state = started c setup }

-- Where core c stands, its state, and its list.
abbrev pub seat_at : Machine → ℕ → Seat
seat_at m c = slice_index_or m.seats c (fresh_seat m.setup c [])

abbrev pub core_at : Machine → ℕ → Core
core_at m c = (seat_at m c).state

abbrev pub list_at : Machine → ℕ → List Call
list_at m c = slice_index_or m.lists c []

-- The turn of a core: the next call of its list begins where there is none active.
abbrev pub turn_if : List Call → ℕ → Option ActiveCall → Option Turn
turn_if list begun None = option_map Begins (slice_get list begun)
turn_if list begun (Some f) = Some GoesOn

abbrev pub turn_of : List Call → Seat → Option Turn
turn_of list seat = turn_if list seat.begun seat.state.active

abbrev pub turn_at : Machine → ℕ → Option Turn
turn_at m c = turn_of (list_at m c) (seat_at m c)

-- The core is between calls and its list is finished.
abbrev pub IsFinished : Machine → ℕ → Type 0
IsFinished m c = turn_at m c ≡ None

-- Core c has a active call.
abbrev pub IsInCall : Machine → ℕ → Type 0
IsInCall m c = (core_at m c).active ≢ None

-- The call of core c is decided.
abbrev pub HasDecided : Machine → ℕ → Type 0
HasDecided m c = is_decided_in (core_at m c).active ≡ true

-- Core c is ready: the next step is the one at which its call's `ok` is decided, or its call has decided.
abbrev pub IsReady : Machine → ℕ → Type 0
IsReady m c = ready_of (core_at m c) ≡ true

-- An item of an order that takes core c this far is done: one step always is, once it is made.
abbrev pub IsThere : How → Machine → ℕ → Type 0
IsThere One m c = Unit {0}
IsThere Ready m c = IsReady m c
IsThere Decide m c = HasDecided m c
IsThere Return m c = (core_at m c).active ≡ None

-- An item that takes core c this far is done before it makes a step.
abbrev pub IsDone : How → Machine → ℕ → Type 0
IsDone One m c = ⊥
IsDone Ready m c = IsReady m c
IsDone Decide m c = HasDecided m c
IsDone Return m c = ⊥

-- The decision of a active call that is still to come, as a number.
abbrev pub due_at : Bool → ℕ
due_at true = 0
due_at false = 1

abbrev pub due_in : Option ActiveCall → ℕ
due_in None = 0
due_in (Some f) = due_at (is_decided_at f.stage)

-- A core of the machine: the calls begun and those whose decisions are still to come are those of the list, where an open call
-- is both; and it is this core of the machine.
pub record IsFitSeat (setup : Setting) (list : List Call) (c : ℕ) (seat : Seat) : Type 0 where
  pub sum : seat.begun + seat.due ≡ length list + due_in seat.state.active
  pub begun : seat.begun ≤ length list
  pub small : length list < 2 ^ 32
  pub core : seat.state.own.core ≡ c
  pub shape : seat.state.own.layout ≡ shape_of setup
  pub fits : IsCore seat.state

-- Lists that can be run: their calls are in their limits, and there are fewer than 2^32 in each.
abbrev pub AreLists : List (List Call) → Type 0
AreLists lists = All (λ list. All InLimits list × (length list < 2 ^ 32)) lists

-- The machine has a word for each place, and a list and a seat for each core of the setup; the calls of the lists are in their limits.
pub record IsFit (m : Machine) : Type 0 where
  pub size : length m.words ≡ size_of (shape_of m.setup)
  pub lists : length m.lists ≡ m.setup.cores
  pub seats : length m.seats ≡ m.setup.cores
  pub calls : (c : ℕ) → c < m.setup.cores → All InLimits (list_at m c)
  pub each : (c : ℕ) → c < m.setup.cores → IsFitSeat m.setup (list_at m c) c (seat_at m c)

-- The invocation of a call that begins at this turn.
abbrev pub enters_as : Turn → Option Call
enters_as (Begins call) = Some call
enters_as GoesOn = None

-- The core that takes a turn, its call begun.
abbrev pub core_in : Core → Turn → Core
core_in core f = turned (enters_as f) core

-- The calls begun at a turn.
abbrev pub begun_by : Turn → ℕ → ℕ
begun_by (Begins call) n = n + 1
begun_by GoesOn n = n

-- The decisions of a step that told this, as a number.
abbrev pub decisions_in : Absorbed → ℕ
decisions_in Going = 0
decisions_in (Decided r) = 1
decisions_in (Returned r) = 0

-- What a core's step on its word is told, where it finds this.
abbrev pub said_by : Core → ℕ → Absorbed
said_by core found = told_of_step core (told_of (move_of core) found)

-- The seat after the step of a turn that finds this word.
abbrev pub seat_after : Seat → Turn → ℕ → Seat
seat_after seat f found = record {
  begun = begun_by f seat.begun;
  due = seat.due - decisions_in (said_by (core_in seat.state f) found);
  state = absorbed (core_in seat.state f) (told_of (move_of (core_in seat.state f)) found);
}

-- The place of the word of a core's next step.
abbrev pub place_next : Shape → Core → ℕ
place_next shape core = place_of shape (word_of (move_of core))

-- The words after the step of a core that finds this.
abbrev pub words_after : Shape → List ℕ → Core → ℕ → List ℕ
words_after shape words core found = slice_set words (place_next shape core) (left_of (move_of core) found)

-- The word found by a turn of core c.
abbrev pub found_by : Machine → ℕ → Turn → ℕ
found_by m c f = slice_index m.words (place_next (shape_of m.setup) (core_in (core_at m c) f))

-- The machine after core c's step at turn f.
abbrev pub stepped : Machine → ℕ → Turn → Machine
stepped m c f = record {
  setup = m.setup;
  words = words_after (shape_of m.setup) m.words (core_in (core_at m c) f) (found_by m c f);
  lists = m.lists;
  seats = slice_set m.seats c (seat_after (seat_at m c) f (found_by m c f));
  decisions =
      m.decisions
      ++ decision_at (decided_in (said_by (core_in (core_at m c) f) (found_by m c f))) c (begun_by f (seat_at m c).begun);
}

-- That step.
abbrev pub step_in : Machine → ℕ → Turn → Step
step_in m c f = step_of c (enters_as f) (core_in (core_at m c) f) (found_by m c f)

-- A core may take a turn: it has an active call, or none and the turn's call is in its limits.
pub record CanBegin (call : Call) (core : Core) : Type 0 where
  pub between : core.active ≡ None
  pub limits : InLimits call

abbrev pub CanTake : Turn → Core → Type 0
CanTake (Begins call) core = CanBegin call core
CanTake GoesOn core = IsSome core.active

-- From one seat and list of words to others: the core's next step, of which this is told.
pub record MakesTurn (shape : Shape) (seat seat' : Seat) (before after : List ℕ) (said : Absorbed) : Type 0 where
  pub told : said ≡ said_by seat.state (slice_index before (place_next shape seat.state))
  pub begun : seat'.begun ≡ seat.begun
  pub due : seat'.due ≡ seat.due - decisions_in said
  pub state : seat'.state ≡ absorbed seat.state (told_of (move_of seat.state) (slice_index before (place_next shape seat.state)))
  pub words : after ≡ words_after shape before seat.state (slice_index before (place_next shape seat.state))

-- From one seat and list of words to others by a turn: its step, of which this is told.
pub record TakesTurn (shape : Shape) (seat : Seat) (f : Turn) (seat' : Seat) (before after : List ℕ) (said : Absorbed) : Type 0 where
  pub told : said ≡ said_by (core_in seat.state f) (slice_index before (place_next shape (core_in seat.state f)))
  pub behind : seat' ≡ seat_after seat f (slice_index before (place_next shape (core_in seat.state f)))
  pub words : after ≡ words_after shape before (core_in seat.state f) (slice_index before (place_next shape (core_in seat.state f)))

-- Each core stands before the first call of its list.
pub record AreFresh (setup : Setting) (lists : List (List Call)) (seats : List Seat) : Type 0 where
  pub count : length seats ≡ length lists
  pub each : (c : ℕ) → c < length lists → slice_index_or seats c (fresh_seat setup c []) ≡ fresh_seat setup c (slice_index_or lists c [])
