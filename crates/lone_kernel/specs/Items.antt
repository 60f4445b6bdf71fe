-- How a core takes an item of an order, by what its steps change: its seat, the words and the decisions.
use Rattle.std.specs.Prelude.{◌≡◌, ◌+◌, ◌<◌}
use Rattle.boot_words.specs.kernel_rules.specs.{Bool, true, false, ℕ, List, length, set as slice_set, sum_by, Some}
use Rattle.boot_words.specs.kernel_rules.specs.{IsSetting, Decision, How, One, Ready, Decide, Return}
use Rattle.flight_laws.specs.core_invariant.specs.{Core, ready_of, Absorbed}
use Rattle.call_steps.specs.call_stages.specs.declared.stages.Absorbed.TheVariants.{Going, Decided, Returned}
use Rattle.lone_kernel.specs.{declared.seats.Seat.Seat, declared.seats.Turn.Turn, Machine.Machine, Machine.IsFit, Machine.seat_at}
use Rattle.lone_kernel.specs.{Machine.turn_at, Moves.GoesBy, Moves.calls_left}

-- Whether an item that takes a core this far is done with a step that has told this and left the core so.
abbrev pub is_over : How → Absorbed → Core → Bool
is_over One said core = true
is_over Ready Going core = ready_of core
is_over Ready (Decided r) core = true
is_over Ready (Returned r) core = true
is_over Decide Going core = false
is_over Decide (Decided r) core = true
is_over Decide (Returned r) core = true
is_over Return Going core = false
is_over Return (Decided r) core = false
is_over Return (Returned r) core = true

-- The machine in which these stand in the place of core c's seat, of the words and of the decisions.
abbrev pub placed : Machine → ℕ → Seat → List ℕ → List Decision → Machine
placed m c seat words decisions =
    record { setup = m.setup; words = words; lists = m.lists; seats = slice_set m.seats c seat; decisions = decisions }

-- Core c of the machine is at this turn, and these are its seat, the words and the decisions.
pub record IsAt (m : Machine) (c : ℕ) (f : Turn) (seat : Seat) (words : List ℕ) (decisions : List Decision) : Type 0 where
  pub fit : IsFit m
  pub setting : IsSetting m.setup
  pub here : c < m.setup.cores
  pub begins : turn_at m c ≡ Some f
  pub seat_is : seat ≡ seat_at m c
  pub words_are : words ≡ m.words
  pub decisions_are : decisions ≡ m.decisions

-- Each trace goes on by the stretch of an item of core c, and the decisions made and those due add up to what they were.
pub record TakesItem (how : How) (m m' : Machine) (c : ℕ) : Type 0 where
  pub fit : IsFit m'
  pub goes : GoesBy how m m' c
  pub fewer : how ≡ Return → calls_left m' c < calls_left m c
  pub due : sum_by (λ seat. seat.due) m'.seats + length m'.decisions ≡ sum_by (λ seat. seat.due) m.seats + length m.decisions
