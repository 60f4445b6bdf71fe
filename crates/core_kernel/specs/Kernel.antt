-- A kernel, its seats and its notes as contracts see them.
use Rattle.std.specs.Prelude.{◌≡◌}
use Rattle.flight_laws.specs.core_invariant.specs.{ℕ, List, [], length, slice_get, Some, None, Call, Setting, IsSetting, Trace}
use Rattle.core_kernel.specs.{declared.core_run.CoreRun.CoreRun, Running.running, Seen.IsStart, Seen.trace_of}
use Rattle.{turn_rule.specs.TableValue, turn_rule.specs.SeatValue, turn_rule.specs.FollowsTrace, turn_rule.specs.Seats.NoteValue}

-- Which kernel it is, and with what it was booted.
pub record KernelValue : Type 0 where
  pub table : TableValue CoreRun
  pub setup : Setting

-- The kernel that a seat is of, its core, and the trace that it has seen.
pub record CoreSeatValue : Type 0 where
  pub kernel : KernelValue
  pub core : ℕ
  pub seen : Trace

-- The kernel that a note is of, and the trace that it tells of.
pub record CoreNoteValue : Type 0 where
  pub kernel : KernelValue
  pub seen : Trace

abbrev pub kernel_value : Setting → TableValue CoreRun → KernelValue
kernel_value setup table = record { table = table; setup = setup }

abbrev pub seat_value : Setting → SeatValue CoreRun Call → CoreSeatValue
seat_value setup s = record { kernel = kernel_value setup s.table; core = s.core; seen = trace_of setup s.seen }

abbrev pub note_value : Setting → NoteValue CoreRun Call → CoreNoteValue
note_value setup n = record { kernel = kernel_value setup n.table; seen = trace_of setup n.seen }

-- The table was made with this setup's boot words and cores.
pub record IsBooted (setup : Setting) (table : TableValue CoreRun) : Type 0 where
  pub setting : IsSetting setup
  pub start : IsStart setup table.start

-- What a core's seat keeps: its table is booted, its trace is the table's, and its core is between calls.
pub record IsSeat (setup : Setting) (s : SeatValue CoreRun Call) : Type 0 where
  pub booted : IsBooted setup s.table
  pub follows : FollowsTrace running s
  pub between : s.program.state.active ≡ None

-- These are all seats of the kernel, in the order of their cores.
pub record AreAllSeats (of : KernelValue) (seats : List CoreSeatValue) : Type 0 where
  pub count : length seats ≡ of.setup.cores
  pub kernel : (k : ℕ) (s : CoreSeatValue) → slice_get seats k ≡ Some s → s.kernel ≡ of
  pub core : (k : ℕ) (s : CoreSeatValue) → slice_get seats k ≡ Some s → s.core ≡ k

-- Each seat has seen the empty trace.
abbrev pub AreFresh : List CoreSeatValue → Type 0
AreFresh seats = (k : ℕ) (s : CoreSeatValue) → slice_get seats k ≡ Some s → s.seen ≡ []
