-- A table of endpoints and its seats as contracts see them.
use Rattle.std.specs.Prelude.{◌≡◌, ℕ, ◌+◌, ◌<◌, ◌≤◌, List, [], length, slice_get, slice_index, Some, None}
use Rattle.turn_rule.specs.{TableValue, SeatValue, FollowsTrace}
use Rattle.async_ends.specs.{declared.endpoint.EndCall.EndCall, declared.run.EndStage.TheVariants.Idle, Events.Event}
use Rattle.async_ends.specs.{Events.ExtendsByOthers, Events.IsLegal, Events.AreCrossed, Events.AreOfOthers, Events.receiving}
use Rattle.async_ends.specs.{Events.untaken, Events.sent_to, Events.taken_at, Running.EndCore, Running.unused, Running.end_steps}
use Rattle.{std.specs.List.AllZip, turn_rule.specs.declared.view.Entry.Entry, turn_rule.specs.declared.view.Start.Start}
use Rattle.{async_ends.specs.Running.most_calls, async_ends.specs.Seen.history_of}

-- Which table it is, and its numbers of frames and cores.
pub record EndTableValue : Type 0 where
  pub table : TableValue EndCore
  pub frames : ℕ
  pub cores : ℕ

-- The table that a seat is of, its core, the entries that it has seen, and how many calls were made with it.
pub record EndSeatValue : Type 0 where
  pub table : EndTableValue
  pub core : ℕ
  pub seen : List (Entry EndCall)
  pub made : ℕ

abbrev pub table_value : ℕ → ℕ → TableValue EndCore → EndTableValue
table_value frames cores t = record { table = t; frames = frames; cores = cores }

abbrev pub seat_value : ℕ → ℕ → ℕ → SeatValue EndCore EndCall → EndSeatValue
seat_value frames cores made s = record { table = table_value frames cores s.table; core = s.core; seen = s.seen; made = made }

-- The table began with a count of 0 for each frame, and with cores that had begun no call.
pub record IsStart (frames cores : ℕ) (start : Start EndCore) : Type 0 where
  pub some : 0 < frames
  pub most : frames ≤ 512
  pub few : cores ≤ 8
  pub size : length start.words ≡ frames
  pub words : (i : ℕ) → slice_index start.words i ≡ 0
  pub count : length start.programs ≡ cores
  pub each : (c : ℕ) (p : EndCore) → slice_get start.programs c ≡ Some p → p ≡ unused frames

-- What a core's seat keeps: its trace is the table's, its core is between calls, and has begun at most those that were made.
pub record IsSeat (frames cores made : ℕ) (s : SeatValue EndCore EndCall) : Type 0 where
  pub start : IsStart frames cores s.table.start
  pub follows : FollowsTrace end_steps s
  pub idle : s.program.stage ≡ Idle
  pub frames_are : s.program.frames ≡ frames
  pub begun : s.program.begun ≤ made
  pub most : made ≤ most_calls

-- These are all seats of the table, in the order of their cores.
pub record AreAllSeats (of : EndTableValue) (seats : List EndSeatValue) : Type 0 where
  pub count : length seats ≡ of.cores
  pub table : (k : ℕ) (s : EndSeatValue) → slice_get seats k ≡ Some s → s.table ≡ of
  pub core : (k : ℕ) (s : EndSeatValue) → slice_get seats k ≡ Some s → s.core ≡ k

-- Each seat has made no call and has seen the empty history.
abbrev pub AreFresh : List EndSeatValue → Type 0
AreFresh seats = (k : ℕ) (s : EndSeatValue) → slice_get seats k ≡ Some s → (s.seen ≡ []) × (s.made ≡ 0)

-- There is one legal history, which begins with each seat's and has no further event of the seat's core. No receive is in progress after
-- it, and each that was raced was crossed. The count left for each frame is what was sent there since the last receive that took some, so
-- it is the sends less what was taken.
pub record EndsAt (table : EndTableValue) (seats : List EndSeatValue) (counts : List ℕ) : Type 0 where
  pub history : List Event
  pub legal : IsLegal history
  pub crossed : AreCrossed history
  pub returned : (c : ℕ) → receiving history c ≡ None
  pub begins : (k : ℕ) (s : EndSeatValue) → slice_get seats k ≡ Some s → ExtendsByOthers s.core (history_of s.seen) history
  pub no_other : (c : ℕ) → table.cores ≤ c → AreOfOthers c history
  pub count : length counts ≡ table.frames
  pub left : (f : ℕ) → slice_index counts f ≡ untaken history f
  pub balance : (f : ℕ) → slice_index counts f + taken_at history f ≡ sent_to history f

-- A seat of the shared words, and the same one as a seat of the endpoints, with some numbers of frames, cores and calls.
pub record IsWrapped (turn_seat : SeatValue EndCore EndCall) (seat : EndSeatValue) : Type 0 where
  pub same : seat_value seat.table.frames seat.table.cores seat.made turn_seat ≡ seat
  pub is : IsSeat seat.table.frames seat.table.cores seat.made turn_seat

-- The seats of the shared words, and the same ones as seats of the endpoints.
abbrev pub AreWrapped : List (SeatValue EndCore EndCall) → List EndSeatValue → Type 0
AreWrapped turn_seats seats = AllZip IsWrapped turn_seats seats
