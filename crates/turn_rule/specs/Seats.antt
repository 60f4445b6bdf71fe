-- A table, its seats and its notes as contracts see them, and what the calls do to them.
use Rattle.std.specs.Prelude.{◌≡◌, ℕ, zero, suc, List, [], ◌∷◌, ◌++◌, length, slice_get, slice_index, Option, Some, None, IsNone}
use Rattle.spk_nums.specs.{declared.steps.WordOp.WordOp, WordSteps.told_by}
use Rattle.turn_rule.specs.{declared.view.Entry.Entry, declared.view.Start.Start, Steps.Steps, Trace.entry, Trace.AreOfOthers}
use Rattle.turn_rule.specs.{Trace.Extends, Trace.ExtendsByOthers, Trace.word_after, Trace.called, Trace.program_after, Trace.IsSound}
use Rattle.{atomic_table.specs.Seated.TableId, turn_rule.specs.Trace.Follows}

-- which table it is, and its words and programs at the start
pub record TableValue (P : Type 0) : Type 0 where
  pub id : TableId
  pub start : Start P

-- the table that a seat is of, its core, the trace that it has seen, and the core's program after that trace
pub record SeatValue (P C : Type 0) : Type 0 where
  pub table : TableValue P
  pub core : ℕ
  pub seen : List (Entry C)
  pub program : P

-- the table that a note is of, and the trace that it tells of
pub record NoteValue (P C : Type 0) : Type 0 where
  pub table : TableValue P
  pub seen : List (Entry C)

module _ {P C : Type 0} where
  -- these are all seats of the table, in the order of their cores
  pub record AreAllSeats (t : TableValue P) (seats : List (SeatValue P C)) : Type 0 where
    pub count : length seats ≡ length t.start.programs
    pub table : (k : ℕ) (s : SeatValue P C) → slice_get seats k ≡ Some s → s.table ≡ t
    pub core : (k : ℕ) (s : SeatValue P C) → slice_get seats k ≡ Some s → s.core ≡ k

  -- each seat has seen nothing yet, and its program is its core's at the start
  pub record AreFresh (table : TableValue P) (seats : List (SeatValue P C)) : Type 0 where
    pub seen : (k : ℕ) (s : SeatValue P C) → slice_get seats k ≡ Some s → s.seen ≡ []
    pub program : (k : ℕ) (s : SeatValue P C) → slice_get seats k ≡ Some s → slice_get table.start.programs k ≡ Some s.program

  -- the seat has met the note: its trace begins with what both had seen, and has no further step of its core
  pub record Meets (seat : SeatValue P C) (note : NoteValue P C) (met : SeatValue P C) : Type 0 where
    pub own : ExtendsByOthers seat.core seat.seen met.seen
    pub told : Extends note.seen met.seen
    pub program : met.program ≡ seat.program
    pub core : met.core ≡ seat.core
    pub table : met.table ≡ seat.table

module _ {P C : Type 0} (T : Steps P C) where
  -- what the seat has seen is sound, and its program is its core's after that
  abbrev pub FollowsTrace : SeatValue P C → Type 0
  FollowsTrace s = Follows T s.table.start s.seen s.core s.program

  -- the seat has made the step op, at which the call, if any, began. Its trace goes on by steps of other cores and ends with this one, and
  -- the program took in the word
  pub record MakesStep (seat : SeatValue P C) (call : Option C) (op : WordOp) (made : SeatValue P C) : Type 0 where
    pub found : ℕ
    pub others : List (Entry C)
    pub apart : AreOfOthers seat.core others
    pub seen : made.seen ≡ entry seat.core op found call ∷ (others ++ seat.seen)
    pub program : made.program ≡ T.after (called T seat.program call) (told_by op found)
    pub core : made.core ≡ seat.core
    pub table : made.table ≡ seat.table

  -- the seat has made the step that its program has next, once the call, if any, is begun
  pub record Turns (seat : SeatValue P C) (call : Option C) (made : SeatValue P C) : Type 0 where
    pub op : WordOp
    pub next : T.next (called T seat.program call) ≡ Some op
    pub makes : MakesStep seat call op made
    pub follows : FollowsTrace made

  -- the seat has made so many steps, at which no call began
  abbrev pub TurnsOn : ℕ → SeatValue P C → SeatValue P C → Type 0
  TurnsOn zero seat made = made ≡ seat
  TurnsOn (suc n) seat made = (on : SeatValue P C) × Turns seat None on × TurnsOn n on made

  -- the seat has made the whole call: its first step and those after it, to where its program has no next step
  pub record MakesCall (seat : SeatValue P C) (call : C) (made : SeatValue P C) : Type 0 where
    pub begun : SeatValue P C
    pub first : Turns seat (Some call) begun
    pub count : ℕ
    pub rest : TurnsOn count begun made
    pub idle : IsNone (T.next made.program)

  -- the words and programs are those after one sound trace, which begins with what each seat has seen and has no further step
  pub record EndsAt (table : TableValue P) (seats : List (SeatValue P C)) (words : List ℕ) (programs : List P) : Type 0 where
    pub trace : List (Entry C)
    pub sound : IsSound T table.start trace
    pub begins : (k : ℕ) (s : SeatValue P C) → slice_get seats k ≡ Some s → ExtendsByOthers s.core s.seen trace
    pub word_count : length words ≡ length table.start.words
    pub word : (i : ℕ) → slice_index words i ≡ word_after table.start trace i
    pub program_count : length programs ≡ length table.start.programs
    pub program : (c : ℕ) → slice_get programs c ≡ program_after T table.start trace c
