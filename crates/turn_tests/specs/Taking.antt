-- What a call takes, and what the words show.
use Rattle.std.specs.Prelude.{◌≡◌, ℕ, ◌+◌, ◌%◌, ◌^◌, List, ◌∷◌, ◌++◌, Some, None, IsNone, All, sum_by, slice_get, slice_index}
use Rattle.turn_rule.specs.{entry, AreOfOthers, TableValue, SeatValue, FollowsTrace}
use Rattle.spk_nums.specs.declared.steps.WordOp.TheVariants.{Load, Store, Add}
use Rattle.turn_rule.specs.{declared.view.Entry.Entry, declared.view.Start.Start}
use Rattle.turn_tests.specs.{declared.taker.Phase.Phase, declared.taker.Phase.TheVariants.Idle, declared.taker.Phase.TheVariants.Takes}
use Rattle.turn_tests.specs.{declared.taker.Phase.TheVariants.Shows, declared.taker.Phase.TheVariants.ReadsBack, declared.taker.Taker.Taker}
use Rattle.turn_tests.specs.{Counting.GoesOn, Taker.taker, Taker.word_place, Taker.next_in, Taker.taker_steps}

-- the ticket in the core's own word: the last one, or one that was stored and is not read back yet
abbrev pub shown_in : Phase → ℕ → ℕ
shown_in Idle last = last
shown_in (Takes count) last = last
shown_in (Shows ticket) last = last
shown_in (ReadsBack ticket) last = ticket

-- word 0 is the number of tickets taken, and each core's own word its ticket
pub record AreShown (words : List ℕ) (programs : List Taker) : Type 0 where
  pub taken : slice_index words 0 ≡ sum_by (λ p. p.taken) programs % 2 ^ 64
  pub own : All (λ p. slice_index words (word_place p.side) ≡ shown_in p.phase p.last) programs

-- the words show the tickets at the start, and no two cores have the same side
pub record IsOpen (start : Start Taker) : Type 0 where
  pub shown : AreShown start.words start.programs
  pub apart : (c d : ℕ) (p q : Taker) → slice_get start.programs c ≡ Some p → slice_get start.programs d ≡ Some q → p.side ≡ q.side → c ≡ d

-- the seat is of this table, and its core is between calls
abbrev pub MayTake : TableValue Taker → SeatValue Taker ℕ → Type 0
MayTake table seat = (seat.table ≡ table) × IsNone (next_in seat.program.side seat.program.phase)

-- the call took so many tickets, from this one on: its add found it, its store left it in place of the last one, its load found it there
pub record TakesFrom (seat : SeatValue Taker ℕ) (count ticket : ℕ) (made : SeatValue Taker ℕ) : Type 0 where
  pub before_add : List (Entry ℕ)
  pub before_store : List (Entry ℕ)
  pub before_load : List (Entry ℕ)
  pub apart : AreOfOthers seat.core before_add × AreOfOthers seat.core before_store × AreOfOthers seat.core before_load
  pub seen : made.seen ≡ entry seat.core (Load (word_place seat.program.side)) ticket None
      ∷ (before_load ++ entry seat.core (Store (word_place seat.program.side) ticket) seat.program.last None
      ∷ (before_store ++ entry seat.core (Add 0 count) ticket (Some count) ∷ (before_add ++ seat.seen)))
  pub program : made.program ≡ taker seat.program.side Idle ((seat.program.taken + count) % 2 ^ 64) ticket
  pub core : made.core ≡ seat.core
  pub table : made.table ≡ seat.table

-- the seat made calls that took so many tickets in all, and its core is between calls
pub record HasTaken (seat : SeatValue Taker ℕ) (tickets : ℕ) (now : SeatValue Taker ℕ) : Type 0 where
  pub goes_on : GoesOn seat now
  pub idle : IsNone (next_in now.program.side now.program.phase)
  pub taken : now.program.taken % 2 ^ 64 ≡ (seat.program.taken + tickets) % 2 ^ 64
  pub follows : FollowsTrace taker_steps seat → FollowsTrace taker_steps now
