-- Calls and steps in a trace.
use Rattle.std.specs.Prelude.{◌≡◌, ℕ, ◌+◌, ◌≤◌, ◌==◌, List, [], ◌∷◌, ◌++◌, if◌then◌else◌, option_to_list, IsNone}
use Rattle.turn_rule.specs.{TableValue, SeatValue, declared.view.Entry.Entry, Trace.Extends}
use Rattle.turn_tests.specs.{declared.counter.Counter.Counter, Counter.next_at}

module _ {C : Type 0} where
  -- the calls that core c began, the newest first
  abbrev pub calls_of : ℕ → List (Entry C) → List C
  calls_of c [] = []
  calls_of c (e ∷ t) = (if e.core == c then option_to_list e.call else []) ++ calls_of c t

  -- how many steps core c made
  abbrev pub steps_of : ℕ → List (Entry C) → ℕ
  steps_of c [] = 0
  steps_of c (e ∷ t) = (if e.core == c then 1 else 0) + steps_of c t

-- the seat has seen all that it had, these calls of its core more, and at most n steps of it more
pub record Makes {P C : Type 0} (seat : SeatValue P C) (calls : List C) (n : ℕ) (made : SeatValue P C) : Type 0 where
  pub begins : Extends seat.seen made.seen
  pub calls_are : calls_of made.core made.seen ≡ calls ++ calls_of seat.core seat.seen
  pub steps : steps_of made.core made.seen ≤ steps_of seat.core seat.seen + n
  pub core : made.core ≡ seat.core
  pub table : made.table ≡ seat.table

-- the seat is the same one, and has seen all that it had
pub record GoesOn {P C : Type 0} (seat now : SeatValue P C) : Type 0 where
  pub begins : Extends seat.seen now.seen
  pub core : now.core ≡ seat.core
  pub table : now.table ≡ seat.table

-- the seat is of this table, and its core is between calls
abbrev pub MayCount : TableValue Counter → SeatValue Counter ℕ → Type 0
MayCount table seat = (seat.table ≡ table) × IsNone (next_at seat.program.stage)
