-- The hand of a seat, with which its core steps, where it is kept. It is away only while a whole call is made with it.
use Rattle.std.specs.Prelude.{◌≡◌, ℕ, List, [], length, Option, Some, None}
use Rattle.atomic_table.specs.{Seated.TableId, declared.shared.Seat.Seat}
use Rattle.spk_nums.specs.declared.steps.WordOp.{WordOp}
use Rattle.turn_rule.specs.{declared.view.View.View, declared.view.Entry.Entry, Steps.Steps, Seats.TableValue, Seats.SeatValue}
use Rattle.turn_rule.specs.Rule.{start_of, IsSeated, IsDue, Goes}

abbrev pub Hand : Type 0 → Type 0 → Type 0
Hand P C = Seat (Unit {0}) (View P C)

-- the table of a hand
abbrev pub table_of : {P C : Type 0} → Hand P C → TableValue P
table_of h = record { id = h.table_id; start = h.me.0.own.start }

-- of no table
abbrev pub nowhere : TableId
nowhere = record { words = 0; slots = 0; views_name = 0; atom = 0; block = 0; offset = 0; slot_names = [] }

-- the table of a seat with this hand, and what it has seen; without one it is a seat of no table
abbrev pub table_at : {P C : Type 0} → Option (Hand P C) → TableValue P
table_at None = record { id = nowhere; start = start_of [] [] }
table_at (Some h) = table_of h

abbrev pub seen_at : {P C : Type 0} → Option (Hand P C) → List (Entry C)
seen_at None = []
seen_at (Some h) = h.me.0.own.seen

-- a seat with this hand
abbrev pub seat_of : {P C : Type 0} → Option (Hand P C) → ℕ → P → SeatValue P C
seat_of o core p = record { table = table_at o; core = core; seen = seen_at o; program = p }

module _ {P C : Type 0} (T : Steps P C) where
  -- the seat has its hand, which keeps what a seat keeps
  abbrev pub IsHeld : Option (Hand P C) → ℕ → P → Type 0
  IsHeld None core p = ⊥
  IsHeld (Some h) core p = IsSeated T core h.me p

  -- the hand is of the table, and its core makes the step op, once the call, if any, is begun
  abbrev pub IsHandDue : TableValue P → Option (Hand P C) → Option C → WordOp → Type 0
  IsHandDue table None call op = ⊥
  IsHandDue table (Some h) call op = (h.table_id ≡ table.id) × IsDue T (length table.start.words) h.me call op

  -- the hand's core made the step op, and was told a word
  abbrev pub HandGoes : Option (Hand P C) → Option C → WordOp → ℕ → Option (Hand P C) → Type 0
  HandGoes None call op told new = ⊥
  HandGoes (Some h) call op told None = ⊥
  HandGoes (Some h) call op told (Some n) =
      (n.table_id ≡ h.table_id) × Goes T h.me.0.own call op told n.me.0.own × (n.me.1 ≡ h.me.1)
