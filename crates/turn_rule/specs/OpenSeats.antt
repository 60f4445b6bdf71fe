-- A seat that is open while its program makes a whole call: the hand makes the steps, and the program is what they leave of the one that
-- began the call.
use Rattle.std.specs.Prelude.{◌≡◌, ◌⊎◌, ℕ, ◌<◌, ◌==◌, List, [], ◌∷◌, length, if◌then◌else◌, Option, Some, None, option_map, unwrap_or}
use Rattle.spk_nums.specs.{declared.steps.WordOp.WordOp, WordSteps.told_by}
use Rattle.turn_rule.specs.{declared.view.Entry.Entry, declared.view.Start.Start, Steps.Steps, Trace.called, Trace.MayCall}
use Rattle.turn_rule.specs.{Trace.program_after, Rule.IsSeated, Hands.Hand, Seats.TableValue, Seats.SeatValue, Seats.FollowsTrace}
use Rattle.turn_rule.specs.{Seats.Turns, Seats.TurnsOn}

-- the seat as it was before the call, the call, and what the hand has seen since
pub record OpenValue (P C : Type 0) : Type 0 where
  pub seat : SeatValue P C
  pub call : C
  pub seen : List (Entry C)

module _ {P C : Type 0} where
  -- the core of a seat that may be none, and what it has seen
  abbrev pub core_of : Option (SeatValue P C × C) → ℕ
  core_of None = 0
  core_of (Some b) = b.0.core

  abbrev pub seen_of : Option (SeatValue P C × C) → List (Entry C)
  seen_of None = []
  seen_of (Some b) = b.0.seen

  abbrev pub call_of : Option (SeatValue P C × C) → Option C
  call_of None = None
  call_of (Some b) = Some b.1

  -- a seat that began this call, of this table, with this program
  abbrev pub began_at : Option (SeatValue P C × C) → TableValue P → P → SeatValue P C
  began_at b table p = record { table = table; core = core_of b; seen = seen_of b; program = p }

  -- the call begins with the next step, where no more is seen than before
  abbrev pub pending : SeatValue P C → C → List (Entry C) → Option C
  pending seat call seen = if length seen == length seat.seen then Some call else None

  -- the same, of what it was lent with
  abbrev pub begins_of : Option (SeatValue P C × C) → List (Entry C) → Option C
  begins_of b seen = if length seen == length (seen_of b) then call_of b else None

module _ {P C : Type 0} (T : Steps P C) where
  -- the seat's program after what is seen now, and once the call that is pending, if it is, is begun
  abbrev pub been : SeatValue P C → List (Entry C) → P
  been seat seen = unwrap_or (program_after T seat.table.start seen seat.core) seat.program

  abbrev pub going : SeatValue P C → C → List (Entry C) → P
  going seat call seen = called T (been seat seen) (pending seat call seen)

  -- the seat with what is seen now
  abbrev pub now_at : SeatValue P C → List (Entry C) → SeatValue P C
  now_at seat seen = record { table = seat.table; core = seat.core; seen = seen; program = been seat seen }

  -- the program that made the newest step, and what the step told
  abbrev pub told_at : Option WordOp → ℕ → ℕ
  told_at None n = n
  told_at (Some op) n = told_by op n

  abbrev pub newest : Start P → ℕ → List (Entry C) → Option (P × ℕ)
  newest start c [] = None
  newest start c (e ∷ t) =
      option_map (λ p. (called T p e.call, told_at (T.next (called T p e.call)) e.found)) (program_after T start t c)

  -- the step of the call made last
  abbrev pub last_step : SeatValue P C → List (Entry C) → Option (P × ℕ)
  last_step seat seen = if length seen == length seat.seen then None else newest seat.table.start seat.core seen

  -- the call has made its first step and some more
  pub record IsBegun (seat : SeatValue P C) (call : C) (seen : List (Entry C)) : Type 0 where
    pub longer : length seat.seen < length seen
    pub begun : SeatValue P C
    pub first : Turns T seat (Some call) begun
    pub count : ℕ
    pub rest : TurnsOn T count begun (now_at seat seen)

  -- what an open seat keeps: the hand is that of the seat that began the call, and has made the call's steps so far
  pub record IsOpen (b : Option (SeatValue P C × C)) (h : Hand P C) (seat : SeatValue P C) (call : C) : Type 0 where
    pub began : b ≡ Some (seat, call)
    pub table : h.table_id ≡ seat.table.id
    pub start : h.me.0.own.start ≡ seat.table.start
    pub before : FollowsTrace T seat
    pub seated : IsSeated T seat.core h.me (been seat h.me.0.own.seen)
    pub may : MayCall T (been seat h.me.0.own.seen) (pending seat call h.me.0.own.seen)
    pub size : T.size (going seat call h.me.0.own.seen) ≡ length seat.table.start.words
    pub made : (h.me.0.own.seen ≡ seat.seen) ⊎ IsBegun seat call h.me.0.own.seen
