-- The looks of a core in the kernel's trace.
use Rattle.std.specs.Prelude.{◌∷◌, ◌++◌}
use Rattle.core_kernel.specs.flight_laws.specs.core_invariant.specs.{List, [], Call, Reply, calls_of}
use Rattle.core_kernel.specs.{replies_of, CoreSeatValue, HasSeen, MakesCall}
use Rattle.async_ends.specs.{declared.asks.Look.Look, Looks.look}

-- A call with its reply, where it is a look.
abbrev pub look_if : Call → Reply → List Look
look_if (Call.Look a) r = look a r ∷ []
look_if _ r = []

-- The looks among these calls, with their replies.
abbrev pub looks_among : List Call → List Reply → List Look
looks_among (c ∷ cs) (r ∷ rs) = look_if c r ++ looks_among cs rs
looks_among [] rs = []
looks_among cs [] = []

-- All looks of the seat's core in the trace that it has seen, in order, with their replies.
abbrev pub looks_in : CoreSeatValue → List Look
looks_in seat = looks_among (calls_of seat.seen seat.core) (replies_of seat.seen seat.core)

-- The seat's core has made this look.
pub record HasLooked (seat : CoreSeatValue) (l : Look) (made : CoreSeatValue) : Type 0 where
  pub makes : MakesCall seat (Call.Look l.number) l.reply made
  pub seen : HasSeen made
