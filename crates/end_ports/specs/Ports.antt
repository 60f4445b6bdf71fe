-- A port with its seat at the endpoints, and the machine that deals it.
use Rattle.std.specs.Prelude.{◌≡◌, ◌+◌}
use Rattle.core_machine.specs.core_kernel.specs.flight_laws.specs.core_invariant.specs.{ℕ, List, [], length, slice_get, Some}
use Rattle.async_ends.specs.{Comes, look, EndTableValue, EndSeatValue}
use Rattle.core_machine.specs.{SeatsValue, IsDealt}
use Rattle.async_ends.specs.{declared.endpoint.EndOp.EndOp, declared.endpoint.EndReply.EndReply}
use Rattle.{core_machine.specs.core_kernel.specs.flight_laws.specs.core_invariant.specs.Reply}
use Rattle.{core_machine.specs.core_kernel.specs.Kernel.CoreSeatValue, ends_runners.specs.Looks.HasLooked}

-- The port at the kernel, and the seat at the endpoints.
pub record EndPortValue : Type 0 where
  pub port : CoreSeatValue
  pub end : EndSeatValue

-- The machine, and the table of endpoints.
pub record EndSeatsValue : Type 0 where
  pub seats : SeatsValue
  pub table : EndTableValue

-- The core has looked at the capability, and has made at the endpoints the call that the look allowed, or none where it was refused.
pub record HasAsked (op : EndOp) (number : ℕ) (port : EndPortValue) (r : EndReply) (made : EndPortValue) : Type 0 where
  pub looked : Reply
  pub looks : HasLooked port.port (look number looked) made.port
  pub comes : Comes op (look number looked) r port.end made.end

-- A seat of the table, of this core, with which no call was made.
pub record IsFreshEnd (of : EndTableValue) (core : ℕ) (s : EndSeatValue) : Type 0 where
  pub table : s.table ≡ of
  pub core_is : s.core ≡ core
  pub seen : s.seen ≡ []
  pub made : s.made ≡ 0

-- The port is of the machine and of the next core in order, and has seen nothing yet.
pub record IsPortDealt (seats : EndSeatsValue) (p : EndPortValue) : Type 0 where
  pub port : IsDealt seats.seats p.port
  pub end : IsFreshEnd seats.table seats.seats.dealt p.end

-- The seats left at the endpoints stand in the order of their cores, from the next one to be dealt.
pub record HasEnds (of : EndTableValue) (cores dealt : ℕ) (here : List EndSeatValue) : Type 0 where
  pub frames : of.frames ≡ 512
  pub count : dealt + length here ≡ cores
  pub each : (k : ℕ) (s : EndSeatValue) → slice_get here k ≡ Some s → IsFreshEnd of (dealt + k) s
