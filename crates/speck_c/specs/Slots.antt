-- What a slot of C's holds, and what the exports make of it.
use Rattle.end_ports.specs.core_machine.specs.core_kernel.specs.flight_laws.specs.core_invariant.specs as low
use Rattle.std.specs.Prelude.{◌≡◌}
use low.{Bool, true, false, Option, Some, None, MatchOption, Call, Reply}
use Rattle.speck_c.specs.{declared.held.Held.Held, declared.held.What.What, declared.held.What.TheVariants.Machine}
use Rattle.speck_c.specs.{declared.held.What.TheVariants.Core, declared.held.What.TheVariants.Told, declared.held.What.TheVariants.Final}
use Rattle.speck_c.specs.{declared.held.What.TheVariants.Tables, declared.reply.SpeckReply.SpeckReply, declared.slot.Slot.Slot, Flat.flat}
use Rattle.{end_ports.specs.core_machine.specs.core_kernel.specs.Calls.MakesCall, end_ports.specs.Ports.EndPortValue}
use Rattle.{speck_c.specs.Flat.blank}

-- what the slot holds; nothing where it is not full
abbrev pub held_if : Bool → Option Held → Option Held
held_if true held = held
held_if false held = None

abbrev pub held_in : Slot → Option Held
held_in slot = held_if slot.full slot.handle.held

-- the port among what may be held
abbrev pub port_of : What → Option EndPortValue
port_of (Machine s) = None
port_of (Core p) = Some p
port_of (Told n) = None
port_of (Final i) = None
port_of (Tables t) = None

abbrev pub port_held : Option Held → Option EndPortValue
port_held None = None
port_held (Some h) = port_of h.what

-- The port has made the call at its kernel and was answered the reply, which is told; it is still held.
pub record HasAnswered (port : EndPortValue) (call : Call) (told : Option Reply) (now : Option EndPortValue) : Type 0 where
  pub reply : Reply
  pub made : EndPortValue
  pub makes : MakesCall port.port call reply made.port
  pub end : made.end ≡ port.end
  pub is_told : told ≡ Some reply
  pub still : now ≡ Some made

-- The port has made the call, and the answer tells its reply; it is still held.
pub record IsAnswered (port : EndPortValue) (call : Call) (answer : SpeckReply) (now : Option EndPortValue) : Type 0 where
  pub reply : Reply
  pub made : EndPortValue
  pub makes : MakesCall port.port call reply made.port
  pub end : made.end ≡ port.end
  pub is_told : answer ≡ flat reply
  pub still : now ≡ Some made

-- The call is made where a port is held; else 254 is answered, and what is held stays.
abbrev pub IsCalled : Option Held → Call → SpeckReply → Option Held → Type 0
IsCalled held call answer now =
    MatchOption (port_held held) ((answer ≡ blank 254) × (now ≡ held)) (λ p. IsAnswered p call answer (port_held now))

-- Of arguments outside the limits 255 is answered, and what is held stays.
abbrev pub IsOutside : Option Held → SpeckReply → Option Held → Type 0
IsOutside held answer now = (answer ≡ blank 255) × (now ≡ held)
