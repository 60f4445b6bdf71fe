-- What the exports on machines, ports and notes make of what their slots hold.
use Rattle.end_ports.specs.core_machine.specs.core_kernel.specs as low
use Rattle.std.specs.Prelude.{◌≡◌, ◌+◌, ◌≤◌, ◌⊎◌}
use low.flight_laws.specs.core_invariant.specs.{ℕ, Option, Some, None, [], Setting, IsSetting}
use Rattle.speck_c.specs.{declared.held.Held.Held, declared.held.What.What, declared.held.What.TheVariants.Machine}
use Rattle.speck_c.specs.{declared.held.What.TheVariants.Core, declared.held.What.TheVariants.Told, declared.held.What.TheVariants.Final}
use Rattle.{end_ports.specs.EndPortValue, end_ports.specs.EndSeatsValue, spk_nums.specs.SetupFaults.FaultOf}
use Rattle.{spk_nums.specs.declared.setup_fault.SetupFault.SetupFault, end_ports.specs.Ports.IsPortDealt}
use Rattle.{speck_c.specs.declared.held.What.TheVariants.Tables, speck_c.specs.Slots.port_held}
use low.{Kernel.CoreNoteValue, Calls.Meets}

-- the machine among what may be held
abbrev pub machine_of : What → Option EndSeatsValue
machine_of (Machine s) = Some s
machine_of (Core p) = None
machine_of (Told n) = None
machine_of (Final i) = None
machine_of (Tables t) = None

abbrev pub machine_held : Option Held → Option EndSeatsValue
machine_held None = None
machine_held (Some h) = machine_of h.what

-- the note among what may be held
abbrev pub note_of : What → Option CoreNoteValue
note_of (Machine s) = None
note_of (Core p) = None
note_of (Told n) = Some n
note_of (Final i) = None
note_of (Tables t) = None

abbrev pub note_held : Option Held → Option CoreNoteValue
note_held None = None
note_held (Some h) = note_of h.what

-- A machine of this setup that has just booted.
pub record IsNew (setup : Setting) (m : EndSeatsValue) : Type 0 where
  pub setup_is : m.seats.kernel.setup ≡ setup
  pub dealt : m.seats.dealt ≡ 0
  pub back : m.seats.back ≡ []

abbrev pub HoldsNew : Setting → Option EndSeatsValue → Type 0
HoldsNew setup None = ⊥
HoldsNew setup (Some m) = IsNew setup m

-- the number of what is wrong with a setup; there are as many cores as grants
abbrev pub setup_code : SetupFault → ℕ
setup_code SetupFault.Cores = 241
setup_code SetupFault.Frames = 242
setup_code SetupFault.GrantCount = 241
setup_code SetupFault.Grant = 243
setup_code SetupFault.Calls = 249
setup_code SetupFault.Epochs = 250

-- 0 comes with a new machine held; 247, out of memory, with what was held before.
abbrev pub Boots : Setting → Option Held → ℕ → Option Held → Type 0
Boots setup held answer now = ((answer ≡ 0) × HoldsNew setup (machine_held now)) ⊎ ((answer ≡ 247) × (now ≡ held))

-- The setup is outside the limits, and its first fault is answered.
pub record IsRefused (setup : Setting) (answer : ℕ) : Type 0 where
  pub why : SetupFault
  pub first : FaultOf setup why
  pub told : answer ≡ setup_code why

-- A machine of this setup boots, or the setup's first fault is answered and the slot stays empty.
abbrev pub BootsWith : Setting → ℕ → Option Held → Type 0
BootsWith setup answer now = (IsSetting setup × Boots setup None answer now) ⊎ (IsRefused setup answer × (now ≡ None))

-- The machine is as it was, but for the number of ports dealt.
pub record HasDealt (m : EndSeatsValue) (n : ℕ) (now : EndSeatsValue) : Type 0 where
  pub kernel : now.seats.kernel ≡ m.seats.kernel
  pub dealt : now.seats.dealt ≡ n
  pub back : now.seats.back ≡ m.seats.back
  pub table : now.table ≡ m.table

abbrev pub HoldsDealt : EndSeatsValue → Option EndPortValue → Type 0
HoldsDealt m None = ⊥
HoldsDealt m (Some p) = IsPortDealt m p

-- 0 comes with the port of the next core held; 244 where all are dealt; 247, out of memory, with nothing done.
abbrev pub Deals : EndSeatsValue → ℕ → Option EndSeatsValue → Option Held → Type 0
Deals m answer None port = ⊥
Deals m answer (Some now) port =
    ((answer ≡ 0) × HasDealt m (m.seats.dealt + 1) now × HoldsDealt m (port_held port))
    ⊎ ((answer ≡ 244) × (m.seats.kernel.setup.cores ≤ m.seats.dealt) × HasDealt m m.seats.dealt now × (port ≡ None))
    ⊎ ((answer ≡ 247) × HasDealt m m.seats.dealt now × (port ≡ None))

-- The port and the note that are held, if such are, are of one kernel.
abbrev pub AreOfOne : Option EndPortValue → Option CoreNoteValue → Type 0
AreOfOne None n = Unit {0}
AreOfOne (Some p) None = Unit {0}
AreOfOne (Some p) (Some n) = n.kernel ≡ p.port.kernel

-- The note tells what the port has seen.
pub record Tells (p : EndPortValue) (n : CoreNoteValue) : Type 0 where
  pub kernel : n.kernel ≡ p.port.kernel
  pub seen : n.seen ≡ p.port.seen

abbrev pub HoldsTold : EndPortValue → Option CoreNoteValue → Type 0
HoldsTold p None = ⊥
HoldsTold p (Some n) = Tells p n

-- 0 comes with the note held, and the port as it was; 247, out of memory, with nothing done.
abbrev pub Notes : EndPortValue → ℕ → Option EndPortValue → Option Held → Type 0
Notes p answer now note = (now ≡ Some p) × (((answer ≡ 0) × HoldsTold p (note_held note)) ⊎ ((answer ≡ 247) × (note ≡ None)))

abbrev pub HoldsMet : EndPortValue → CoreNoteValue → Option EndPortValue → Type 0
HoldsMet p n None = ⊥
HoldsMet p n (Some met) = Meets p.port n met.port × (met.end ≡ p.end)
