-- How ports come back from C, and how a machine is finished there.
use Rattle.std.specs.Prelude.{◌≡◌, ◌≢◌, ℕ, ◌<◌, ◌≤◌, ◌⊎◌, List, [], ◌∷◌, ◌++◌, length, take, drop, Option, Some, None, String, string_bytes}
use Rattle.end_ports.specs.{EndPortValue, EndSeatsValue}
use Rattle.speck_c.specs.declared.held.What.TheVariants.{Machine, Core, Told, Final, Tables}
use Rattle.{std.specs.Global.Global, end_ports.specs.core_machine.specs.core_kernel.specs.kernel_history.specs.BootWords.shape_of}
use Rattle.{end_ports.specs.core_machine.specs.core_kernel.specs.Calls.EndsAt, final_parts.specs.machine_image.specs.Views.ImageOf}
use Rattle.{table_report.specs.Shown.tables_shown, speck_c.specs.declared.held.Held.Held, speck_c.specs.declared.held.What.What}

-- what a finished machine has left, among what may be held
abbrev pub final_of : What → Option ImageOf
final_of (Machine s) = None
final_of (Core p) = None
final_of (Told n) = None
final_of (Final i) = Some i
final_of (Tables t) = None

abbrev pub final_held : Option Held → Option ImageOf
final_held None = None
final_held (Some h) = final_of h.what

-- the text among what may be held
abbrev pub text_of : What → Option (String Global)
text_of (Machine s) = None
text_of (Core p) = None
text_of (Told n) = None
text_of (Final i) = None
text_of (Tables t) = Some t

abbrev pub text_held : Option Held → Option (String Global)
text_held None = None
text_held (Some h) = text_of h.what

-- The machine and the port that are held, if such are, are of one kernel.
abbrev pub AreOfMachine : Option EndSeatsValue → Option EndPortValue → Type 0
AreOfMachine None p = Unit {0}
AreOfMachine (Some m) None = Unit {0}
AreOfMachine (Some m) (Some p) = p.port.kernel ≡ m.seats.kernel

-- The machine is as it was, but that the port stands last of those that are back.
pub record HasBack (m : EndSeatsValue) (p : EndPortValue) (now : EndSeatsValue) : Type 0 where
  pub kernel : now.seats.kernel ≡ m.seats.kernel
  pub dealt : now.seats.dealt ≡ m.seats.dealt
  pub back : now.seats.back ≡ m.seats.back ++ p.port ∷ []
  pub table : now.table ≡ m.table

-- 0 where it was the port's turn; 245, and nothing changes, where it was not.
abbrev pub TakesBack : EndSeatsValue → EndPortValue → ℕ → EndSeatsValue → Option Held → Option Held → Type 0
TakesBack m p answer now held port =
    ((answer ≡ 0) × (p.port.core ≡ length m.seats.back) × HasBack m p now × (port ≡ None))
    ⊎ ((answer ≡ 245) × (p.port.core ≢ length m.seats.back) × (now ≡ m) × (port ≡ held))

abbrev pub HoldsBack : EndSeatsValue → EndPortValue → ℕ → Option EndSeatsValue → Option Held → Option Held → Type 0
HoldsBack m p answer None held port = ⊥
HoldsBack m p answer (Some now) held port = TakesBack m p answer now held port

-- These are the final words and ends of the machine, all of whose ports are back.
pub record IsFinal (m : EndSeatsValue) (i : ImageOf) : Type 0 where
  pub shape : i.shape ≡ shape_of m.seats.kernel.setup
  pub ends_at : EndsAt m.seats.kernel m.seats.back i.words i.ends

abbrev pub HoldsFinal : EndSeatsValue → Option ImageOf → Type 0
HoldsFinal m None = ⊥
HoldsFinal m (Some i) = IsFinal m i

-- 0 comes with what it has left; 246, and nothing changes, where a port is not back; 247, and nothing changes, where memory has run out.
abbrev pub EndsHeld : EndSeatsValue → ℕ → Held → Held → Type 0
EndsHeld m answer held now =
    ((answer ≡ 0) × (length m.seats.back ≡ m.seats.kernel.setup.cores) × HoldsFinal m (final_of now.what))
    ⊎ ((answer ≡ 246) × (length m.seats.back ≢ m.seats.kernel.setup.cores) × (now ≡ held))
    ⊎ ((answer ≡ 247) × (length m.seats.back ≡ m.seats.kernel.setup.cores) × (now ≡ held))

abbrev pub Finishes : EndSeatsValue → ℕ → Option Held → Option Held → Option Held → Type 0
Finishes m answer held now last =
    ((answer ≡ 0) × (length m.seats.back ≡ m.seats.kernel.setup.cores) × HoldsFinal m (final_held last) × (now ≡ None))
    ⊎ ((answer ≡ 246) × (length m.seats.back ≢ m.seats.kernel.setup.cores) × (now ≡ held) × (last ≡ None))
    ⊎ ((answer ≡ 247) × (length m.seats.back ≡ m.seats.kernel.setup.cores) × (now ≡ held) × (last ≡ None))

-- The text is the tables of what was left.
abbrev pub HoldsText : ImageOf → Option (String Global) → Type 0
HoldsText i None = ⊥
HoldsText i (Some t) = string_bytes t ≡ tables_shown i.shape i.words i.ends

-- 0 comes with the text of the tables held; 247, out of memory, with none.
abbrev pub Shows : ImageOf → ℕ → Option Held → Type 0
Shows i answer text = ((answer ≡ 0) × HoldsText i (text_held text)) ⊎ ((answer ≡ 247) × (text ≡ None))

-- The whole length of the text is answered, and its beginning stands at the beginning of the bytes, as far as there is room.
pub record ReadsInto (text bytes : List ℕ) (answer : ℕ) (now : List ℕ) : Type 0 where
  pub whole : answer ≡ length text
  pub fits : length text ≤ length bytes → now ≡ text ++ drop (length text) bytes
  pub cut : length bytes < length text → now ≡ take (length bytes) text
