-- All that is found of an open call.
use Rattle.std.specs.Prelude.{◌≡◌}
use Rattle.plain_kernel.specs.seq_state.specs.{ℕ, List, string_bytes, Setting, IsSetting, Call, State, alone, Event, after, Open, phase_of}
use Rattle.plain_kernel.specs.seq_state.specs.{IsRun}
use Rattle.open_calls.specs.{declared.outlooks.Outlook.Outlook, Leads.names_text, Told.told}
use Rattle.{plain_kernel.specs.seq_state.specs.Represents, plain_kernel.specs.seq_state.specs.Maps.Maps}

-- what is found of a call of core c that is open in state s
pub record IsOutlook (s : State) (c : ℕ) (call : Call) (found : Outlook) : Type 0 where
  pub names : string_bytes found.names ≡ names_text s c call
  pub alone_reply : found.alone ≡ alone s c call
  pub number_told : found.told ≡ told s c call

-- so it is in every state that a run reaches, with this call of core c open, and that the kernel k represents
abbrev pub IsOutlookWhere : Maps → ℕ → Call → Outlook → Type 0
IsOutlookWhere k c call found = (setting : Setting) → IsSetting setting → (events : List Event) → IsRun setting events
    → phase_of events c ≡ Open call → Represents k (after setting events) → IsOutlook (after setting events) c call found
