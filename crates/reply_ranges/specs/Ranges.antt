-- The ranges of replies.
use Rattle.std.specs.Prelude.{◌≡◌, ◌<◌, ◌≤◌}
use Rattle.state_laws.specs.kernel_rules.specs.{ℕ, List, Setting, IsSetting, Call, Capability, least_rights, Value, Reply}
use Rattle.state_laws.specs.kernel_rules.specs.{Event, MayDecide, IsRun}
use Rattle.state_laws.specs.spk_nums.specs.Limits.{least_arg, end_of_arg}

-- A capability's frame is below 512, and its number and its rights are in the range of its kind.
pub record CapFits (c : Capability) : Type 0 where
  pub frame : c.frame ≤ 511
  pub least : least_arg c.kind ≤ c.arg
  pub below : c.arg < end_of_arg c.kind
  pub rights : least_rights c.kind ≤ c.rights
  pub most : c.rights ≤ 3

-- What a call answers is in range: a capability, a frame below 512 and flags below 4, or an amount below 2^32.
abbrev pub ValueFits : Value → Type 0
ValueFits (Value.Cap c) = CapFits c
ValueFits (Value.Page f flags) = (f ≤ 511) × (flags.0 ≤ 3)
ValueFits (Value.Amount n) = n ≤ 4294967295
ValueFits _ = Unit {0}

-- A reply is in range: its core is one of the machine's, its number is below 2^32, its value is in range.
abbrev pub ReplyFits : ℕ → Reply → Type 0
ReplyFits cores (Reply.Ok v) = ValueFits v
ReplyFits cores (Reply.Quiescing e) = e < cores
ReplyFits cores (Reply.Unflushed e) = e < cores
ReplyFits cores (Reply.Running e) = e < cores
ReplyFits cores (Reply.Busy e) = e < cores
ReplyFits cores (Reply.Referenced n) = n ≤ 4294967295
ReplyFits cores (Reply.Short n) = n ≤ 4294967295
ReplyFits cores r = Unit {0}

-- In every state that a run reaches, each reply that may decide a call is in range, if a `busy` names a core of the machine.
abbrev pub RepliesInRange : Type 0
RepliesInRange = (setting : Setting) → IsSetting setting → (events : List Event) → IsRun setting events → (c : ℕ) (call : Call) (r : Reply)
    → MayDecide setting events c call r → ((d : ℕ) → r ≡ Reply.Busy d → d < setting.cores) → ReplyFits setting.cores r
