-- Looks at capabilities, and the endpoints to which they lead.
use Rattle.std.specs.Prelude.{◌≡◌, ◌≢◌, ℕ, ◌<◌, Bool, true, false, Result, Ok, Err}
use Rattle.spk_nums.specs.{Capability.Capability, declared.kinds.Kind.Kind, declared.kinds.Kind.TheVariants.Range}
use Rattle.spk_nums.specs.{declared.kinds.Kind.TheVariants.Gate, declared.kinds.Kind.TheVariants.Comp, declared.replies.Value.Value}
use Rattle.spk_nums.specs.{declared.replies.Value.TheVariants.Cap, declared.replies.Reply.Reply}
use Rattle.async_ends.specs.{declared.asks.Look.Look, declared.endpoint.EndOp.EndOp, declared.endpoint.EndOp.TheVariants.Send}
use Rattle.{spk_nums.specs.declared.replies.Reply.TheVariants.WrongCap, async_ends.specs.declared.endpoint.EndOp.TheVariants.Recv}

abbrev pub look : ℕ → Reply → Look
look number r = record { number = number; reply = r }

-- A capability that the reply has names a frame below n, if it is no range.
abbrev pub NamesBelow : ℕ → Reply → Type 0
NamesBelow n r = (cap : Capability) → r ≡ Reply.Ok (Cap cap) → cap.kind ≢ Range → cap.frame < n

-- A send goes through a gate, a receive through a component capability.
abbrev pub serves : EndOp → Kind → Bool
serves Send Gate = true
serves Send _ = false
serves Recv Comp = true
serves Recv _ = false

-- What an answered capability leads to: the frame's endpoint, or the refusal.
abbrev pub frame_by : Bool → Capability → Result ℕ Reply
frame_by true cap = Ok cap.frame
frame_by false cap = Err WrongCap

abbrev pub reached_by : EndOp → Value → Result ℕ Reply
reached_by op (Cap cap) = frame_by (serves op cap.kind) cap
reached_by op _ = Err WrongCap

-- The frame whose endpoint a look leads to, or the refusal: the look's own, or `wrong-cap` where it answered another kind.
abbrev pub reached : EndOp → Reply → Result ℕ Reply
reached op (Reply.Ok value) = reached_by op value
reached op refusal = Err refusal
