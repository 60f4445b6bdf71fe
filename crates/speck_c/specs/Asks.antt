-- Sends and receives as C asks for them.
use Rattle.end_ports.specs.core_machine.specs.core_kernel.specs.flight_laws.specs.core_invariant.specs.act_states.specs as low
use Rattle.std.specs.Prelude.{◌≡◌, ◌<◌, ◌≤◌, if◌then◌else◌}
use low.{ℕ, ltb as nat_lt, Option, Some, MatchOption, Nothing, Amount}
use Rattle.end_ports.specs.async_ends.specs.declared.endpoint.EndReply.TheVariants.{Sent, Taken, Raced, Refused}
use Rattle.speck_c.specs.{declared.held.Held.Held, declared.reply.SpeckReply.SpeckReply, Flat.blank, Flat.carried, Flat.flat}
use Rattle.{spk_nums.specs.declared.replies.Reply.TheVariants.Raced as raced, spk_nums.specs.declared.replies.Reply.TheVariants.CallsSpent}
use Rattle.{end_ports.specs.async_ends.specs.declared.endpoint.EndOp.EndOp}
use Rattle.{end_ports.specs.async_ends.specs.declared.endpoint.EndReply.EndReply, end_ports.specs.async_ends.specs.Running.most_calls}
use Rattle.{end_ports.specs.Ports.EndPortValue, end_ports.specs.Ports.HasAsked, speck_c.specs.Slots.port_held}

-- a count as 32 bits hold it; none that a machine reaches is larger
abbrev pub fitted : ℕ → ℕ
fitted k = if nat_lt k 4294967296 then k else 4294967295

-- the answer that tells what became of a send or a receive
abbrev pub flat_end : EndReply → SpeckReply
flat_end Sent = carried Nothing
flat_end (Taken k) = carried (Amount (fitted k))
flat_end Raced = flat raced
flat_end (Refused r) = flat r

-- The core has asked, if it had a call at endpoints left, and the answer tells the reply; the port is still held.
pub record IsTold (op : EndOp) (number : ℕ) (p : EndPortValue) (answer : SpeckReply) (now : Option EndPortValue) : Type 0 where
  pub reply : EndReply
  pub made : EndPortValue
  pub asks : p.end.made < most_calls → HasAsked op number p reply made
  pub spent : most_calls ≤ p.end.made → (reply ≡ Refused CallsSpent) × (made ≡ p)
  pub is_told : answer ≡ flat_end reply
  pub still : now ≡ Some made

-- The same before it is told.
pub record HasReplied (op : EndOp) (number : ℕ) (p : EndPortValue) (told : Option EndReply) (now : Option EndPortValue) : Type 0 where
  pub reply : EndReply
  pub made : EndPortValue
  pub asks : p.end.made < most_calls → HasAsked op number p reply made
  pub spent : most_calls ≤ p.end.made → (reply ≡ Refused CallsSpent) × (made ≡ p)
  pub is_told : told ≡ Some reply
  pub still : now ≡ Some made

-- It is asked where a port is held; else 254 is answered, and what is held stays.
abbrev pub IsAsked : EndOp → Option Held → ℕ → SpeckReply → Option Held → Type 0
IsAsked op held number answer now =
    MatchOption (port_held held) ((answer ≡ blank 254) × (now ≡ held)) (λ p. IsTold op number p answer (port_held now))
