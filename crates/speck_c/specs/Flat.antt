-- A reply as C reads it: its number, what it carries, and what a caller may do about it.
use Rattle.end_ports.specs.core_machine.specs.core_kernel.specs.kernel_rules.specs.{ℕ, Reply, Value, Nothing, Cap, Page, Amount}
use Rattle.spk_nums.specs.declared.advice.Advice.TheVariants.{Done, Change, GiveUp, Release, AwaitReturn, AwaitFlush, AwaitSwitch, Again}
use Rattle.spk_nums.specs.declared.replies.Reply.TheVariants.{Ok as ok_reply, Quiescing, Unflushed, Referenced, Running, Short, Busy}
use Rattle.spk_nums.specs.declared.replies.Value.TheVariants.{Preempts, Stays}
use Rattle.{spk_nums.specs.Advices.advice_of, spk_nums.specs.Names.reply_code, spk_nums.specs.declared.advice.Advice.Advice}
use Rattle.{final_parts.specs.Kinds.kind_code, speck_c.specs.declared.reply.SpeckReply.SpeckReply}

-- the number of an advice, from 0 in the order of its declaration
abbrev pub advice_code : Advice → ℕ
advice_code Done = 0
advice_code Change = 1
advice_code GiveUp = 2
advice_code (Release k) = 3
advice_code (AwaitReturn e) = 4
advice_code (AwaitFlush e) = 5
advice_code (AwaitSwitch e) = 6
advice_code Again = 7

-- the answer of this number that carries no value, with this advice and number
abbrev pub refusal : ℕ → ℕ → ℕ → SpeckReply
refusal code advice n = record { code = code; value = 0; kind = 0; flags = 0; frame = 0; advice = advice; n = n }

-- what is answered, by a number that is no reply's, where no call was made: the caller has to change what it asked for
abbrev pub blank : ℕ → SpeckReply
blank code = refusal code 1 0

-- the answer of a call that was carried out
abbrev pub carried : Value → SpeckReply
carried Nothing = record { code = 0; value = 0; kind = 0; flags = 0; frame = 0; advice = 0; n = 0 }
carried (Cap c) = record { code = 0; value = 1; kind = kind_code c.kind; flags = c.rights; frame = c.frame; advice = 0; n = c.arg }
carried (Page f w) = record { code = 0; value = 2; kind = 0; flags = w.0; frame = f; advice = 0; n = 0 }
carried (Amount n) = record { code = 0; value = 3; kind = 0; flags = 0; frame = 0; advice = 0; n = n }
carried Preempts = record { code = 0; value = 4; kind = 0; flags = 0; frame = 0; advice = 0; n = 0 }
carried Stays = record { code = 0; value = 5; kind = 0; flags = 0; frame = 0; advice = 0; n = 0 }

-- the number that a refusal names: a core, a count or a budget
abbrev pub named : Reply → ℕ
named (Quiescing e) = e
named (Unflushed e) = e
named (Referenced k) = k
named (Running e) = e
named (Short b) = b
named (Busy d) = d
named r = 0

-- the answer that tells a reply
abbrev pub flat : Reply → SpeckReply
flat (ok_reply v) = carried v
flat r = refusal (reply_code r) (advice_code (advice_of r)) (named r)
