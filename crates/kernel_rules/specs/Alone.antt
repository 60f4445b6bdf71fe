-- Calls that are made alone: no other core is in a call from the entry to the return.
use Rattle.std.specs.Prelude.{ℕ, if◌then◌else◌, List, [], ◌∷◌}
use Rattle.spk_nums.specs.{declared.calls.Call.Call, declared.replies.Reply.Reply}
use Rattle.kernel_rules.specs.{State.State, GracePeriods.entered, GracePeriods.returned, Life.acts, Rules.Change, Rules.Judged}
use Rattle.kernel_rules.specs.{Rules.Refused, Rules.Found, CallRelation.are_calls_spent, CallRelation.change_of, CallRelation.state_by}

-- The reply of a judged change: the first refusal in order, or else `ok` with its value.
abbrev pub reply_in : Judged Change → Reply
reply_in (Refused r) = r
reply_in (Found change) = Reply.Ok change.value

-- The first reply in order to core c's call, where its calls are not spent: `dead` where it may not make the call.
abbrev pub first_reply : State → ℕ → Call → Reply
first_reply s c call = if acts s c call then reply_in (change_of s c call) else Reply.Dead

-- The first reply in order to core c's call: the reply where no other core is in a call.
abbrev pub alone : State → ℕ → Call → Reply
alone s c call = if are_calls_spent s c then Reply.CallsSpent else first_reply s c call

-- The reply to a call that core c enters, and makes alone.
abbrev pub plain_reply : State → ℕ → Call → Reply
plain_reply s c call = alone (entered s c) c call

-- The state after a call that core c enters, makes alone, and returns from.
abbrev pub plain_step : State → ℕ → Call → State
plain_step s c call = returned (state_by (entered s c) c call (plain_reply s c call)) c

-- The replies to calls of core c, made one after another.
abbrev pub plain_replies : State → ℕ → List Call → List Reply
plain_replies s c [] = []
plain_replies s c (call ∷ calls) = plain_reply s c call ∷ plain_replies (plain_step s c call) c calls

-- The state after calls of core c, made one after another.
abbrev pub plain_steps : State → ℕ → List Call → State
plain_steps s c [] = s
plain_steps s c (call ∷ calls) = plain_steps (plain_step s c call) c calls
