-- The call relation: the replies that a call may be decided with, and the state that the decision leaves.
use Rattle.std.specs.Prelude.{◌⊎◌, ℕ, ◌+◌, Bool, true, false, nat_le, IsTrue, IsFalse}
use Rattle.spk_nums.specs.declared.calls.Call.TheVariants.{Look, Copy, Remove, Grow, Shrink, Retype, Make as make_call, Map, Unmap, Touch}
use Rattle.spk_nums.specs.declared.calls.Call.TheVariants.{Flush, Gate, Kill, Call as call_gate, Ret, Switch, Tick, Transfer, Delegate}
use Rattle.spk_nums.specs.declared.calls.Call.TheVariants.{Test, Part, Replenish}
use Rattle.kernel_rules.specs.State.{Thing, FrameOf, State, with_core}
use Rattle.kernel_rules.specs.Life.{lives, asks_life, acts}
use Rattle.kernel_rules.specs.Rules.{Change, Rule, Judged, Refused, Found, outcome, RuleMay, RuleAnswers}
use Rattle.kernel_rules.specs.CapabilityCalls.{look_rule, copy_rule, part_rule, remove_rule, grow_rule, shrink_rule, make_rule}
use Rattle.kernel_rules.specs.MemoryCalls.{retype_rule, map_rule, unmap_rule, touch_rule, flush_rule}
use Rattle.kernel_rules.specs.InvocationCalls.{gate_rule, kill_rule, call_rule, ret_rule, switch_rule}
use Rattle.kernel_rules.specs.TimeCalls.{tick_rule, transfer_rule, delegate_rule, test_rule, replenish_rule}
use Rattle.{std.specs.List.list_any, spk_nums.specs.declared.calls.Call.Call, spk_nums.specs.declared.replies.Reply.Reply}
use Rattle.{spk_nums.specs.declared.calls.Make.Make, spk_nums.specs.declared.kinds.FrameKind.FrameKind}
use Rattle.{kernel_rules.specs.GracePeriods.same_thing, kernel_rules.specs.GracePeriods.begun, kernel_rules.specs.Edits.is_place_of}

-- The rule of a call of core c.
abbrev pub rule_of : State → ℕ → Call → Rule
rule_of s c (Look a) = look_rule a
rule_of s c (Copy a t b rights) = copy_rule a t b rights.0
rule_of s c (Remove t b) = remove_rule t b
rule_of s c (Grow t i l) = grow_rule t i l
rule_of s c (Shrink t i) = shrink_rule t i
rule_of s c (Retype r f k) = retype_rule s r f k
rule_of s c (make_call what range frame table slot) = make_rule s what range frame table slot
rule_of s c (Map p v r f w) = map_rule s p v r f w
rule_of s c (Unmap p v) = unmap_rule p v
rule_of s c (Touch v) = touch_rule s c v
rule_of s c Flush = flush_rule
rule_of s c (Gate k t b) = gate_rule s k t b
rule_of s c (Kill k) = kill_rule s k
rule_of s c (call_gate g) = call_rule s c g
rule_of s c Ret = ret_rule s c
rule_of s c (Switch h q) = switch_rule s h q
rule_of s c (Tick n) = tick_rule s c n
rule_of s c (Transfer a b m) = transfer_rule s a b m
rule_of s c (Delegate a b m) = delegate_rule s a b m
rule_of s c (Test a b) = test_rule s a b
rule_of s c (Part r f n t b) = part_rule r f n t b
rule_of s c (Replenish a m) = replenish_rule s c a m

-- Whether core c has made as many calls as its limit.
abbrev pub are_calls_spent : State → ℕ → Bool
are_calls_spent s c = nat_le s.limits.calls (s.core c).counted

-- A call may be refused with `dead` before all else: it asks that its core may act, and the core's component does not live. A call in
-- progress when the component is killed may end; it may also be refused so.
abbrev pub MayBeDead : State → ℕ → Call → Type 0
MayBeDead s c call = IsTrue (asks_life call) × IsFalse (lives s c)

-- A call that is carried out is one that its core may make, and answers its value; `raced` and `busy` are permitted here, and justified
-- elsewhere; `dead` is for want of the core's component or its rule's, and any other refusal is its rule's.
abbrev pub MayAnswer : State → ℕ → Call → Reply → Type 0
MayAnswer s c call (Reply.Ok v) = IsTrue (acts s c call) × RuleAnswers s c (rule_of s c call) v
MayAnswer s c call Reply.Raced = Unit {0}
MayAnswer s c call (Reply.Busy d) = Unit {0}
MayAnswer s c call Reply.Dead = MayBeDead s c call ⊎ RuleMay s c (rule_of s c call) Reply.Dead
MayAnswer s c call r = RuleMay s c (rule_of s c call) r

-- In state s, the call of core c may be decided with this reply: `calls-spent` exactly where its calls are spent.
abbrev pub MayReply : State → ℕ → Call → Reply → Type 0
MayReply s c call Reply.CallsSpent = IsTrue (are_calls_spent s c)
MayReply s c call r = IsFalse (are_calls_spent s c) × MayAnswer s c call r

-- The change of a call of core c, or its first refusal, as if the core may make the call.
abbrev pub change_of : State → ℕ → Call → Judged Change
change_of s c call = outcome s c (rule_of s c call)

-- The things whose grace periods a change begins.
abbrev pub begins_in : Judged Change → Thing → Bool
begins_in (Refused r) x = false
begins_in (Found change) x = list_any (same_thing x) change.begins

-- Whether the decision begins the grace period of this thing.
abbrev pub begins : State → ℕ → Call → Reply → Thing → Bool
begins s c call (Reply.Ok v) x = begins_in (change_of s c call) x
begins s c call _ x = false

-- Whether a call that is carried out ends the grace period of this thing: a retype to untyped that of its frame, and a `make` of
-- a node those of the node's places.
abbrev pub ends_by : Call → Thing → Bool
ends_by (Retype r f FrameKind.Untyped) x = same_thing x (FrameOf f)
ends_by (make_call Make.Table r f t b) x = is_place_of f x
ends_by (make_call Make.Leaf r f t b) x = is_place_of f x
ends_by (make_call Make.Pages r f t b) x = is_place_of f x
ends_by (make_call Make.Pleaf r f t b) x = is_place_of f x
ends_by call x = false

-- Whether the decision ends the grace period of this thing.
abbrev pub ends : Call → Reply → Thing → Bool
ends call (Reply.Ok v) x = ends_by call x
ends call _ x = false

-- Whether the decision empties the translations of its core, so that no grace period is unflushed by it.
abbrev pub flushes_by : Call → Bool
flushes_by Flush = true
flushes_by call = false

abbrev pub flushes : Call → Reply → Bool
flushes call (Reply.Ok v) = flushes_by call
flushes call _ = false

-- The state after a call that is carried out: its change, with the grace periods that it begins.
abbrev pub changed : State → Judged Change → State
changed s (Refused r) = s
changed s (Found change) = begun s change.begins change.next

-- The state in which core c owes n ticks more.
abbrev pub owing : State → ℕ → ℕ → State
owing s c n = with_core s c (record (s.core c) { owed = (s.core c).owed + n })

-- The state after a call answered `raced` or `busy`: as it was, but the ticks of a `tick` are owed.
abbrev pub owed_by : State → ℕ → Call → State
owed_by s c (Tick n) = owing s c n
owed_by s c call = s

-- The state in which one more call of core c is counted.
abbrev pub counted : State → ℕ → State
counted s c = with_core s c (record (s.core c) { counted = (s.core c).counted + 1 })

-- The state that the decision leaves: a call that is carried out makes its change, a refused one leaves all as it was but for
-- the ticks owed; every call is counted but one answered `calls-spent`.
abbrev pub state_by : State → ℕ → Call → Reply → State
state_by s c call (Reply.Ok v) = counted (changed s (change_of s c call)) c
state_by s c call Reply.CallsSpent = s
state_by s c call Reply.Raced = counted (owed_by s c call) c
state_by s c call (Reply.Busy d) = counted (owed_by s c call) c
state_by s c call _ = counted s c
