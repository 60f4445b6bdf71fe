-- Laws of the sequential kernel, each the contract of a function of this crate.
use Rattle.std.specs.Prelude.{◌≡◌, ◌<◌, ◌≤◌, ◌+◌, ◌==◌, if◌then◌else◌, ◌∷◌}
use Rattle.found_stays.specs.kernel_rules.specs.{ℕ, List, [], sum_by, IsFalse, Setting}
use Rattle.found_stays.specs.kernel_rules.specs.{IsSetting, Call, Tick, Replenish, Reply, tcap_in, are_calls_spent, MayReply, Event, Enters}
use Rattle.found_stays.specs.kernel_rules.specs.{Decides, Returns, after, IsRun, ticks, InRanges, refs, sum_below}
use Rattle.{found_stays.specs.kernel_rules.specs.State.State, kernel_laws.specs.Causes.HasCause, kernel_laws.specs.Causes.HasNoRight}

-- The sum of the grants.
abbrev pub grants_sum : Setting → ℕ
grants_sum setting = sum_by (λ g. g.budget) setting.grants

-- In every state that a run reaches, the budgets and the ticks that are spent and were not given back sum to the grants.
abbrev pub TicksKept : Type 0
TicksKept = (setting : Setting) → IsSetting setting → (events : List Event) → IsRun setting events
    → ticks (after setting events) ≡ grants_sum setting

-- In every state that a run reaches, the numbers are in range.
abbrev pub RangesHold : Type 0
RangesHold = (setting : Setting) → IsSetting setting → (events : List Event) → IsRun setting events → InRanges (after setting events)

-- In every state that a run reaches, the references to a frame are at most 32,848.
abbrev pub ReferencesFew : Type 0
ReferencesFew = (setting : Setting) → IsSetting setting → (events : List Event) → IsRun setting events
    → (f : ℕ) → refs (after setting events) f ≤ 32848

-- In every state, each reply that the relation permits has its cause.
abbrev pub CausesStand : Type 0
CausesStand = (s : State) (c : ℕ) (call : Call) (r : Reply) → MayReply s c call r → HasCause s c call r

-- A call of which a name lacks a right that it needs may be refused with `no-right`, where its calls are not spent.
abbrev pub LackIsRefused : Type 0
LackIsRefused = (s : State) (c : ℕ) (call : Call) → IsFalse (are_calls_spent s c) → HasNoRight s c call → MayReply s c call Reply.NoRight

-- The ticks that a call charges, and those that its decision counts: none where it is answered `calls-spent`.
abbrev pub ticks_of : Call → ℕ
ticks_of (Tick n) = n
ticks_of _ = 0

abbrev pub ticks_counted : Call → Reply → ℕ
ticks_counted call Reply.CallsSpent = 0
ticks_counted call _ = ticks_of call

-- The ticks that an event counts of core c.
abbrev pub ticks_by : Event → ℕ → ℕ
ticks_by (Enters d call) c = 0
ticks_by (Decides d call r) c = if c == d then ticks_counted call r else 0
ticks_by (Returns d) c = 0

-- The sum of core c's decided ticks.
abbrev pub decided_ticks : List Event → ℕ → ℕ
decided_ticks [] c = 0
decided_ticks (e ∷ events) c = ticks_by e c + decided_ticks events c

-- In every state that a run reaches, what a core has spent and what it owes sum to its decided ticks.
abbrev pub SpendingSums : Type 0
SpendingSums = (setting : Setting) (events : List Event) → IsRun setting events → (c : ℕ)
    → ((after setting events).core c).spent + ((after setting events).core c).owed ≡ decided_ticks events c

-- The ticks that a call gives back where it is carried out, and those that an event gives back to core c.
abbrev pub given_of : Call → ℕ
given_of (Replenish a m) = m
given_of _ = 0

abbrev pub given_by : Call → Reply → ℕ
given_by call (Reply.Ok v) = given_of call
given_by call _ = 0

abbrev pub back_by : Event → ℕ → ℕ
back_by (Enters d call) c = 0
back_by (Decides d call r) c = if c == d then given_by call r else 0
back_by (Returns d) c = 0

-- The sum of what core c has had back.
abbrev pub decided_back : List Event → ℕ → ℕ
decided_back [] c = 0
decided_back (e ∷ events) c = back_by e c + decided_back events c

-- In every state that a run reaches, what a core has had back is the sum of its `replenish` calls that were carried out, and no more than
-- it has spent.
pub record IsHadBack (setting : Setting) (events : List Event) (c : ℕ) : Type 0 where
  pub is : ((after setting events).core c).back ≡ decided_back events c
  pub within : ((after setting events).core c).back ≤ ((after setting events).core c).spent

abbrev pub BackSums : Type 0
BackSums = (setting : Setting) → IsSetting setting → (events : List Event) → IsRun setting events → (c : ℕ) → IsHadBack setting events c

-- In every run in which no ticks are given back, the budgets and all spent ticks sum to the grants.
abbrev pub NoneGivenBack : Type 0
NoneGivenBack = (setting : Setting) → IsSetting setting → (events : List Event) → IsRun setting events
    → ((c : ℕ) → c < setting.cores → decided_back events c ≡ 0)
    → sum_below (λ f. (tcap_in ((after setting events).frame f)).budget) (after setting events).limits.frames
    + sum_below (λ c. ((after setting events).core c).spent) (after setting events).limits.cores
    ≡ grants_sum setting
