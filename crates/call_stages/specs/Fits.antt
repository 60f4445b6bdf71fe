-- What holds of a core at every moment: its numbers are in range, and its call keeps within its bound of steps.
use Rattle.act_states.specs as low
use Rattle.std.specs.Prelude.{◌+◌, ◌*◌, ◌-◌, ◌<◌, ◌≤◌, ◌≡◌, ◌∷◌, ◌^◌}
use low.{ℕ, Bool, IsTrue, List, [], length, Option, Some, None, bound_of, InLimits, Capability}
use low.{Call, Gate, CompFits, Want, Shape, IsShape, CapNames, Look, AtRoot, AtLeaf, AtEntry, Name, Plan, plan_for, Leads, names_after}
use low.{look_steps, act_steps, QuietFits, Pin, AtLoad, Acquired, AllFit, Alive, AtComp, AtLive, ActFits, act_left, dues, ScanFits}
use low.declared.work.Work.TheVariants.{Lookup, Read, Scan, Acquire, Act}
use low.declared.work.Tail.TheVariants.{Nothing, Quiesce, Unmark, StoreDead, StoreFlush, Release, StoreLive, Push, Pop, StoreRunning}
use Rattle.call_stages.specs.{declared.stages.Stage.Stage, declared.stages.Stage.TheVariants.Enter}
use Rattle.call_stages.specs.{declared.stages.Stage.TheVariants.Living, declared.stages.Stage.TheVariants.Undecided}
use Rattle.call_stages.specs.{declared.stages.Stage.TheVariants.Decided, declared.stages.Stage.TheVariants.Leave}
use low.{left_of_scan, stage_thread.specs.AliveFits, stage_thread.specs.PushFits, stage_thread.specs.PopFits}
use low.{stage_look.specs.Lookup.LookFits, call_plans.specs.declared.plans.Target.Target, call_plans.specs.Bounds.living_steps}
use low.{declared.own.Own.Own, declared.work.Work.Work, declared.work.Tail.Tail, declared.work.Tail.TheVariants.StoreIdle}
use low.{declared.work.Tail.TheVariants.Share, Untypings.ReleaseFits, Shares.SharedFits, stage_quiet.specs.Removal.CloseFits}
use low.{stage_pins.specs.declared.pin.Pin.TheVariants.AtCompare, stage_pins.specs.Acquire.PinFits, tcap_words.specs.Thread.DepthFits}
use Rattle.{call_stages.specs.declared.stages.ActiveCall.ActiveCall, call_stages.specs.Tails.tail_left, call_stages.specs.View.Core}

-- a stage names frames of the machine alone
abbrev pub WorkFits : Shape → Work → Type 0
WorkFits s (Lookup look) = LookFits s look
WorkFits s (Read comp look) = (comp < s.frames) × LookFits s look
WorkFits s (Scan q act) = QuietFits s q × ScanFits s q × ActFits s act
WorkFits s (Acquire pin change act) = PinFits s pin × ActFits s act
WorkFits s (Act act) = ActFits s act

abbrev pub TailFits : Shape → Tail → Type 0
TailFits s Nothing = Unit {0}
TailFits s (Quiesce close) = CloseFits s close
TailFits s (Unmark f word) = f < s.frames
TailFits s (StoreDead life stamp) = CompFits life × (1 ≤ stamp)
TailFits s (StoreFlush core stamp) = core < s.cores
TailFits s (Release release) = ReleaseFits s release
TailFits s (StoreLive l live f word) = (l < 64) × (f < s.frames)
TailFits s (Push push) = PushFits s push
TailFits s (Pop pop) = PopFits s pop
TailFits s (StoreRunning f core depth old old_depth) = (f < s.frames) × DepthFits depth × (old < s.frames) × DepthFits old_depth
TailFits s (StoreIdle f depth) = (f < s.frames) × DepthFits depth
TailFits s (Share p) = SharedFits s p

abbrev pub StageFits : Shape → Stage → Type 0
StageFits s Enter = Unit {0}
StageFits s (Living alive) = AliveFits s alive
StageFits s (Undecided work) = WorkFits s work
StageFits s (Decided r drawn tail) = TailFits s tail
StageFits s (Leave r stamp) = Unit {0}

-- a stage after the look-ups of a call
abbrev pub IsLater : Stage → Type 0
IsLater Enter = ⊥
IsLater (Living alive) = ⊥
IsLater (Undecided (Lookup look)) = ⊥
IsLater _ = Unit {0}

-- what the names have led to is wanted, and names frames of the machine
abbrev pub IsWanted : ℕ → ℕ → Want → Capability → Type 0
IsWanted frames n wanted k = IsTrue (wanted.kinds k.kind) × CapNames frames k

abbrev pub FoundFits : ℕ → Plan → List Capability → Type 0
FoundFits frames plan ks = Leads (IsWanted frames) plan.names [] ks

-- a call that is not decided can still be counted, once it has entered
abbrev pub HasRoom : ℕ → ℕ → Stage → Type 0
HasRoom made limit Enter = Unit {0}
HasRoom made limit (Living alive) = made < limit
HasRoom made limit (Undecided work) = made < limit
HasRoom made limit (Decided r drawn tail) = Unit {0}
HasRoom made limit (Leave r stamp) = Unit {0}

-- the most steps of a look-up that are still to come
abbrev pub left_of_look : Look → ℕ
left_of_look (AtRoot root number) = 2
left_of_look (AtLeaf leaf number) = 1
left_of_look (AtEntry root entry) = 1

-- the names of a call that have led to nothing yet
abbrev pub names_left : ActiveCall → List Name
names_left a = names_after (plan_for a.call).names a.found

-- the steps of the look-ups that come after that of the first of these names, or of the target where none is left
abbrev pub looks_later : List Name → Target → ℕ
looks_later [] target = 0
looks_later (name ∷ names) target = look_steps names target

-- the steps of a call's act, but for the load of what the call reads before it looks its target up
abbrev pub after_reading : Call → ℕ → ℕ
after_reading (Gate c t b) n = 3 + n
after_reading call n = act_steps call n

-- those that are still to come where these of its names are left: the load comes after the last
abbrev pub acts_later : List Name → Call → ℕ → ℕ
acts_later [] call n = after_reading call n
acts_later (name ∷ names) call n = act_steps call n

-- the most steps that come after the look-up of a call, till it is decided and has stored what it has to
abbrev pub steps_later : ℕ → ActiveCall → ℕ
steps_later cores a = looks_later (names_left a) (plan_for a.call).target + acts_later (names_left a) a.call cores

-- the steps of the acquiring of a count that are still to come
abbrev pub left_of_pin : Pin → ℕ
left_of_pin (AtLoad frame core) = 2
left_of_pin (AtCompare frame core count stamp) = 1

-- the most steps of the work that are still to come, where so many come after its look-up and so many counts are acquired: each
-- count that is still to be acquired takes two steps, and one for its commit
abbrev pub work_left : ℕ → ℕ → ℕ → Work → ℕ
work_left cores later n (Lookup look) = left_of_look look + later
work_left cores later n (Read comp look) = 1 + left_of_look look + later
work_left cores later n (Scan q act) = left_of_scan cores q + 3 * length (dues act) + act_left cores act
work_left cores later n (Acquire pin change act) = left_of_pin pin + 1 + 3 * (length (dues act) - (n + 1)) + act_left cores act
work_left cores later n (Act act) = act_left cores act

-- the loads that are still to come by which it is asked whether the component lives
abbrev pub left_of_alive : Alive → ℕ
left_of_alive (AtComp comp) = 2
left_of_alive (AtLive life) = 1

-- the most steps of a call that are still to come at a stage, on so many cores; two are those of its exit
abbrev pub left_at : ℕ → ActiveCall → Stage → ℕ
left_at cores a Enter =
    3 + living_steps (plan_for a.call).living + look_steps (names_left a) (plan_for a.call).target + act_steps a.call cores
left_at cores a (Living alive) = 2 + left_of_alive alive + look_steps (names_left a) (plan_for a.call).target + act_steps a.call cores
left_at cores a (Undecided work) = 2 + length a.counts + work_left cores (steps_later cores a) (length a.counts) work
left_at cores a (Decided r drawn tail) = 2 + length a.counts + tail_left tail
left_at cores a (Leave r stamp) = 1

abbrev pub left_of : ℕ → ActiveCall → ℕ
left_of cores a = left_at cores a a.stage

-- a call that has not entered, or asks whether its component lives, has found nothing yet
abbrev pub IsFirst : Stage → List Capability → Type 0
IsFirst Enter found = found ≡ []
IsFirst (Living alive) found = found ≡ []
IsFirst (Undecided work) found = Unit {0}
IsFirst (Decided r drawn tail) found = Unit {0}
IsFirst (Leave r stamp) found = Unit {0}

-- a call acquires no count before its look-ups are made, and none but those that its act changes; before the act's further steps, all
abbrev pub CountsWait : List Acquired → Work → Type 0
CountsWait counts (Lookup look) = counts ≡ []
CountsWait counts (Read comp look) = counts ≡ []
CountsWait counts (Scan q act) = counts ≡ []
CountsWait counts (Acquire pin change act) = length counts < length (dues act)
CountsWait counts (Act act) = length counts ≡ length (dues act)

abbrev pub CountsAt : List Acquired → Stage → Type 0
CountsAt counts Enter = counts ≡ []
CountsAt counts (Living alive) = counts ≡ []
CountsAt counts (Undecided work) = CountsWait counts work
CountsAt counts (Decided r drawn tail) = Unit {0}
CountsAt counts (Leave r stamp) = counts ≡ []

-- the call of a core: it is in its limits, what it has found is what its plan wants, its stage fits the core, and the steps made and
-- those to come are within its bound
pub record IsActive (own : Own) (a : ActiveCall) : Type 0 where
  pub limits : InLimits a.call
  pub found : FoundFits own.layout.frames (plan_for a.call) a.found
  pub first : IsFirst a.stage a.found
  pub stage : StageFits own.layout a.stage
  pub acquired : AllFit own.layout a.counts
  pub counts : CountsAt a.counts a.stage
  pub room : HasRoom own.made own.limit a.stage
  pub steps : a.steps + left_of own.layout.cores a ≤ bound_of a.call own.layout.cores

-- the call of a core fits, if there is one
abbrev pub CallFits : Own → Option ActiveCall → Type 0
CallFits own None = Unit {0}
CallFits own (Some a) = IsActive own a

-- what a core has of its own names frames of its machine, its thread's stack has 1 to 16 components, and it has counted no more calls
-- than it may make
pub record IsOwn (own : Own) : Type 0 where
  pub shape : IsShape own.layout
  pub core : own.core < own.layout.cores
  pub thread : own.thread < own.layout.frames
  pub some_depth : 1 ≤ own.depth
  pub most_depth : own.depth ≤ 16
  pub comp : own.comp < own.layout.frames
  pub table : own.table < own.layout.frames
  pub pages : own.pages < own.layout.frames
  pub tcap : own.tcap < own.layout.frames
  pub most_calls : own.limit ≤ 2 ^ 40 - 1
  pub most_epochs : own.epochs < 2 ^ 16
  pub made : own.made ≤ own.limit

pub record IsCore (c : Core) : Type 0 where
  pub own : IsOwn c.own
  pub active : CallFits c.own c.active

-- the most steps of a core's call that are still to come; none where there is no call
abbrev pub left_for : ℕ → Option ActiveCall → ℕ
left_for cores None = 0
left_for cores (Some a) = left_of cores a

abbrev pub steps_left : Core → ℕ
steps_left c = left_for c.own.layout.cores c.active
