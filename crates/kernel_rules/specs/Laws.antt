-- Laws of the definitions, each the contract of a function of this crate.
use Rattle.std.specs.Prelude.{ℕ, ◌+◌, ◌≡◌, List, [], ◌∷◌, Some, IsTrue}
use Rattle.spk_nums.specs.{Setting.Setting, Setting.IsSetting, Capability.Capability, declared.calls.Call.Call}
use Rattle.spk_nums.specs.{declared.calls.Call.TheVariants.Tick, declared.replies.Value.Value, declared.replies.Reply.Reply}
use Rattle.kernel_rules.specs.{State.Holds, State.Grace, State.Thing, State.PlaceOf, State.FrameOf, State.NumberOf, State.State, State.put}
use Rattle.kernel_rules.specs.{State.tcap_in, State.outstanding, References.sum_below, References.times, References.refs, Rules.IsFoundAnd}
use Rattle.kernel_rules.specs.{CallRelation.MayReply, CallRelation.change_of, CallRelation.state_by, Alone.alone, Access.Slot}
use Rattle.kernel_rules.specs.{Access.usable, Fitting.IsGood, Runs.Event, Runs.after, Runs.is_open, Runs.phase_of, Runs.MayDecide}
use Rattle.kernel_rules.specs.{Runs.IsRun}

-- The reply is a refusal.
abbrev pub IsRefusal : Reply → Type 0
IsRefusal (Reply.Ok v) = ⊥
IsRefusal _ = Unit {0}

-- The ticks that a refused call adds to those owed: a `tick` answered `raced` or `busy` adds its own.
abbrev pub ticks_kept : Call → Reply → ℕ
ticks_kept (Tick n) Reply.Raced = n
ticks_kept (Tick n) (Reply.Busy d) = n
ticks_kept _ _ = 0

-- How many calls a reply counts: `calls-spent` counts none.
abbrev pub calls_counted : Reply → ℕ
calls_counted Reply.CallsSpent = 0
calls_counted _ = 1

-- The new state is the old one, but for the ticks that core c owes and the calls that it has counted.
pub record IsAsBefore (s new : State) (c owed counted : ℕ) : Type 0 where
  pub place : new.place ≡ s.place
  pub frame : new.frame ≡ s.frame
  pub number : new.number ≡ s.number
  pub grace : new.grace ≡ s.grace
  pub limits : new.limits ≡ s.limits
  pub core : new.core ≡ put s.core c (record (s.core c) { owed = owed; counted = counted })

-- A refusal leaves the state as it was, but for the owed ticks of a `tick`, and the count of calls.
abbrev pub RefusalKeeps : Type 0
RefusalKeeps = (s : State) (c : ℕ) (call : Call) (r : Reply) → IsRefusal r
    → IsAsBefore s (state_by s c call r) c ((s.core c).owed + ticks_kept call r) ((s.core c).counted + calls_counted r)

-- The sets of one grace period lie within the wider ones, at core c.
pub record IsWithin (g : Grace) (c : ℕ) : Type 0 where
  pub waits : IsTrue (g.waits c) → IsTrue (g.not_passed c)
  pub flushes : IsTrue (g.unflushed c) → IsTrue (g.flush_unknown c)

-- In every state reached from the start, the cores that wait have not passed, and the flush of those unflushed is unknown.
abbrev pub WaitsWithin : Type 0
WaitsWithin = (setting : Setting) (events : List Event) (x : Thing) (c : ℕ) → IsWithin ((after setting events).grace x) c

-- In every state reached from the start, a core that waits in a grace period is in a call.
abbrev pub WaitersInside : Type 0
WaitersInside = (setting : Setting) (events : List Event) (x : Thing) (c : ℕ) → IsTrue (((after setting events).grace x).waits c)
    → IsTrue ((after setting events).core c).inside

-- The relation permits `ok` with a value only where the first reply in order is that `ok`, and it permits the first reply in order.
pub record AgreesFirst (s : State) (c : ℕ) (call : Call) : Type 0 where
  pub only_ok : (v : Value) → MayReply s c call (Reply.Ok v) → alone s c call ≡ Reply.Ok v
  pub permitted : MayReply s c call (alone s c call)

-- In every state reached from the start, whoever is in a call, the relation and the first reply in order agree.
abbrev pub FirstPermitted : Type 0
FirstPermitted = (setting : Setting) (events : List Event) (c : ℕ) (call : Call) → AgreesFirst (after setting events) c call

-- The ticks of the machine: the budgets of all temporal capabilities, and what all cores have spent and have not had back.
abbrev pub ticks : State → ℕ
ticks s = sum_below (λ f. (tcap_in (s.frame f)).budget) s.limits.frames + sum_below (λ c. outstanding (s.core c)) s.limits.cores

-- The frames among these things.
abbrev pub released : List Thing → List ℕ
released [] = []
released (PlaceOf f i ∷ things) = released things
released (FrameOf f ∷ things) = f ∷ released things
released (NumberOf l ∷ things) = released things

-- In every state that a run reaches, a call that is carried out changes the references to each frame by those that it takes
-- less those that it releases, each of which begins the frame's grace period.
abbrev pub RefsChange : Type 0
RefsChange = (setting : Setting) → IsSetting setting → (events : List Event) → IsRun setting events
    → (c : ℕ) (call : Call) (v : Value) → MayDecide setting events c call (Reply.Ok v)
    → IsFoundAnd (change_of (after setting events) c call) λ change. (f : ℕ) →
    refs (state_by (after setting events) c call (Reply.Ok v)) f + times f (released change.begins)
    ≡ refs (after setting events) f + times f change.takes

-- Capabilities name frames with an object of their kind: each that a place holds, and each that a core may use in an open call.
pub record NamesFit (setting : Setting) (events : List Event) : Type 0 where
  pub held : (f i : ℕ) (k : Capability) → (after setting events).place f i ≡ Holds k → IsGood (after setting events) k
  pub used : (c : ℕ) (at : Slot) (k : Capability) → IsTrue (is_open (phase_of events c)) → usable (after setting events) c at ≡ Some k
      → IsGood (after setting events) k

-- In every state that a run reaches, capabilities name what they say, though frames are retyped and made anew.
abbrev pub CapabilitiesFit : Type 0
CapabilitiesFit = (setting : Setting) → IsSetting setting → (events : List Event) → IsRun setting events → NamesFit setting events
