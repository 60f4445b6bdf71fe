-- Runs of the kernel: which states are reached from the start.
use Rattle.std.specs.Prelude.{ℕ, ◌≡◌, ◌<◌, Bool, true, false, ◌==◌, if◌then◌else◌, List, [], ◌∷◌, IsTrue}
use Rattle.spk_nums.specs.{Setting.Setting, CallLimits.InLimits, declared.calls.Call.Call, declared.replies.Reply.Reply}
use Rattle.kernel_rules.specs.{State.State, Start.start, GracePeriods.entered, GracePeriods.returned, CallRelation.MayReply}
use Rattle.kernel_rules.specs.{CallRelation.state_by}

-- An event of a core: it enters a call, its call is decided with a reply, or it returns.
pub data Event : Type 0 where
  Enters : ℕ → Call → Event
  Decides : ℕ → Call → Reply → Event
  Returns : ℕ → Event

-- The state after one more event.
abbrev pub after_event : State → Event → State
after_event s (Enters c call) = entered s c
after_event s (Decides c call r) = state_by s c call r
after_event s (Returns c) = returned s c

-- The state after a list of events, the newest first.
abbrev pub after : Setting → List Event → State
after setting [] = start setting
after setting (e ∷ events) = after_event (after setting events) e

-- A core is out of a call, in one that is open, or in one that is decided with a reply.
pub data Phase : Type 0 where
  Out : Phase
  Open : Call → Phase
  Decided : Call → Reply → Phase

-- Whether a core is in a call.
abbrev pub is_in : Phase → Bool
is_in Out = false
is_in (Open call) = true
is_in (Decided call r) = true

-- Whether a core is in an open call.
abbrev pub is_open : Phase → Bool
is_open Out = false
is_open (Open call) = true
is_open (Decided call r) = false

-- Whether a core is in a decided call.
abbrev pub is_decided : Phase → Bool
is_decided Out = false
is_decided (Open call) = false
is_decided (Decided call r) = true

-- The core of an event.
abbrev pub core_of : Event → ℕ
core_of (Enters c call) = c
core_of (Decides c call r) = c
core_of (Returns c) = c

-- The phase into which an event brings its core.
abbrev pub phase_by : Event → Phase
phase_by (Enters c call) = Open call
phase_by (Decides c call r) = Decided call r
phase_by (Returns c) = Out

-- The phase of a core after a list of events.
abbrev pub phase_of : List Event → ℕ → Phase
phase_of [] c = Out
phase_of (e ∷ events) c = if c == core_of e then phase_by e else phase_of events c

-- A core of the machine that is out enters a call within its limits.
pub record MayEnter (setting : Setting) (events : List Event) (c : ℕ) (call : Call) : Type 0 where
  pub is_core : c < setting.cores
  pub is_out : phase_of events c ≡ Out
  pub in_limits : InLimits call

-- The open call is decided with a reply that the relation permits.
pub record MayDecide (setting : Setting) (events : List Event) (c : ℕ) (call : Call) (r : Reply) : Type 0 where
  pub is_open : phase_of events c ≡ Open call
  pub permitted : MayReply (after setting events) c call r

-- An event may follow: a core that is out enters, an open call is decided, and a decided one returns.
abbrev pub MayFollow : Setting → List Event → Event → Type 0
MayFollow setting events (Enters c call) = MayEnter setting events c call
MayFollow setting events (Decides c call r) = MayDecide setting events c call r
MayFollow setting events (Returns c) = IsTrue (is_decided (phase_of events c))

-- A list of events, the newest first, is a run: each event may follow those before it.
abbrev pub IsRun : Setting → List Event → Type 0
IsRun setting [] = Unit {0}
IsRun setting (e ∷ events) = IsRun setting events × MayFollow setting events e
