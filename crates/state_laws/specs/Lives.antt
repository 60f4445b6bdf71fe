-- Liveness numbers, gates and threads in the states that runs reach.
use Rattle.std.specs.Prelude.{◌≡◌, ◌<◌, ◌++◌}
use Rattle.kernel_laws.specs.kernel_rules.specs.{ℕ, List, Some, IsTrue, Setting, IsSetting, Capability, Holds, Frame, Live}
use Rattle.kernel_laws.specs.kernel_rules.specs.{Dead, comp_in, thread_in, Slot, usable, fits, Event, after, is_open, phase_of, IsRun, Kind}
use Rattle.kernel_laws.specs.kernel_rules.specs.State.{State}

-- A frame has a component of this liveness number and epoch.
pub record IsCompOf (x : Frame) (l e : ℕ) : Type 0 where
  pub comp : IsTrue (fits Kind.Comp x)
  pub number : (comp_in x).number ≡ l
  pub epoch : (comp_in x).epoch ≡ e

-- In every state that a run reaches, the frame of a live number has a component of that number and epoch.
abbrev pub LiveNumbersFit : Type 0
LiveNumbersFit = (setting : Setting) → IsSetting setting → (events : List Event) → IsRun setting events → (l e f : ℕ)
    → (after setting events).number l ≡ Live e f → IsCompOf ((after setting events).frame f) l e

-- No two frames have components of one liveness number and one epoch.
abbrev pub CompsApart : Type 0
CompsApart = (setting : Setting) → IsSetting setting → (events : List Event) → IsRun setting events → (f g : ℕ)
    → IsTrue (fits Kind.Comp ((after setting events).frame f)) → IsTrue (fits Kind.Comp ((after setting events).frame g))
    → (comp_in ((after setting events).frame f)).number ≡ (comp_in ((after setting events).frame g)).number
    → (comp_in ((after setting events).frame f)).epoch ≡ (comp_in ((after setting events).frame g)).epoch → f ≡ g

-- A gate's epoch is that in which its component was made.
abbrev pub IsOfEpoch : State → Capability → Type 0
IsOfEpoch s k = k.kind ≡ Kind.Gate → k.arg ≡ (comp_in (s.frame k.frame)).epoch

-- So it is of each gate that a place holds, and of each that a core in an open call may use.
pub record GatesAre (setting : Setting) (events : List Event) : Type 0 where
  pub held : (f i : ℕ) (k : Capability) → (after setting events).place f i ≡ Holds k → IsOfEpoch (after setting events) k
  pub used : (c : ℕ) (at : Slot) (k : Capability) → IsTrue (is_open (phase_of events c)) → usable (after setting events) c at ≡ Some k
      → IsOfEpoch (after setting events) k

abbrev pub GatesFit : Type 0
GatesFit = (setting : Setting) → IsSetting setting → (events : List Event) → IsRun setting events → GatesAre setting events

-- A dead epoch never lives again: where a number is dead after an epoch, it lives later in higher epochs alone.
abbrev pub DeadStays : Type 0
DeadStays = (setting : Setting) (later earlier : List Event) → IsRun setting (later ++ earlier) → (l e d f : ℕ)
    → (after setting earlier).number l ≡ Dead e → (after setting (later ++ earlier)).number l ≡ Live d f → e < d

-- A thread runs on a core exactly where it is that core's current one.
pub record RunsWhereCurrent (s : State) (f c : ℕ) : Type 0 where
  pub current : (thread_in (s.frame f)).runs_on ≡ Some c → (c < s.limits.cores) × ((s.core c).thread ≡ f)
  pub runs : c < s.limits.cores → (s.core c).thread ≡ f → (thread_in (s.frame f)).runs_on ≡ Some c

abbrev pub ThreadsRun : Type 0
ThreadsRun = (setting : Setting) → IsSetting setting → (events : List Event) → IsRun setting events → (f c : ℕ)
    → RunsWhereCurrent (after setting events) f c
