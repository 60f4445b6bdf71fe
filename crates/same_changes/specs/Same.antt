-- When a call comes to the same in two states.
use Rattle.std.specs.Prelude.{◌≡◌}
use Rattle.seq_lookups.specs.seq_state.specs.{ℕ, List, Setting, IsSetting, Call, State, Change, Judged, Refused, Found, acts}
use Rattle.seq_lookups.specs.seq_state.specs.{change_of, Event, after, Open, phase_of, IsRun, SameState}
use Rattle.seq_lookups.specs.Ranges.{IsInRange}

-- Two changes answer one value, begin the grace periods of the same things, and leave states that are one for the machine.
pub record SameChange (x y : Change) : Type 0 where
  pub value : x.value ≡ y.value
  pub next : SameState x.next y.next
  pub begins : x.begins ≡ y.begins

-- Two outcomes are one refusal, or two such changes.
abbrev pub SameOutcome : Judged Change → Judged Change → Type 0
SameOutcome (Refused r) (Refused q) = r ≡ q
SameOutcome (Found x) (Found y) = SameChange x y
SameOutcome _ _ = ⊥

-- In every state that a run reaches, and in every state that is one with it for all that the machine has, an open call comes to
-- the same.
abbrev pub SameChanges : Type 0
SameChanges = (setting : Setting) → IsSetting setting → (events : List Event) → IsRun setting events
    → (c : ℕ) (call : Call) → phase_of events c ≡ Open call
    → (t : State) → SameState t (after setting events)
    → SameOutcome (change_of t c call) (change_of (after setting events) c call)

-- In every such state, the core may make the call or may not in both.
abbrev pub SameActs : Type 0
SameActs = (setting : Setting) → IsSetting setting → (events : List Event) → IsRun setting events
    → (c : ℕ) (call : Call) → phase_of events c ≡ Open call
    → (t : State) → SameState t (after setting events) → acts t c call ≡ acts (after setting events) c call

-- In every such state, what the call finds is in the range of the plain kernel's words.
abbrev pub StaysInRange : Type 0
StaysInRange = (setting : Setting) → IsSetting setting → (events : List Event) → IsRun setting events
    → (c : ℕ) (call : Call) → phase_of events c ≡ Open call
    → (t : State) → SameState t (after setting events) → IsInRange t c call
