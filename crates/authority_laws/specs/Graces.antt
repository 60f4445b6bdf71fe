-- Why grace periods begin.
use Rattle.std.specs.Prelude.{◌≡◌, ◌<◌, ◌∷◌}
use Rattle.state_laws.specs.kernel_rules.specs.{ℕ, true, false, List, [], Setting, IsSetting, Capability, Call, Reply, Holds}
use Rattle.state_laws.specs.kernel_rules.specs.{Quiescing, Thing, PlaceOf, FrameOf, NumberOf, place_names, frame_names, number_names}
use Rattle.state_laws.specs.kernel_rules.specs.{core_names, times, is_live, begins, Event, Decides, after, IsRun}
use Rattle.state_laws.specs.kernel_rules.specs.State.{State}
use Rattle.authority_laws.specs.Authority.{Part, PlaceIs, FrameIs, NumberIs, CoreIs}

-- The frames to which a part has references: those of a thread's stack are its frame's.
abbrev pub names_of : State → Part → List ℕ
names_of s (PlaceIs f i) = place_names (s.place f i)
names_of s (FrameIs f) = frame_names (s.frame f)
names_of s (NumberIs l) = number_names (s.number l)
names_of s (CoreIs c) = core_names (s.core c)
names_of s x = []

-- From s to t a part has lost a reference to a frame.
pub record LosesOne (s t : State) (f : ℕ) : Type 0 where
  pub part : Part
  pub fewer : times f (names_of t part) < times f (names_of s part)

-- What was held is removed; a number that was live is dead; some part has lost a reference to a frame.
abbrev pub HasCause : State → State → Thing → Type 0
HasCause s t (PlaceOf f i) = (k : Capability) × (s.place f i ≡ Holds k) × (t.place f i ≡ Quiescing k)
HasCause s t (FrameOf f) = LosesOne s t f
HasCause s t (NumberOf l) = (is_live (s.number l) ≡ true) × (is_live (t.number l) ≡ false)

-- In every run, where a decision begins the grace period of a thing, that has its cause.
abbrev pub GracesHaveCause : Type 0
GracesHaveCause = (setting : Setting) → IsSetting setting → (events : List Event) (c : ℕ) (call : Call) (r : Reply)
    → IsRun setting (Decides c call r ∷ events) → (x : Thing) → begins (after setting events) c call r x ≡ true
    → HasCause (after setting events) (after setting (Decides c call r ∷ events)) x
