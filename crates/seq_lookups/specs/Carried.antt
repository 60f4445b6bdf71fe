-- What the plain kernel makes of a call.
use Rattle.std.specs.Prelude.{◌≡◌, ◌∷◌}
use Rattle.seq_state.specs.{Capability, Reply, State, Holds, Quiescing, PlaceOf, with_place, place_names, Slot, begun, Change}
use Rattle.seq_state.specs.{Judged, changed, reply_in, Represents}
use Rattle.{seq_state.specs.kernel_rules.specs.Edits.frames_of, seq_state.specs.Maps.Maps}

-- The state in which what a place holds is removed: its grace period has begun, and that of the frame to which it had a reference.
abbrev pub removed : State → Slot → Capability → State
removed s at k =
    begun s (PlaceOf at.node at.index ∷ frames_of (place_names (Holds k))) (with_place s at.node at.index (Quiescing k))

-- In state s, what is judged is carried out: its reply is answered, and the kernel then represents the state that it leaves,
-- which is s itself where it is refused.
pub record IsCarriedOut (s : State) (outcome : Judged Change) (r : Reply) (k : Maps) : Type 0 where
  pub reply : r ≡ reply_in outcome
  pub state : Represents k (changed s outcome)
