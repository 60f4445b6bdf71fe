-- What a decision leaves of how the words of frames are read.
use Rattle.std.specs.Prelude.{◌≡◌}
use Rattle.kernel_history.specs.{ℕ, true, false, IsTrue, Capability, Call, Reply, Quiescing, State, is_node, state_by, mark_in_frame}
use Rattle.kernel_history.specs.{changes_frames, changes_places}

-- The words of all frames are read for marks as before.
abbrev pub ReadAlike : State → State → Type 0
ReadAlike s s' = (f i v : ℕ) → mark_in_frame (s'.frame f) i v ≡ mark_in_frame (s.frame f) i v

-- A call that changes no frames leaves them so.
abbrev pub KindsStay : Type 0
KindsStay = (s : State) (c : ℕ) (call : Call) (r : Reply) → changes_frames call ≡ false → ReadAlike s (state_by s c call r)

-- And a frame that is a node after a call that changes places has been one before, but where its place holds nothing removed.
abbrev pub NodesStay : Type 0
NodesStay = (s : State) (c : ℕ) (call : Call) (r : Reply) → changes_places call ≡ true → (f i : ℕ) (k : Capability)
    → IsTrue (is_node ((state_by s c call r).frame f)) → (state_by s c call r).place f i ≡ Quiescing k
    → (v : ℕ) → mark_in_frame ((state_by s c call r).frame f) i v ≡ mark_in_frame (s.frame f) i v
