-- What becomes of a frame that is made.
use Rattle.seq_lookups.specs.seq_state.specs.kernel_rules.specs.{ℕ, Kind, Object, Kernel, Holds, with_frame, with_place, plain_cap, Slot}
use Rattle.seq_lookups.specs.seq_state.specs.kernel_rules.specs.State.{State}

-- The state in which the frame holds the object, and the place its capability.
abbrev pub holding : State → ℕ → Object → Kind → Slot → State
holding s f object k at = with_place (with_frame s f (Kernel object)) at.node at.index (Holds (plain_cap k f))
