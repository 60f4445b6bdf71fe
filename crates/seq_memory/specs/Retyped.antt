-- What becomes of a frame that is retyped.
use Rattle.std.specs.Prelude.{if◌then◌else◌}
use Rattle.seq_lookups.specs.seq_state.specs.kernel_rules.specs.{ℕ, FrameKind, Untyped, User, Kernel, Blank, FrameOf, with_frame}
use Rattle.seq_lookups.specs.seq_state.specs.kernel_rules.specs.{with_grace}
use Rattle.seq_lookups.specs.seq_state.specs.kernel_rules.specs.{no_grace, frame_names, same_thing, begun, frames_of}
use Rattle.seq_lookups.specs.seq_state.specs.kernel_rules.specs.State.{State}

-- The state in which a frame is of another kind: to untyped its own grace period has ended, and those of the frames to which its
-- object had references have begun.
abbrev pub retyped : State → ℕ → FrameKind → State
retyped s f FrameKind.Untyped =
    begun s (frames_of (frame_names (s.frame f)))
    (with_grace (with_frame s f Untyped) (λ x. if same_thing x (FrameOf f) then no_grace else s.grace x))
retyped s f FrameKind.User = with_frame s f User
retyped s f FrameKind.Kernel = with_frame s f (Kernel Blank)
