use Rattle.kernel_history.proofs.{arith, place_of}
use Rattle.step_views.proofs.names.found_at.Goals as goal

pub returns-then-place-frames : goal.returns-then-place-frames
unfolding place_of
returns-then-place-frames c = record { is_in = (omega arith, omega arith); is_there = omega arith }

pub returns-then-place-frames-2 : goal.returns-then-place-frames-2
unfolding place_of
returns-then-place-frames-2 c = record { is_in = omega arith; is_there = omega arith }
