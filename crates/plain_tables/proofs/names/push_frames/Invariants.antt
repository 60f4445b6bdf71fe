use Rattle.plain_tables.proofs.Common.{sum_below, times, frame_names, state_of, Adds}
use Rattle.plain_tables.proofs.names.push_frames.Given as goal

abbrev pub invariant-frames : goal.invariant-frames
invariant-frames l = Adds l.initial.names.items l.names.items (λ f. sum_below (λ g. times f (frame_names ((state_of l.k).frame g))) l.frame)
