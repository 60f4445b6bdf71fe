use Rattle.plain_tables.proofs.Common.{◌≡◌, ◌++◌, string_bytes, slice_index, lines_below, frame_lines, state_of}
use Rattle.plain_tables.proofs.frames.push_frames.Given as goal

abbrev pub invariant-frames : goal.invariant-frames
invariant-frames l =
    string_bytes l.text ≡ string_bytes l.initial.text
    ++ lines_below (λ f. frame_lines f ((state_of l.k).frame f) ((state_of l.k).place f) (slice_index l.counts f)) l.number
