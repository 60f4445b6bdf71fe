use Rattle.std.proofs.Common.{◌≡◌, ◌==◌, ◌++◌, string_bytes}
use Rattle.{world_parts.specs.Partitions.world_in, world_lines.specs.Lines.those}
use Rattle.world_lines.proofs.lines.push_frames.Given as goal

abbrev pub invariant-frames : goal.invariant-frames
invariant-frames l = string_bytes l.text ≡ string_bytes l.initial.text ++ those (λ f. world_in l.parts f == l.world) l.frame
