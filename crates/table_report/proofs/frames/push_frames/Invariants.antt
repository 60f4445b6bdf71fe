use Rattle.{std.proofs.Common.◌≡◌, std.proofs.Common.◌++◌, std.proofs.Common.string_bytes, table_report.specs.Shown.frames_text}
use Rattle.table_report.proofs.frames.push_frames.Given as goal

abbrev pub invariant-frames : goal.invariant-frames
invariant-frames l = string_bytes l.text ≡ string_bytes l.initial.text ++ frames_text l.image.shape l.image.words l.frame
