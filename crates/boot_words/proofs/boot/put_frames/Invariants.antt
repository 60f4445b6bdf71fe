use Rattle.{boot_words.specs.Fills, boot_words.specs.IsFrameRight, std.proofs.Common.ℕ, std.proofs.Common.◌<◌}
use Rattle.boot_words.proofs.boot.put_frames.Given as goal

abbrev pub invariant-frames : goal.invariant-frames
invariant-frames l = record {
  fills : Fills l.setup l.initial.words l.words;
  right : (f : ℕ) → f < l.frame → IsFrameRight l.setup l.words f;
}
