use Rattle.{std.proofs.Common.◌≡◌, page_touches.specs.Touches.start_words}
use Rattle.page_touches.proofs.touches.start_words.Given as goal

abbrev pub invariant-frames : goal.invariant-frames
invariant-frames l = l.words.items ≡ start_words l.cores l.frame
