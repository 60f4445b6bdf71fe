use Rattle.{std.proofs.Common.◌≡◌, std.proofs.Common.take, stage_sweep.specs.Counters.latest_stamp}
use Rattle.stage_sweep.proofs.count_words.CountWords.stamp.Given as goal

abbrev pub invariant-loop-word : goal.invariant-loop-word
invariant-loop-word l = l.latest ≡ latest_stamp (take l.word-index l.word-items)
