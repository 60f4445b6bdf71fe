use Rattle.std.proofs.Common.{◌≡◌, ◌*◌, ◌≤◌, ◌^◌, take, length, pos, neg_ℤ, ◌≤ℤ◌}
use Rattle.stage_sweep.specs.Counters.{sum_of_counts}
use Rattle.stage_sweep.proofs.count_words.CountWords.sum.Given as goal

abbrev pub invariant-loop-word : goal.invariant-loop-word
invariant-loop-word l =
    (l.sum ≡ sum_of_counts (take l.word-index l.word-items)) × (neg_ℤ (pos (2 ^ 31 * l.word-index)) ≤ℤ l.sum)
    × (l.sum ≤ℤ pos (2 ^ 31 * l.word-index)) × (length l.word-items ≤ 8)
