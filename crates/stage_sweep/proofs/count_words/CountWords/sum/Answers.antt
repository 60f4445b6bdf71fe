use Rattle.std.proofs.{Common.arith, lemmas.Int.ints, lemmas.Int.to_z-of_z, lemmas.List.Sums.fold_more}
use Rattle.stage_sweep.proofs.count_words.CountWords.sum.Goals as goal

pub loop-word-preserved : goal.loop-word-preserved
loop-word-preserved c =
    (grind (arith, ints, to_z-of_z, fold_more), omega (arith, ints), omega (arith, ints), c.loop-word.invariant.3)
