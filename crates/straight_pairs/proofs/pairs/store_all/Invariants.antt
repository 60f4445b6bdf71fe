use Rattle.std.specs.Prelude.{◌≤◌, ◌-◌}
use Rattle.straight_pairs.specs.Sharing.{IsDeciding}
use Rattle.straight_pairs.proofs.pairs.store_all.Given as goal

-- the call makes the pair's next store, after so many steps
abbrev pub invariant-storing : goal.invariant-storing
invariant-storing g l = record {
  few : l.steps ≤ 110;
  decides : IsDeciding l.own l.call l.steps l.caps l.value l.pair (g.W.Words.core l.words);
}

abbrev pub decreases-storing : goal.decreases-storing
decreases-storing g l = 110 - l.steps
