use Rattle.std.specs.Prelude.{◌≤◌, ◌-◌}
use Rattle.straight_pairs.specs.Sharing.{IsSharing}
use Rattle.straight_pairs.proofs.pairs.share_all.Given as goal

-- the call makes the pair's next step, after so many
abbrev pub invariant-sharing : goal.invariant-sharing
invariant-sharing g l = record {
  few : l.steps ≤ 40;
  shares : IsSharing l.own l.call l.steps l.caps l.pair (g.W.Words.core l.words);
}

abbrev pub decreases-sharing : goal.decreases-sharing
decreases-sharing g l = 40 - l.steps
