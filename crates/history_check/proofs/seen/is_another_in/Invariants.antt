use Rattle.std.proofs.Common.{◌≡◌, ◌≢◌, ◌<◌, ◌-◌, ℕ, length, false}
use Rattle.history_check.specs.{is_inside, seen_of}
use Rattle.history_check.proofs.seen.is_another_in.Given as goal

abbrev pub invariant-cores : goal.invariant-cores
invariant-cores l = (d : ℕ) → d < l.at → d ≢ l.fn.core → is_inside (seen_of l.seen.items d).at ≡ false

abbrev pub decreases-cores : goal.decreases-cores
decreases-cores l = length l.seen.items - l.at
