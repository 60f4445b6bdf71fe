use Rattle.std.proofs.Common.{◌≡◌, ℕ, ◌<◌, length, get_or}
use Rattle.turn_rule.specs.Positions.{position}
use Rattle.turn_rule.proofs.ends.laid.Given as goal

abbrev pub invariant-loop-at : goal.invariant-loop-at
invariant-loop-at l = (length l.memory.items ≡ position l.fn.spread (length l.fn.words))
    × ((k : ℕ) → k < l.at → get_or l.memory.items (position l.fn.spread k) 0 ≡ get_or l.fn.words k 0)
