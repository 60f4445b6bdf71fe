use Rattle.std.proofs.Common.{◌≡◌, ℕ, ◌<◌, length, get_or}
use Rattle.{std.specs.Slots.slots_items, turn_rule.specs.Positions.position}
use Rattle.turn_rule.proofs.ends.words_of.Given as goal

abbrev pub invariant-loop-at : goal.invariant-loop-at
invariant-loop-at l = (length l.words.items ≡ length l.fn.words.items)
    × ((k : ℕ) → k < l.at → get_or l.words.items k 0 ≡ get_or (slots_items l.closed.words) (position l.spread k) 0)
