-- What an atomic step does to its word, by the word's place.
use Rattle.std.specs.Prelude.{ℕ, ◌+◌, ◌%◌, ◌^◌, ◌==◌, Bool, if◌then◌else◌}
use Rattle.spk_nums.specs.declared.steps.WordOp.{WordOp}
use Rattle.spk_nums.specs.declared.steps.WordOp.TheVariants.{Load, Compare, Store, Add}

-- The place of the word on which the step is made.
abbrev pub place_in : WordOp → ℕ
place_in (Load at) = at
place_in (Compare at expected new) = at
place_in (Store at new) = at
place_in (Add at by) = at

-- What a compare leaves, where it did or did not find what it expects.
abbrev pub left_if : Bool → ℕ → ℕ → ℕ
left_if equal found new = if equal then new else found

-- What the step leaves in the word, where it found this.
abbrev pub left_by : WordOp → ℕ → ℕ
left_by (Load at) found = found
left_by (Compare at expected new) found = left_if (found == expected) found new
left_by (Store at new) found = new
left_by (Add at by) found = (found + by) % 2 ^ 64

-- What a core is told of the word found: a store tells it only what it has stored.
abbrev pub told_by : WordOp → ℕ → ℕ
told_by (Load at) found = found
told_by (Compare at expected new) found = found
told_by (Store at new) found = new
told_by (Add at by) found = found
