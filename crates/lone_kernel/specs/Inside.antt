-- How far a core is inside its call.
use Rattle.std.specs.Prelude.{◌<◌}
use Rattle.flight_laws.specs.core_invariant.specs.{ℕ, Option, Some, None, ActiveCall}
use Rattle.spk_nums.specs.Bounds.{bound_of}

-- So many steps are fewer than the bound of the call in which a core is, on so many cores.
abbrev pub IsBelowBound : ℕ → Option ActiveCall → ℕ → Type 0
IsBelowBound cores None k = ⊥
IsBelowBound cores (Some a) k = k < bound_of a.call cores
