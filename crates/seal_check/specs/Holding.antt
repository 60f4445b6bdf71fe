-- What a place holds for some core, and what is held by it.
use Rattle.std.specs.Prelude.{◌≡◌, ◌<◌, ◌&&◌}
use Rattle.seq_lookups.specs.seq_state.specs.{ℕ, Bool, not, Option, Some, None, Capability, has_rights, State, Slot, usable}
use Rattle.{spk_nums.specs.Rights.right_to_use, world_laws.specs.Worlds.gates}

-- A capability holds what it leads to: it has the right to use, and is no gate.
abbrev pub holds : Capability → Bool
holds k = has_rights k.rights right_to_use && not (gates k.kind)

-- What some core of the machine may use at a slot, or that none may use anything there.
abbrev pub IsUsedAt : State → Slot → Option Capability → Type 0
IsUsedAt s at None = (d : ℕ) → d < s.limits.cores → usable s d at ≡ None
IsUsedAt s at (Some k) = (d : ℕ) × (d < s.limits.cores) × (usable s d at ≡ Some k)
