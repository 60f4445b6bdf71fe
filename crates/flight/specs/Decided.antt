-- When the call of a core is decided, and what a step of it leads to.
use Rattle.std.specs.Prelude.{◌≡◌}
use Rattle.work_invariant.specs.core_invariant.specs.{Bool, true, false, Option, Some, None, Stage, Enter, Living, Undecided, Decided}
use Rattle.work_invariant.specs.core_invariant.specs.{Leave, ActiveCall, Took, GoesOn, Decides, Returns, Changes}

-- Whether a call is decided that stands at this stage.
abbrev pub is_decided_at : Stage → Bool
is_decided_at Enter = false
is_decided_at (Living alive) = false
is_decided_at (Undecided work) = false
is_decided_at (Decided r drawn tail) = true
is_decided_at (Leave r x) = true

-- Whether there is a call that is decided.
abbrev pub is_decided_in : Option ActiveCall → Bool
is_decided_in None = false
is_decided_in (Some a) = is_decided_at a.stage

-- What a step leads to of a call that is or is not decided: it goes on as it was, it decides, or it returns a decided call.
abbrev pub Turns : Bool → Took → Type 0
Turns decided (GoesOn a) = is_decided_at a.stage ≡ decided
Turns decided (Decides r a) = (decided ≡ false) × (is_decided_at a.stage ≡ true)
Turns decided (Returns r x) = decided ≡ true
Turns decided (Changes r change a) = (decided ≡ false) × (is_decided_at a.stage ≡ true)
