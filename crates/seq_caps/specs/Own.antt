-- The calls on capabilities.
use Rattle.seq_lookups.specs.seq_state.specs.{Call, Look, Copy, Remove, Grow, Shrink, Make, Part}

-- A call that looks at a capability, copies or removes one, makes an object, or links or unlinks a leaf.
abbrev pub IsCapCall : Call → Type 0
IsCapCall (Look a) = Unit {0}
IsCapCall (Copy a t b rights) = Unit {0}
IsCapCall (Remove t b) = Unit {0}
IsCapCall (Grow t i l) = Unit {0}
IsCapCall (Shrink t i) = Unit {0}
IsCapCall (Part r f n t b) = Unit {0}
IsCapCall (Make what range frame table slot) = Unit {0}
IsCapCall call = ⊥
