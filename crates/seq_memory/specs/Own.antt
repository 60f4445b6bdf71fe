-- The calls on memory.
use Rattle.seq_lookups.specs.seq_state.specs.{Call, Retype, Map, Unmap, Touch, Flush}

-- A call that retypes a frame, maps, unmaps or touches a page, or flushes the core's translations.
abbrev pub IsMemoryCall : Call → Type 0
IsMemoryCall (Retype r f k) = Unit {0}
IsMemoryCall (Map p v r f w) = Unit {0}
IsMemoryCall (Unmap p v) = Unit {0}
IsMemoryCall (Touch v) = Unit {0}
IsMemoryCall Flush = Unit {0}
IsMemoryCall call = ⊥
