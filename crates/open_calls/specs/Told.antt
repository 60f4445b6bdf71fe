-- The replies that tell a number of the state.
use Rattle.std.specs.Prelude.{if◌then◌else◌}
use Rattle.plain_kernel.specs.seq_state.specs.{ℕ, Option, Some, None, min, ltb as nat_lt, Capability, Call, Retype, Transfer, Delegate}
use Rattle.plain_kernel.specs.seq_state.specs.{Replenish, Reply, State, outstanding, only, to_use, refs, Judged, Refused, Found, named}
use Rattle.plain_kernel.specs.seq_state.specs.{tcap_at, Kind}
use Rattle.plain_kernel.specs.seq_state.specs.{FrameKind}

-- how many references a frame of the machine has
abbrev pub referenced : State → ℕ → Option Reply
referenced s f = if nat_lt f s.limits.frames then Some (Reply.Referenced (refs s f)) else None

-- how much the temporal capability has that was found
abbrev pub short_of : State → Judged Capability → Option Reply
short_of s (Refused r) = None
short_of s (Found k) = Some (Reply.Short (tcap_at s k.frame).budget)

-- how much that has to which a name leads core c
abbrev pub short : State → ℕ → ℕ → Option Reply
short s c a = short_of s (named s c a (to_use (only Kind.Tcap)))

-- how many ticks core c has left to have back, where these are fewer than an amount
abbrev pub left : State → ℕ → ℕ → Option Reply
left s c m = if nat_lt (outstanding (s.core c)) m then Some (Reply.Short (min (outstanding (s.core c)) m)) else None

-- the reply that tells a number of the state, if a call of core c may be refused with one
abbrev pub told : State → ℕ → Call → Option Reply
told s c (Retype r f FrameKind.Untyped) = referenced s f
told s c (Transfer a b m) = short s c a
told s c (Delegate a b m) = short s c a
told s c (Replenish a m) = left s c m
told s c call = None
