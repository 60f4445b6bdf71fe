-- The replies that are tried.
use Rattle.std.specs.Prelude.{◌∷◌, ◌++◌}
use Rattle.open_calls.specs.seq_state.specs.{ℕ, zero, suc, List, [], Option, Some, None, Reply}

-- a reply that is no refusal, alone
abbrev pub ok_of : Reply → List Reply
ok_of (Reply.Ok v) = Reply.Ok v ∷ []
ok_of _ = []

-- a reply, if there is one
abbrev pub listed : Option Reply → List Reply
listed None = []
listed (Some r) = r ∷ []

-- the refusals that are names alone
abbrev pub plain_replies : List Reply
plain_replies = Reply.NoSlot ∷ Reply.Empty ∷ Reply.WrongCap ∷ Reply.NoRight ∷ Reply.Occupied ∷ Reply.FrameKind ∷ Reply.OutOfRange
    ∷ Reply.NotEmpty ∷ Reply.Dead ∷ Reply.Deep ∷ Reply.Bottom ∷ Reply.Unlike ∷ Reply.TooMany ∷ Reply.Same ∷ Reply.EpochsSpent
    ∷ Reply.Raced ∷ Reply.Fault ∷ Reply.CallsSpent ∷ []

-- the replies that name this core
abbrev pub core_replies : ℕ → List Reply
core_replies c = Reply.Quiescing c ∷ Reply.Unflushed c ∷ Reply.Running c ∷ Reply.Busy c ∷ []

-- those of each core below this number
abbrev pub below_replies : ℕ → List Reply
below_replies zero = []
below_replies (suc n) = below_replies n ++ core_replies n

-- the first reply in order, if it is `ok`; the one that tells a number, if there is one; the refusals that are names alone; and those that
-- name a core
abbrev pub replies_of : ℕ → Reply → Option Reply → List Reply
replies_of cores first number = ok_of first ++ listed number ++ plain_replies ++ below_replies cores
