-- Replies told apart by numbers.
use Rattle.seq_state.specs.{ℕ, Reply}

-- The number of a reply, in their order, from 0.
abbrev pub reply_number : Reply → ℕ
reply_number (Reply.Ok v) = 0
reply_number Reply.NoSlot = 1
reply_number Reply.Empty = 2
reply_number Reply.WrongCap = 3
reply_number Reply.Occupied = 4
reply_number (Reply.Quiescing n) = 5
reply_number (Reply.Unflushed n) = 6
reply_number Reply.FrameKind = 7
reply_number Reply.OutOfRange = 8
reply_number (Reply.Referenced n) = 9
reply_number Reply.NotEmpty = 10
reply_number Reply.Dead = 11
reply_number Reply.Deep = 12
reply_number Reply.Bottom = 13
reply_number (Reply.Running n) = 14
reply_number (Reply.Short n) = 15
reply_number Reply.Unlike = 16
reply_number Reply.TooMany = 17
reply_number Reply.Same = 18
reply_number Reply.EpochsSpent = 19
reply_number Reply.Raced = 20
reply_number (Reply.Busy n) = 21
reply_number Reply.Fault = 22
reply_number Reply.CallsSpent = 23
reply_number Reply.NoRight = 24

-- The number that a refusal tells; 0 where it tells none.
abbrev pub number_told : Reply → ℕ
number_told (Reply.Quiescing n) = n
number_told (Reply.Unflushed n) = n
number_told (Reply.Referenced n) = n
number_told (Reply.Running n) = n
number_told (Reply.Short n) = n
number_told (Reply.Busy n) = n
number_told _ = 0
