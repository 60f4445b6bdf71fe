-- Refusals, and the replies that say them.
use Rattle.{stage_sweep.specs.spk_nums.specs.declared.replies.Reply.Reply, act_states.specs.declared.refusals.Refusal.Refusal}

-- the reply that says a refusal
abbrev pub reply_of : Refusal → Reply
reply_of Refusal.NoSlot = Reply.NoSlot
reply_of Refusal.Empty = Reply.Empty
reply_of Refusal.WrongCap = Reply.WrongCap
reply_of Refusal.Occupied = Reply.Occupied
reply_of (Refusal.Quiescing core) = Reply.Quiescing core
reply_of (Refusal.Unflushed core) = Reply.Unflushed core
reply_of Refusal.FrameKind = Reply.FrameKind
reply_of Refusal.OutOfRange = Reply.OutOfRange
reply_of (Refusal.Referenced n) = Reply.Referenced n
reply_of Refusal.NotEmpty = Reply.NotEmpty
reply_of Refusal.Dead = Reply.Dead
reply_of Refusal.Deep = Reply.Deep
reply_of Refusal.Bottom = Reply.Bottom
reply_of (Refusal.Running core) = Reply.Running core
reply_of (Refusal.Short n) = Reply.Short n
reply_of Refusal.Unlike = Reply.Unlike
reply_of Refusal.TooMany = Reply.TooMany
reply_of Refusal.Same = Reply.Same
reply_of Refusal.EpochsSpent = Reply.EpochsSpent
reply_of Refusal.Raced = Reply.Raced
reply_of (Refusal.Busy core) = Reply.Busy core
reply_of Refusal.Fault = Reply.Fault
reply_of Refusal.CallsSpent = Reply.CallsSpent
reply_of Refusal.NoRight = Reply.NoRight

-- the refusal that a reply says; of `ok`, which is none, `raced`
abbrev pub refusal_of : Reply → Refusal
refusal_of (Reply.Ok v) = Refusal.Raced
refusal_of Reply.NoSlot = Refusal.NoSlot
refusal_of Reply.Empty = Refusal.Empty
refusal_of Reply.WrongCap = Refusal.WrongCap
refusal_of Reply.Occupied = Refusal.Occupied
refusal_of (Reply.Quiescing core) = Refusal.Quiescing core
refusal_of (Reply.Unflushed core) = Refusal.Unflushed core
refusal_of Reply.FrameKind = Refusal.FrameKind
refusal_of Reply.OutOfRange = Refusal.OutOfRange
refusal_of (Reply.Referenced n) = Refusal.Referenced n
refusal_of Reply.NotEmpty = Refusal.NotEmpty
refusal_of Reply.Dead = Refusal.Dead
refusal_of Reply.Deep = Refusal.Deep
refusal_of Reply.Bottom = Refusal.Bottom
refusal_of (Reply.Running core) = Refusal.Running core
refusal_of (Reply.Short n) = Refusal.Short n
refusal_of Reply.Unlike = Refusal.Unlike
refusal_of Reply.TooMany = Refusal.TooMany
refusal_of Reply.Same = Refusal.Same
refusal_of Reply.EpochsSpent = Refusal.EpochsSpent
refusal_of Reply.Raced = Refusal.Raced
refusal_of (Reply.Busy core) = Refusal.Busy core
refusal_of Reply.Fault = Refusal.Fault
refusal_of Reply.CallsSpent = Refusal.CallsSpent
refusal_of Reply.NoRight = Refusal.NoRight
