use Rattle.std.specs.Prelude.{ℕ, List, codes}
use Rattle.spk_nums.specs.declared.kinds.Kind.{Kind}
use Rattle.spk_nums.specs.declared.kinds.Kind.TheVariants as kind
use Rattle.spk_nums.specs.declared.kinds.FrameKind.{FrameKind}
use Rattle.spk_nums.specs.declared.kinds.FrameKind.TheVariants as frame_kind
use Rattle.spk_nums.specs.declared.replies.Reply.{Reply}
use Rattle.spk_nums.specs.declared.replies.Reply.TheVariants.{Ok as ok_reply, NoSlot, Empty, WrongCap, Occupied, Quiescing}
use Rattle.spk_nums.specs.declared.replies.Reply.TheVariants.{Unflushed, FrameKind as wrong_frame, OutOfRange, Referenced}
use Rattle.spk_nums.specs.declared.replies.Reply.TheVariants.{NotEmpty, Dead, Deep, Bottom, Running, Short, Unlike}
use Rattle.spk_nums.specs.declared.replies.Reply.TheVariants.{TooMany, Same, EpochsSpent, Raced, Busy, Fault, CallsSpent, NoRight}

-- the word of a kind of entry
abbrev pub kind_word : Kind → List ℕ
kind_word kind.Range = codes "range"
kind_word kind.Table = codes "table"
kind_word kind.Leaf = codes "leaf"
kind_word kind.Pages = codes "pages"
kind_word kind.Pleaf = codes "pleaf"
kind_word kind.Comp = codes "comp"
kind_word kind.Gate = codes "gate"
kind_word kind.Thread = codes "thread"
kind_word kind.Tcap = codes "tcap"
kind_word kind.Link = codes "link"
kind_word kind.Page = codes "page"

-- the word of a kind of frame
abbrev pub frame_kind_word : FrameKind → List ℕ
frame_kind_word frame_kind.Untyped = codes "untyped"
frame_kind_word frame_kind.User = codes "user"
frame_kind_word frame_kind.Kernel = codes "kernel"

-- the word of a reply
abbrev pub reply_word : Reply → List ℕ
reply_word (ok_reply v) = codes "ok"
reply_word NoSlot = codes "no-slot"
reply_word Empty = codes "empty"
reply_word WrongCap = codes "wrong-cap"
reply_word Occupied = codes "occupied"
reply_word (Quiescing e) = codes "quiescing"
reply_word (Unflushed e) = codes "unflushed"
reply_word wrong_frame = codes "frame-kind"
reply_word OutOfRange = codes "out-of-range"
reply_word (Referenced k) = codes "referenced"
reply_word NotEmpty = codes "not-empty"
reply_word Dead = codes "dead"
reply_word Deep = codes "deep"
reply_word Bottom = codes "bottom"
reply_word (Running e) = codes "running"
reply_word (Short b) = codes "short"
reply_word Unlike = codes "unlike"
reply_word TooMany = codes "too-many"
reply_word Same = codes "same"
reply_word EpochsSpent = codes "epochs-spent"
reply_word Raced = codes "raced"
reply_word (Busy d) = codes "busy"
reply_word Fault = codes "fault"
reply_word CallsSpent = codes "calls-spent"
reply_word NoRight = codes "no-right"

-- the number of a reply, from 0
abbrev pub reply_code : Reply → ℕ
reply_code (ok_reply v) = 0
reply_code NoSlot = 1
reply_code Empty = 2
reply_code WrongCap = 3
reply_code Occupied = 4
reply_code (Quiescing e) = 5
reply_code (Unflushed e) = 6
reply_code wrong_frame = 7
reply_code OutOfRange = 8
reply_code (Referenced k) = 9
reply_code NotEmpty = 10
reply_code Dead = 11
reply_code Deep = 12
reply_code Bottom = 13
reply_code (Running e) = 14
reply_code (Short b) = 15
reply_code Unlike = 16
reply_code TooMany = 17
reply_code Same = 18
reply_code EpochsSpent = 19
reply_code Raced = 20
reply_code (Busy d) = 21
reply_code Fault = 22
reply_code CallsSpent = 23
reply_code NoRight = 24
