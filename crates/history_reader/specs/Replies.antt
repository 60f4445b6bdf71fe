-- Replies as they are written: a name, and what comes after it. A reply is the list of its words; its name is at 0.
use Rattle.std.specs.Prelude.{ℕ, ◌+◌, nat_le, List, length, slice_get, Bool, false, Option, Some, None, Result, Ok, Err, codes}
use Rattle.spk_nums.specs.{Rights.least_rights, declared.kinds.Kind.Kind, declared.replies.Value.Value, declared.replies.Reply.Reply}
use Rattle.line_reader.specs.{declared.cause.Cause.Cause, declared.cause.Cause.TheVariants.S1, declared.cause.Cause.TheVariants.S2}
use Rattle.line_reader.specs.{Numerals.is_digits, Arguments.is_word, Arguments.word_at, Arguments.number_at, Arguments.end_at}
use Rattle.{std.specs.Prelude.if◌then◌else◌, std.specs.Prelude.ok_or, line_reader.specs.◌>>=◌, line_reader.specs.core_at}
use Rattle.{history_reader.specs.declared.replies.ReplyName.ReplyName}

-- ---- values

-- the kinds of capability
unfoldable pub kind_of : List ℕ → Option Kind
kind_of word =
    if is_word word (codes "range") then Some Kind.Range
    else (if is_word word (codes "table") then Some Kind.Table
    else (if is_word word (codes "leaf") then Some Kind.Leaf
    else (if is_word word (codes "pages") then Some Kind.Pages
    else (if is_word word (codes "pleaf") then Some Kind.Pleaf
    else (if is_word word (codes "comp") then Some Kind.Comp
    else (if is_word word (codes "gate") then Some Kind.Gate
    else (if is_word word (codes "thread") then Some Kind.Thread
    else (if is_word word (codes "tcap") then Some Kind.Tcap
    else (if is_word word (codes "link") then Some Kind.Link
    else (if is_word word (codes "page") then Some Kind.Page
    else None))))))))))

-- after `ok KIND F`: the number of a range, a gate or a page; the other kinds have none
unfoldable pub arg_at : List (List ℕ) → Kind → Result ℕ Cause
arg_at words Kind.Range = number_at words 3 0 16777215
arg_at words Kind.Gate = number_at words 3 1 65535
arg_at words Kind.Page = number_at words 3 0 3
arg_at words k = Ok 0

-- where the rights of a capability stand, after its number if it has one
abbrev pub rights_place : Kind → ℕ
rights_place Kind.Range = 4
rights_place Kind.Gate = 4
rights_place Kind.Page = 4
rights_place k = 3

-- a word is there, and it is this one
abbrev pub is_name : List ℕ → Option (List ℕ) → Bool
is_name name None = false
is_name name (Some word) = is_word word name

-- after `rights`: their number, which is not that of both
unfoldable pub fewer_rights : List (List ℕ) → ℕ → Kind → Result ℕ Cause
fewer_rights words place k = do
  rights ← number_at words (place + 1) (least_rights k) 2
  done ← end_at words (place + 2)
  Ok rights

-- without it: both rights
unfoldable pub both_rights : List (List ℕ) → ℕ → Result ℕ Cause
both_rights words place = do
  done ← end_at words place
  Ok 3

-- the rights of a capability
unfoldable pub rights_at : List (List ℕ) → ℕ → Kind → Result ℕ Cause
rights_at words place k =
    if is_name (codes "rights") (slice_get words place) then fewer_rights words place k else both_rights words place

-- `ok KIND F`, of a range, a gate and a page with a number, and with rights where they are not both
unfoldable pub cap_at : List (List ℕ) → Kind → Result Value Cause
cap_at words k = do
  frame ← number_at words 2 0 511
  arg ← arg_at words k
  rights ← rights_at words (rights_place k) k
  Ok (Value.Cap (record { kind = k; frame = frame; arg = arg; rights = rights }))

-- `ok N`: an amount of ticks
unfoldable pub ticks_at : List (List ℕ) → Result Value Cause
ticks_at words = do
  n ← number_at words 1 0 4294967295
  Ok (Value.Amount n)

-- `ok F W`: a page's frame and its flags
unfoldable pub page_at : List (List ℕ) → Result Value Cause
page_at words = do
  frame ← number_at words 1 0 511
  flags ← number_at words 2 0 3
  done ← end_at words 3
  Ok (Value.Page frame (record { 0 = flags }))

-- `ok preempts` and `ok stays`
unfoldable pub said_at : List (List ℕ) → Value → Result Value Cause
said_at words v = do
  done ← end_at words 2
  Ok v

-- a value that begins with a number: a page's where there is a second word
unfoldable pub numbers_at : List (List ℕ) → Result Value Cause
numbers_at words = if nat_le (length words) 2 then ticks_at words else page_at words

-- a capability of a kind; a word that is none of a kind's is S1
abbrev pub cap_if : List (List ℕ) → Option Kind → Result Value Cause
cap_if words None = Err S1
cap_if words (Some k) = cap_at words k

-- a value that begins with another word
unfoldable pub named_at : List (List ℕ) → List ℕ → Result Value Cause
named_at words word =
    if is_word word (codes "preempts") then said_at words Value.Preempts
    else (if is_word word (codes "stays") then said_at words Value.Stays
    else cap_if words (kind_of word))

-- by the word after `ok`, if there is one
abbrev pub value_by : List (List ℕ) → Option (List ℕ) → Result Value Cause
value_by words None = Ok Value.Nothing
value_by words (Some word) = if is_digits word then numbers_at words else named_at words word

-- the value after `ok`
unfoldable pub value_at : List (List ℕ) → Result Value Cause
value_at words = value_by words (slice_get words 1)

-- ---- replies

-- the names of replies, from `dead` on
unfoldable pub later_name : List ℕ → Option ReplyName
later_name word =
    if is_word word (codes "dead") then Some (ReplyName.Plain Reply.Dead)
    else (if is_word word (codes "deep") then Some (ReplyName.Plain Reply.Deep)
    else (if is_word word (codes "bottom") then Some (ReplyName.Plain Reply.Bottom)
    else (if is_word word (codes "unlike") then Some (ReplyName.Plain Reply.Unlike)
    else (if is_word word (codes "too-many") then Some (ReplyName.Plain Reply.TooMany)
    else (if is_word word (codes "same") then Some (ReplyName.Plain Reply.Same)
    else (if is_word word (codes "epochs-spent") then Some (ReplyName.Plain Reply.EpochsSpent)
    else (if is_word word (codes "raced") then Some (ReplyName.Plain Reply.Raced)
    else (if is_word word (codes "fault") then Some (ReplyName.Plain Reply.Fault)
    else (if is_word word (codes "calls-spent") then Some (ReplyName.Plain Reply.CallsSpent)
    else (if is_word word (codes "no-right") then Some (ReplyName.Plain Reply.NoRight)
    else None))))))))))

-- the names of replies, from `no-slot` on
unfoldable pub plain_name : List ℕ → Option ReplyName
plain_name word =
    if is_word word (codes "no-slot") then Some (ReplyName.Plain Reply.NoSlot)
    else (if is_word word (codes "empty") then Some (ReplyName.Plain Reply.Empty)
    else (if is_word word (codes "wrong-cap") then Some (ReplyName.Plain Reply.WrongCap)
    else (if is_word word (codes "occupied") then Some (ReplyName.Plain Reply.Occupied)
    else (if is_word word (codes "frame-kind") then Some (ReplyName.Plain Reply.FrameKind)
    else (if is_word word (codes "out-of-range") then Some (ReplyName.Plain Reply.OutOfRange)
    else (if is_word word (codes "not-empty") then Some (ReplyName.Plain Reply.NotEmpty)
    else later_name word))))))

-- the names of replies
unfoldable pub reply_name : List ℕ → Option ReplyName
reply_name word =
    if is_word word (codes "ok") then Some ReplyName.Ok
    else (if is_word word (codes "quiescing") then Some ReplyName.Quiescing
    else (if is_word word (codes "unflushed") then Some ReplyName.Unflushed
    else (if is_word word (codes "running") then Some ReplyName.Running
    else (if is_word word (codes "busy") then Some ReplyName.Busy
    else (if is_word word (codes "referenced") then Some ReplyName.Referenced
    else (if is_word word (codes "short") then Some ReplyName.Short
    else plain_name word))))))

-- the core of a reply, and nothing after it
unfoldable pub core_named : ℕ → List (List ℕ) → Result ℕ Cause
core_named cores words = do
  core ← core_at words 1 cores
  done ← end_at words 2
  Ok core

-- the number of a reply, and nothing after it
unfoldable pub count_named : List (List ℕ) → Result ℕ Cause
count_named words = do
  n ← number_at words 1 0 4294967295
  done ← end_at words 2
  Ok n

-- the reply of that name
unfoldable pub reply_by : ℕ → List (List ℕ) → ReplyName → Result Reply Cause
reply_by cores words ReplyName.Ok = value_at words >>= λ v. Ok (Reply.Ok v)
reply_by cores words ReplyName.Quiescing = core_named cores words >>= λ c. Ok (Reply.Quiescing c)
reply_by cores words ReplyName.Unflushed = core_named cores words >>= λ c. Ok (Reply.Unflushed c)
reply_by cores words ReplyName.Running = core_named cores words >>= λ c. Ok (Reply.Running c)
reply_by cores words ReplyName.Busy = core_named cores words >>= λ c. Ok (Reply.Busy c)
reply_by cores words ReplyName.Referenced = count_named words >>= λ n. Ok (Reply.Referenced n)
reply_by cores words ReplyName.Short = count_named words >>= λ n. Ok (Reply.Short n)
reply_by cores words (ReplyName.Plain r) = end_at words 1 >>= λ done. Ok r

-- the reply that words are: its name is judged for S3, then S2, and then what comes after it
unfoldable pub reply_of : ℕ → List (List ℕ) → Result Reply Cause
reply_of cores words = do
  word ← word_at words 0
  n ← ok_or (reply_name word) S2
  reply_by cores words n
