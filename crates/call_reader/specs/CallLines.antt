-- The line of each call: what may stand at its places, from left to right, and the call that it then says. The call's word is at 0.
use Rattle.std.specs.Prelude.{ℕ, ◌+◌, ◌&&◌, nat_le, nat_lt, List, length, Option, Some, None, Result, Ok, codes, if◌then◌else◌, ok_or}
use Rattle.line_reader.specs.{◌>>=◌, is_word, word_at, number_at, end_at}
use Rattle.spk_nums.specs.{Rights.both, declared.kinds.FrameKind.FrameKind, declared.verbs.Verb.Verb, declared.verbs.Object.Object}
use Rattle.spk_nums.specs.{declared.kinds.FrameKind.TheVariants.Untyped, declared.kinds.FrameKind.TheVariants.User}
use Rattle.spk_nums.specs.{declared.kinds.FrameKind.TheVariants.Kernel, declared.calls.Call.Call, declared.calls.Make.Make}
use Rattle.line_reader.specs.{declared.cause.Cause.Cause, declared.cause.Cause.TheVariants.S2}

-- the form of a line from a place on: a number in a range, a kind of frame or an object to make, each with the letter that stands for it where
-- a line is told, and what comes after it; the rights of a copy, which may be left out; or the end, and the call that the line says
pub data Form : Type 0 where
  Says : Call → Form
  Number : List ℕ → ℕ → ℕ → (ℕ → Form) → Form
  MayNumber : List ℕ → (ℕ → Form) → Form
  Kind : List ℕ → (FrameKind → Form) → Form
  Made : List ℕ → (Object → Form) → Form

-- the number of a capability, a page, a root entry or a frame, or a count of frames
abbrev pub name : List ℕ → (ℕ → Form) → Form
name letter next = Number letter 0 65535 next

-- an amount of ticks that is moved
abbrev pub amount : List ℕ → (ℕ → Form) → Form
amount letter next = Number letter 0 4000000000 next

-- what an object needs, after `make O R F T B`
abbrev pub object_form : Object → (Make → Form) → Form
object_form Object.Table next = next Make.Table
object_form Object.Leaf next = next Make.Leaf
object_form Object.Pages next = next Make.Pages
object_form Object.Pleaf next = next Make.Pleaf
object_form Object.Thread next = name (codes "C") λ comp. next (Make.Thread comp)
object_form Object.Tcap next = Number (codes "S") 0 63 λ sched. Number (codes "W") 1 16777215 λ quality. next (Make.Tcap sched quality)
object_form Object.Comp next = name (codes "X") λ table. name (codes "P") λ pages. Number (codes "L") 0 63 λ live. next (Make.Comp table pages live)

-- the form of a call, after its word
abbrev pub form_of : Verb → Form
form_of Verb.Look = name (codes "A") λ a. Says (Call.Look a)
form_of Verb.Copy = name (codes "A") λ a. name (codes "T") λ t. name (codes "B") λ b. MayNumber (codes "R") λ r. Says (Call.Copy a t b (record { 0 = r }))
form_of Verb.Remove = name (codes "T") λ t. name (codes "B") λ b. Says (Call.Remove t b)
form_of Verb.Grow = name (codes "T") λ t. name (codes "I") λ i. name (codes "L") λ l. Says (Call.Grow t i l)
form_of Verb.Shrink = name (codes "T") λ t. name (codes "I") λ i. Says (Call.Shrink t i)
form_of Verb.Retype = name (codes "R") λ r. name (codes "F") λ f. Kind (codes "K") λ k. Says (Call.Retype r f k)
form_of Verb.Make = Made (codes "O") λ o. name (codes "R") λ r. name (codes "F") λ f. name (codes "T") λ t. name (codes "B") λ b.
    object_form o λ what. Says (Call.Make what r f t b)
form_of Verb.Map = name (codes "P") λ p. name (codes "V") λ v. name (codes "R") λ r. name (codes "F") λ f. Number (codes "W") 0 3 λ w.
    Says (Call.Map p v r f (record { 0 = w }))
form_of Verb.Unmap = name (codes "P") λ p. name (codes "V") λ v. Says (Call.Unmap p v)
form_of Verb.Touch = name (codes "V") λ v. Says (Call.Touch v)
form_of Verb.Flush = Says Call.Flush
form_of Verb.Gate = name (codes "C") λ c. name (codes "T") λ t. name (codes "B") λ b. Says (Call.Gate c t b)
form_of Verb.Kill = name (codes "C") λ c. Says (Call.Kill c)
form_of Verb.Call = name (codes "G") λ g. Says (Call.Call g)
form_of Verb.Ret = Says Call.Ret
form_of Verb.Switch = name (codes "H") λ h. name (codes "Q") λ q. Says (Call.Switch h q)
form_of Verb.Tick = Number (codes "N") 0 1000000 λ n. Says (Call.Tick n)
form_of Verb.Transfer = name (codes "A") λ a. name (codes "B") λ b. amount (codes "M") λ m. Says (Call.Transfer a b m)
form_of Verb.Delegate = name (codes "A") λ a. name (codes "B") λ b. amount (codes "M") λ m. Says (Call.Delegate a b m)
form_of Verb.Test = name (codes "A") λ a. name (codes "B") λ b. Says (Call.Test a b)
form_of Verb.Part = name (codes "R") λ r. name (codes "F") λ f. name (codes "N") λ n. name (codes "T") λ t. name (codes "B") λ b.
    Says (Call.Part r f n t b)
form_of Verb.Replenish = name (codes "A") λ a. amount (codes "M") λ m. Says (Call.Replenish a m)

-- the kinds of frame that a word names
unfoldable pub frame_kind_of : List ℕ → Option FrameKind
frame_kind_of word =
    if is_word word (codes "untyped") then Some Untyped
    else (if is_word word (codes "user") then Some User
    else (if is_word word (codes "kernel") then Some Kernel
    else None))

-- the kind of frame at a place: S3, then S2
unfoldable pub frame_kind_at : List (List ℕ) → ℕ → Result FrameKind Cause
frame_kind_at words place = do
  word ← word_at words place
  ok_or (frame_kind_of word) S2

-- the objects that a word names
unfoldable pub object_of : List ℕ → Option Object
object_of word =
    if is_word word (codes "table") then Some Object.Table
    else (if is_word word (codes "leaf") then Some Object.Leaf
    else (if is_word word (codes "pages") then Some Object.Pages
    else (if is_word word (codes "pleaf") then Some Object.Pleaf
    else (if is_word word (codes "thread") then Some Object.Thread
    else (if is_word word (codes "tcap") then Some Object.Tcap
    else (if is_word word (codes "comp") then Some Object.Comp
    else None))))))

-- the object at a place: S3, then S2
unfoldable pub object_at : List (List ℕ) → ℕ → Result Object Cause
object_at words place = do
  word ← word_at words place
  ok_or (object_of word) S2

-- the call that a line says whose places from one on are to be of this form, in a script of this version: each place is judged from left to
-- right, and then nothing may stand there. The number that may be left out is written from version 2 on, and is 3 where it is left out
abbrev pub read_form : ℕ → List (List ℕ) → ℕ → Form → Result Call Cause
read_form version words place (Says c) = end_at words place >>= λ done. Ok c
read_form version words place (Number letter least most next) =
    number_at words place least most >>= λ n. read_form version words (place + 1) (next n)
read_form version words place (MayNumber letter next) =
    if nat_le 2 version && nat_lt place (length words)
    then (number_at words place 0 3 >>= λ n. read_form version words (place + 1) (next n))
    else read_form version words place (next both)
read_form version words place (Kind letter next) = frame_kind_at words place >>= λ k. read_form version words (place + 1) (next k)
read_form version words place (Made letter next) = object_at words place >>= λ o. read_form version words (place + 1) (next o)

-- the line of the call of that word, in a script of this version
unfoldable pub call_line : ℕ → List (List ℕ) → Verb → Result Call Cause
call_line version words verb = read_form version words 1 (form_of verb)
