use Rattle.std.specs.Prelude.{ℕ, ◌==◌, if◌then◌else◌, List, [], ◌∷◌, ◌++◌, codes, decimal}
use Rattle.spk_nums.specs.Capability.{Capability}
use Rattle.spk_nums.specs.Names.{kind_word}
use Rattle.spk_nums.specs.Verbs.{call_words}
use Rattle.spk_nums.specs.declared.kinds.Kind.{Kind}
use Rattle.spk_nums.specs.declared.kinds.Kind.TheVariants.{Range, Gate as gate_kind, Page as page_kind}
use Rattle.spk_nums.specs.declared.calls.Call.{Call}
use Rattle.spk_nums.specs.declared.replies.Value.{Value}
use Rattle.spk_nums.specs.declared.replies.Value.TheVariants.{Nothing, Cap as cap_value, Page, Amount, Preempts, Stays}
use Rattle.spk_nums.specs.declared.replies.Reply.{Reply}
use Rattle.spk_nums.specs.declared.replies.Reply.TheVariants.{Ok as ok_reply, NoSlot, Empty, WrongCap, Occupied, Quiescing}
use Rattle.spk_nums.specs.declared.replies.Reply.TheVariants.{Unflushed, FrameKind as wrong_frame, OutOfRange, Referenced}
use Rattle.spk_nums.specs.declared.replies.Reply.TheVariants.{NotEmpty, Dead, Deep, Bottom, Running, Short, Unlike}
use Rattle.spk_nums.specs.declared.replies.Reply.TheVariants.{TooMany, Same, EpochsSpent, Raced, Busy, Fault, CallsSpent, NoRight}
use Rattle.spk_nums.specs.declared.replies.Decision.{Decision}

-- a word, and after it one, two or three numbers, each after a space
abbrev pub with_one : List ℕ → ℕ → List ℕ
with_one word a = word ++ codes " " ++ decimal a

abbrev pub with_two : List ℕ → ℕ → ℕ → List ℕ
with_two word a b = word ++ codes " " ++ decimal a ++ codes " " ++ decimal b

abbrev pub with_three : List ℕ → ℕ → ℕ → ℕ → List ℕ
with_three word a b c = word ++ codes " " ++ decimal a ++ codes " " ++ decimal b ++ codes " " ++ decimal c

-- a capability by its kind: the kind's word, the frame, and the number of the kinds that have one
abbrev pub cap_text_by : Kind → ℕ → ℕ → List ℕ
cap_text_by Range frame arg = with_two (codes "range") frame arg
cap_text_by gate_kind frame arg = with_two (codes "gate") frame arg
cap_text_by page_kind frame arg = with_two (codes "page") frame arg
cap_text_by kind frame arg = with_one (kind_word kind) frame

-- a capability that lacks a right: after it, its rights
abbrev pub cap_rights_text : Capability → List ℕ
cap_rights_text c = cap_text_by c.kind c.frame c.arg ++ codes " rights " ++ decimal c.rights

-- a capability; its rights are written where it lacks one
abbrev pub cap_text : Capability → List ℕ
cap_text c = if c.rights == 3 then cap_text_by c.kind c.frame c.arg else cap_rights_text c

-- where a make puts its object: range, frame, table and slot
abbrev pub site_text : ℕ → ℕ → ℕ → ℕ → List ℕ
site_text r f t b = decimal r ++ codes " " ++ decimal f ++ codes " " ++ decimal t ++ codes " " ++ decimal b

-- words with a space between
abbrev pub spaced : List (List ℕ) → List ℕ
spaced [] = []
spaced (w ∷ []) = w
spaced (w ∷ x ∷ ws) = w ++ (codes " " ++ spaced (x ∷ ws))

-- a call as it is written: its words, with a space between
abbrev pub call_text : Call → List ℕ
call_text c = spaced (call_words c)

-- the answer of a call that was carried out
abbrev pub ok_text : Value → List ℕ
ok_text Nothing = codes "ok"
ok_text (cap_value c) = codes "ok " ++ cap_text c
ok_text (Page frame flags) = with_two (codes "ok") frame flags.0
ok_text (Amount n) = with_one (codes "ok") n
ok_text Preempts = codes "ok preempts"
ok_text Stays = codes "ok stays"

-- a reply: its word, then its number where it has one
abbrev pub reply_text : Reply → List ℕ
reply_text (ok_reply v) = ok_text v
reply_text NoSlot = codes "no-slot"
reply_text Empty = codes "empty"
reply_text WrongCap = codes "wrong-cap"
reply_text Occupied = codes "occupied"
reply_text (Quiescing e) = with_one (codes "quiescing") e
reply_text (Unflushed e) = with_one (codes "unflushed") e
reply_text wrong_frame = codes "frame-kind"
reply_text OutOfRange = codes "out-of-range"
reply_text (Referenced k) = with_one (codes "referenced") k
reply_text NotEmpty = codes "not-empty"
reply_text Dead = codes "dead"
reply_text Deep = codes "deep"
reply_text Bottom = codes "bottom"
reply_text (Running e) = with_one (codes "running") e
reply_text (Short b) = with_one (codes "short") b
reply_text Unlike = codes "unlike"
reply_text TooMany = codes "too-many"
reply_text Same = codes "same"
reply_text EpochsSpent = codes "epochs-spent"
reply_text Raced = codes "raced"
reply_text (Busy d) = with_one (codes "busy") d
reply_text Fault = codes "fault"
reply_text CallsSpent = codes "calls-spent"
reply_text NoRight = codes "no-right"

-- a reply line: the core, the call's index, the call and the reply
abbrev pub reply_line_text : ℕ → ℕ → Call → Reply → List ℕ
reply_line_text core index call reply = decimal core ++ codes "." ++ decimal index
    ++ codes " " ++ call_text call ++ codes " = " ++ reply_text reply ++ 10 ∷ []

-- a decision: the core, the call's index and the reply
abbrev pub decision_text : Decision → List ℕ
decision_text d = decimal d.core ++ codes "." ++ decimal d.index ++ codes " = " ++ reply_text d.reply
