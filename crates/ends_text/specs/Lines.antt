-- The lines of endpoint calls and of frames.
use Rattle.std.specs.Prelude.{ℕ, zero, suc, ◌+◌, ◌-◌, ◌==◌, List, [], ◌∷◌, ◌++◌, codes, decimal, slice_index, if◌then◌else◌}
use Rattle.async_ends.specs.{Event, sent_to, taken_at, untaken}
use Rattle.async_ends.specs.declared.endpoint.EndReply.TheVariants.{Sent, Taken, Raced, Refused}
use Rattle.{spk_nums.specs.Texts.with_one, spk_nums.specs.Texts.reply_text, async_ends.specs.declared.endpoint.EndOp.EndOp}
use Rattle.{async_ends.specs.declared.endpoint.EndOp.TheVariants.Send, async_ends.specs.declared.endpoint.EndOp.TheVariants.Recv}
use Rattle.{async_ends.specs.declared.endpoint.EndReply.EndReply, async_ends.specs.declared.asks.EndDone.EndDone}

abbrev pub op_word : EndOp → List ℕ
op_word Send = codes "send"
op_word Recv = codes "recv"

-- what an endpoint call was answered
abbrev pub answer_text : EndReply → List ℕ
answer_text Sent = codes "ok"
answer_text (Taken k) = codes "ok " ++ decimal k
answer_text Raced = codes "raced"
answer_text (Refused r) = reply_text r

-- a call as its line begins: the core, its index, its word and the capability's number
abbrev pub call_text : ℕ → ℕ → List ℕ → ℕ → List ℕ
call_text core index word number = decimal core ++ codes "." ++ decimal index ++ codes " " ++ word ++ codes " " ++ decimal number
    ++ codes " = "

-- the line of a call, and what it was answered
abbrev pub done_line : ℕ → ℕ → EndDone → List ℕ
done_line core index d = call_text core index (op_word d.ask.op) d.ask.number ++ (answer_text d.answer ++ codes "\n")

-- the lines of a core's calls, the first of which has this index
abbrev pub done_lines : ℕ → ℕ → List EndDone → List ℕ
done_lines core index [] = []
done_lines core index (d ∷ ds) = done_line core index d ++ done_lines core (index + 1) ds

-- the line of a frame: how often was sent there, how much was taken, how much is left; none where nothing was sent
abbrev pub end_line : ℕ → ℕ → ℕ → ℕ → List ℕ
end_line frame sent taken left =
    if sent == 0 then []
    else codes "end " ++ decimal frame ++ codes " sent " ++ decimal sent ++ codes " taken " ++ decimal taken
    ++ codes " left " ++ decimal left ++ codes "\n"

-- the lines of the frames below n, by the numbers of what was sent and of what is left
abbrev pub count_lines : List ℕ → List ℕ → ℕ → List ℕ
count_lines sent left zero = []
count_lines sent left (suc n) = count_lines sent left n
    ++ end_line n (slice_index sent n) (slice_index sent n - slice_index left n) (slice_index left n)

-- the lines of the frames below n, by an endpoint history
abbrev pub end_lines : List Event → ℕ → List ℕ
end_lines events zero = []
end_lines events (suc n) = end_lines events n ++ end_line n (sent_to events n) (taken_at events n) (untaken events n)
