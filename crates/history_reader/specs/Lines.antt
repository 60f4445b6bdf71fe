-- The lines of a given history, after the head.
use Rattle.std.specs.Prelude.{ℕ, ◌+◌, ◌==◌, nat_lt, ◌&&◌, List, [], ◌∷◌, take, drop, Bool, true, false, Option, Some, None, Result, Ok, Err}
use Rattle.std.specs.Prelude.{codes, if◌then◌else◌, ok_or}
use Rattle.line_reader.specs.{◌>>=◌, number_of, core_at}
use Rattle.line_reader.specs.{declared.cause.Cause.Cause, declared.cause.Cause.TheVariants.S1, declared.cause.Cause.TheVariants.S2}
use Rattle.line_reader.specs.{declared.cause.Cause.TheVariants.S6, Numerals.is_digits, Arguments.is_word, Arguments.word_at}
use Rattle.call_reader.specs.{declared.first_words.FirstWord.FirstWord, FirstWords.first_word, CallLines.call_line, OneLine.verb_at}
use Rattle.marked_history.specs.declared.marks.Mark.TheVariants.{Enter, Decide, Return}
use Rattle.marked_history.specs.declared.marks.Said.TheVariants.{One, Whole}
use Rattle.history_reader.specs.{declared.lines.LineWord.LineWord, Replies.reply_of}
use Rattle.{spk_nums.specs.declared.calls.Call.Call, line_reader.specs.Arguments.end_at, marked_history.specs.declared.marks.Said.Said}

-- ---- first words

-- the words of the head of a script
abbrev pub is_of_head : Option FirstWord → Bool
is_of_head None = false
is_of_head (Some FirstWord.Core) = false
is_of_head (Some FirstWord.Order) = false
is_of_head (Some (FirstWord.Call verb)) = false
is_of_head (Some w) = true

-- where the first dot of a word stands; its end where it has none
abbrev pub dot_at : List ℕ → ℕ
dot_at [] = 0
dot_at (b ∷ bs) = if b == 46 then 0 else dot_at bs + 1

-- `C.I`: digits, a dot, and digits
unfoldable pub is_numbered : List ℕ → Bool
is_numbered word = is_digits (take (dot_at word) word) && is_digits (drop (dot_at word + 1) word)

-- the known first words; another is S2
unfoldable pub line_word : List ℕ → Option LineWord
line_word word =
    if is_word word (codes "enter") then Some LineWord.Enter
    else (if is_word word (codes "decide") then Some LineWord.Decide
    else (if is_word word (codes "return") then Some LineWord.Return
    else (if is_numbered word then Some LineWord.Whole
    else (if is_of_head (first_word 1 word) then Some LineWord.Head
    else None))))

-- ---- what a line says

-- the call that words are, in a script of this version: S3, S2 or S7 of its word, then its arguments
unfoldable pub call_in : ℕ → List (List ℕ) → Result Call Cause
call_in version words = verb_at version words >>= λ verb. call_line version words verb

-- `enter C CALL`
unfoldable pub enter_line : ℕ → ℕ → List (List ℕ) → Result Said Cause
enter_line version cores words = do
  core ← core_at words 1 cores
  call ← call_in version (drop 2 words)
  Ok (One (Enter core call))

-- `decide C REPLY`
unfoldable pub decide_line : ℕ → List (List ℕ) → Result Said Cause
decide_line cores words = do
  core ← core_at words 1 cores
  r ← reply_of cores (drop 2 words)
  Ok (One (Decide core r))

-- `return C`
unfoldable pub return_line : ℕ → List (List ℕ) → Result Said Cause
return_line cores words = do
  core ← core_at words 1 cores
  done ← end_at words 2
  Ok (One (Return core))

-- the core before the dot: S1, then S6
unfoldable pub core_before : ℕ → List ℕ → Result ℕ Cause
core_before cores word = do
  n ← ok_or (number_of (take (dot_at word) word)) S1
  if nat_lt n cores then Ok n else Err S6

-- the number after the dot
unfoldable pub index_after : List ℕ → Result ℕ Cause
index_after word = ok_or (number_of (drop (dot_at word + 1) word)) S1

-- how many words stand before the first `=`
abbrev pub before_equals : List (List ℕ) → ℕ
before_equals [] = 0
before_equals (w ∷ ws) = if is_word w (codes "=") then 0 else before_equals ws + 1

-- `CALL = REPLY`: the call is what stands before the first `=`, and is judged first; then a missing `=` is S3; then the reply
unfoldable pub answered : ℕ → ℕ → ℕ → ℕ → List (List ℕ) → Result Said Cause
answered version cores core index words = do
  call ← call_in version (take (before_equals words) words)
  equals ← word_at words (before_equals words)
  r ← reply_of cores (drop (before_equals words + 1) words)
  Ok (Whole core index call r)

-- `C.I CALL = REPLY`
unfoldable pub whole_line : ℕ → ℕ → List (List ℕ) → Result Said Cause
whole_line version cores words = do
  numbered ← word_at words 0
  core ← core_before cores numbered
  index ← index_after numbered
  answered version cores core index (drop 1 words)

-- what a line with this first word says; a line of the head says nothing of a history
unfoldable pub said_by : ℕ → ℕ → List (List ℕ) → LineWord → Result Said Cause
said_by version cores words LineWord.Enter = enter_line version cores words
said_by version cores words LineWord.Decide = decide_line cores words
said_by version cores words LineWord.Return = return_line cores words
said_by version cores words LineWord.Whole = whole_line version cores words
said_by version cores words LineWord.Head = Err S2
