-- A script and the endpoint calls after it, as a whole: the lines of the bytes, one after another, and the end.
use Rattle.std.specs.Prelude.{◌≡◌, ◌≤◌, ℕ, List, [], ◌∷◌, ◌++◌, Bool, true, false, Result, Ok, Err, map, take, length, slice_set, slice_get}
use Rattle.std.specs.Prelude.{slice_index_or, ◌+◌, replicate, if◌then◌else◌, ok_or, option_and_then}
use Rattle.script_reader.specs.{is_whole, Draft_of, no_draft, draft_behind, Meaning, meaning_of, IsDraft, IsScript, draft_view, script_view}
use Rattle.line_reader.specs.{◌>>=◌, Row, rows_of, First_fault, at_line, and_then, Step, lines_from}
use Rattle.line_reader.specs.{declared.cause.Cause.Cause, declared.cause.Cause.TheVariants.S2, declared.cause.Cause.TheVariants.S7}
use Rattle.ends_reader.specs.{declared.part.PartWord.PartWord, declared.part.PartWord.TheVariants.Core}
use Rattle.ends_reader.specs.{declared.part.PartWord.TheVariants.Ask, declared.reading.EndsSection.EndsSection}
use Rattle.ends_reader.specs.{declared.reading.EndsSection.TheVariants.Script, declared.reading.EndsSection.TheVariants.Ends}
use Rattle.ends_reader.specs.{declared.reading.EndsSection.TheVariants.Calls, declared.reading.InputDraft.InputDraft}
use Rattle.ends_reader.specs.{declared.reading.EndsInput.EndsInput, Parts.begins_ends, Parts.part_word, Parts.core_in, Parts.ask_in}
use Rattle.{script_tokens.specs.words_of, script_tokens.specs.ending_of, std.specs.Global.Vec}
use Rattle.{async_ends.specs.declared.endpoint.EndOp.EndOp, async_ends.specs.declared.asks.EndAsk.EndAsk}
use Rattle.{script_tokens.specs.declared.scanning.Ending.Ending, line_reader.specs.Arguments.end_at, line_reader.specs.Lines.whole_lines}

-- ---- lines

-- what the lines so far say: the script, where they have come to, the core whose calls follow, and the calls of each core that a machine
-- may have
pub record Input_draft : Type 0 where
  pub script : Draft_of
  pub section : EndsSection
  pub core : ℕ
  pub asks : List (List EndAsk)

-- nothing was read
abbrev pub no_input : Input_draft
no_input = record { script = no_draft; section = Script; core = 0; asks = replicate 8 [] }

-- the endpoint calls of a core, and none past the cores
abbrev pub asks_of : List (List EndAsk) → ℕ → List EndAsk
asks_of asks core = slice_index_or asks core []

-- the calls where the core makes one more
abbrev pub with_ask : List (List EndAsk) → ℕ → EndAsk → List (List EndAsk)
with_ask asks core ask = slice_set asks core (asks_of asks core ++ ask ∷ [])

-- no line `ends` has come yet
abbrev pub is_script : EndsSection → Bool
is_script Script = true
is_script Ends = false
is_script Calls = false

-- a `core` line has come
abbrev pub is_calls : EndsSection → Bool
is_calls Script = false
is_calls Ends = false
is_calls Calls = true

-- the script may end: its last grant was read; else S7
unfoldable pub may_end : Draft_of → Result Unit Cause
may_end script = if is_whole script.head.section then Ok tt else Err S7

-- `ends`: S7 where the script before it may not end there, then S4 of a word after it
unfoldable pub ends_line : Input_draft → List (List ℕ) → Result Input_draft Cause
ends_line d words = do
  whole ← may_end d.script
  done ← end_at words 1
  Ok (record d { section = Ends })

-- a line of the script, or the line `ends`, which ends it
unfoldable pub script_line : Input_draft → List (List ℕ) → Result Input_draft Cause
script_line d words =
    if begins_ends words then ends_line d words
    else (draft_behind d.script words >>= λ script. Ok (record d { script = script }))

-- `core c`: the calls that follow are that core's
abbrev pub core_line : Input_draft → List (List ℕ) → Result Input_draft Cause
core_line d words = core_in words d.script.head.cores >>= λ core. Ok (record d { section = Calls; core = core })

-- a send or a receive of that core; S7 before the first `core` line
abbrev pub ask_line : Input_draft → List (List ℕ) → EndOp → Result Input_draft Cause
ask_line d words op =
    if is_calls d.section
    then (ask_in words op >>= λ ask. Ok (record d { asks = with_ask d.asks d.core ask }))
    else Err S7

abbrev pub part_by : Input_draft → List (List ℕ) → PartWord → Result Input_draft Cause
part_by d words Core = core_line d words
part_by d words (Ask op) = ask_line d words op

-- a line after the line `ends`: its first word is judged for S2, then S7, and then its arguments
unfoldable pub part_line : Input_draft → List (List ℕ) → Result Input_draft Cause
part_line d words = do
  word ← ok_or (option_and_then part_word (slice_get words 0)) S2
  part_by d words word

-- the draft after a line
abbrev pub input_behind : Input_draft → List (List ℕ) → Result Input_draft Cause
input_behind d words = if is_script d.section then script_line d words else part_line d words

-- the draft after a line of this number, or its fault
abbrev pub input_step : Step Input_draft
input_step d number words = at_line number (input_behind d words)

-- the draft after lines, or the first fault
abbrev pub input_from : Input_draft → List Row → Result Input_draft First_fault
input_from d rows = lines_from input_step d rows

-- ---- the whole

-- what was read: a script, and for each of its cores its endpoint calls
pub record Input : Type 0 where
  pub script : Meaning
  pub asks : List (List EndAsk)

-- what lines say that have come to the line `ends`; S7 after the last line where they have not
abbrev pub input_in : Input_draft → ℕ → Result Input First_fault
input_in d lines =
    if is_script d.section then Err (record { line = lines + 1; cause = S7 })
    else Ok (record { script = meaning_of d.script; asks = take d.script.head.cores d.asks })

-- the end of the bytes: the byte or line that ended them; else that of the lines
abbrev pub input_at : Input_draft → Ending → Result Input First_fault
input_at d ending = and_then (whole_lines ending) (input_in d)

-- what bytes say: the script with endpoint calls that they are, or their first fault
unfoldable pub input_of : List ℕ → Result Input First_fault
input_of source = and_then (input_from no_input (rows_of (words_of source))) (λ d. input_at d (ending_of source))

-- ---- what the reader answers

-- a draft that lines lead to
pub record IsInput (d : Input_draft) : Type 0 where
  pub script : IsDraft d.script
  pub eight : length d.asks ≡ 8
  pub whole : is_script d.section ≡ false → is_whole d.script.head.section ≡ true

-- lists of endpoint calls, seen without where they lie in memory
abbrev pub ask_lists : List (Vec EndAsk) → List (List EndAsk)
ask_lists asks = map (λ v. v.items) asks

-- a draft and what was read, seen so
abbrev pub draft_seen : InputDraft → Input_draft
draft_seen d = record { script = draft_view d.script; section = d.section; core = d.core; asks = ask_lists d.asks.items }

abbrev pub input_view : EndsInput → Input
input_view i = record { script = script_view i.script; asks = ask_lists i.asks.items }

-- what is read is a script, with a list of endpoint calls for each core
pub record IsEndsInput (i : EndsInput) : Type 0 where
  pub script : IsScript i.script
  pub count : length i.asks.items ≡ i.script.setup.cores

-- at most so many endpoint calls
abbrev pub FewAsks : ℕ → List EndAsk → Type 0
FewAsks n asks = length asks ≤ n
