-- A given history as a whole: the lines of the bytes, one after another, and the end.
use Rattle.std.specs.Prelude.{ℕ, List, [], ◌∷◌, ◌++◌, Bool, true, false, Result, Ok, Err, slice_get, if◌then◌else◌, ok_or, option_and_then}
use Rattle.line_reader.specs.{◌>>=◌, Row, rows_of, First_fault, at_line, and_then, Step, lines_from as all_lines_from}
use Rattle.script_reader.specs.{is_whole, Draft_of, no_draft, draft_behind, meaning_at, IsDraft, draft_view}
use Rattle.script_tokens.specs.{words_of, ending_of}
use Rattle.line_reader.specs.{declared.cause.Cause.Cause, declared.cause.Cause.TheVariants.S2, declared.cause.Cause.TheVariants.S7}
use Rattle.marked_history.specs.{declared.marks.Said.Said, declared.marks.Line.Line, Verdicts.LinesFit}
use Rattle.history_reader.specs.{declared.lines.LineWord.LineWord, declared.draft.HistoryDraft.HistoryDraft}
use Rattle.history_reader.specs.{declared.reading.GivenHistory.GivenHistory, Lines.line_word, Lines.said_by}
use Rattle.{spk_nums.specs.Setting.Setting, script_tokens.specs.declared.scanning.Ending.Ending}

-- ---- lines

-- what the lines so far say: the head, as a script's, and the lines of the history
pub record History_draft : Type 0 where
  pub script : Draft_of
  pub lines : List Line

-- nothing was read
abbrev pub no_history : History_draft
no_history = record { script = no_draft; lines = [] }

abbrev pub is_empty : List Line → Bool
is_empty [] = true
is_empty (l ∷ lines) = false

-- a line of the head, which no line of the history comes before; else S7
unfoldable pub head_line : History_draft → List (List ℕ) → Result History_draft Cause
head_line d words =
    if is_empty d.lines then (draft_behind d.script words >>= λ script. Ok (record d { script = script })) else Err S7

-- one line more of the history
abbrev pub with_said : History_draft → ℕ → Said → History_draft
with_said d number said = record d { lines = d.lines ++ record { number = number; said = said } ∷ [] }

-- a line of the history, after the last grant; else S7
unfoldable pub given_line : History_draft → ℕ → List (List ℕ) → LineWord → Result History_draft Cause
given_line d number words w =
    if is_whole d.script.head.section
    then (said_by d.script.head.version d.script.head.cores words w >>= λ said. Ok (with_said d number said))
    else Err S7

abbrev pub line_by : History_draft → ℕ → List (List ℕ) → LineWord → Result History_draft Cause
line_by d number words LineWord.Head = head_line d words
line_by d number words w = given_line d number words w

-- the draft after a line: its first word is judged for S2, then S7, and then what comes after it
unfoldable pub line_behind : History_draft → ℕ → List (List ℕ) → Result History_draft Cause
line_behind d number words = do
  w ← ok_or (option_and_then line_word (slice_get words 0)) S2
  line_by d number words w

-- the draft after that line, or its fault
abbrev pub line_step : Step History_draft
line_step d number words = at_line number (line_behind d number words)

-- the draft after lines, or the first fault
abbrev pub lines_from : History_draft → List Row → Result History_draft First_fault
lines_from d rows = all_lines_from line_step d rows

-- ---- the whole

-- what was read: the machine's setup, and the lines of the history, in the order written
pub record History : Type 0 where
  pub setup : Setting
  pub lines : List Line

-- the end of the bytes: the byte or line that ended them, S8 or S9; else S7 after the last line where the last grant is missing
abbrev pub history_at : History_draft → Ending → Result History First_fault
history_at d ending = and_then (meaning_at d.script ending) (λ m. Ok (record { setup = m.setup; lines = d.lines }))

-- what bytes say: the given history that they are, or their first fault
unfoldable pub history_of : List ℕ → Result History First_fault
history_of source = and_then (lines_from no_history (rows_of (words_of source))) (λ d. history_at d (ending_of source))

-- ---- what the reader answers

-- a draft that lines lead to
pub record IsHistoryDraft (d : History_draft) : Type 0 where
  pub script : IsDraft d.script
  pub fit : LinesFit d.script.head.cores d.lines

-- a draft and what was read, seen without where they lie in memory
abbrev pub draft_seen : HistoryDraft → History_draft
draft_seen d = record { script = draft_view d.script; lines = d.lines.items }

abbrev pub history_view : GivenHistory → History
history_view h = record { setup = h.setup; lines = h.lines.items }
