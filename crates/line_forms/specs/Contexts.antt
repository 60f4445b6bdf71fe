-- What the lines before a line have come to.
use Rattle.std.specs.Prelude.{ℕ, ◌-◌, ◌==◌, nat_le, List, length, Option, Some, None, slice_get, if◌then◌else◌}
use Rattle.line_forms.specs.{declared.context.Reading.Reading, declared.context.Stage.Stage, declared.context.Context.Context}
use Rattle.line_forms.specs.{declared.starts.Start.Start, Starts.start_of}
use Rattle.{line_reader.specs.Numerals.number_of, call_reader.specs.declared.first_words.FirstWord.FirstWord}

-- what no lines have come to
abbrev pub no_context : Reading → Context
no_context reading = record { reading = reading; stage = Stage.Version; version = 1; cores = 1; due = 1; items = 200000 }

abbrev pub small_of : Option ℕ → ℕ
small_of None = 1
small_of (Some n) = if nat_le n 8 then n else 1

-- the number that a word is, at most 8; 1 where it is none
abbrev pub small_in : List ℕ → ℕ
small_in word = small_of (number_of word)

abbrev pub small_by : Option (List ℕ) → ℕ
small_by None = 1
small_by (Some word) = small_in word

-- the first argument of a line, as such a number
abbrev pub small_at : List (List ℕ) → ℕ
small_at words = small_by (slice_get words 1)

abbrev pub at_stage : Context → Stage → Context
at_stage context s = record context { stage = s }

-- what may stand after a `core` line
abbrev pub core_stage : Stage → Stage
core_stage Stage.Asks = Stage.AskList
core_stage Stage.AskList = Stage.AskList
core_stage _ = Stage.List

-- after one grant more
abbrev pub granted : Context → Context
granted context =
    record context {
      stage = (if context.due - 1 == 0 then Stage.Calls else Stage.Grants);
      due = context.due - 1;
    }

-- after a line of a script
abbrev pub after_head : Context → FirstWord → List (List ℕ) → Context
after_head context FirstWord.Speck words = record context { stage = Stage.Cores; version = small_at words }
after_head context FirstWord.Cores words = record context { stage = Stage.Frames; cores = small_at words; due = small_at words }
after_head context FirstWord.Frames words = at_stage context Stage.Grants
after_head context FirstWord.Grant words = granted context
after_head context FirstWord.Calls words = at_stage context Stage.Epochs
after_head context FirstWord.Epochs words = at_stage context Stage.Lists
after_head context FirstWord.Core words = at_stage context (core_stage context.stage)
after_head context FirstWord.Order words = at_stage context Stage.Order
after_head context (FirstWord.Call verb) words = context

-- after a line that begins so
abbrev pub after_start : Context → Start → List (List ℕ) → Context
after_start context (Start.Head f) words = after_head context f words
after_start context Start.Ends words = at_stage context Stage.Asks
after_start context Start.Sched words = at_stage context Stage.Tasks
after_start context Start.Enter words = at_stage context Stage.Marks
after_start context Start.Decide words = at_stage context Stage.Marks
after_start context Start.Return words = at_stage context Stage.Marks
after_start context Start.Whole words = at_stage context Stage.Marks
after_start context Start.Send words = context
after_start context Start.Recv words = context
after_start context Start.Task words = context

abbrev pub after_by : Context → Option Start → List (List ℕ) → Context
after_by context (Some s) words = after_start context s words
after_by context None words = record context { items = context.items - length words }

-- what the lines come to with one line more, which its reader has taken; order items begin with no known word
abbrev pub context_after : Context → List (List ℕ) → Context
context_after context words = after_by context (start_of context.version context.reading context.stage words) words
