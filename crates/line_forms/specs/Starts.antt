-- The words with which a line may begin.
use Rattle.std.specs.Prelude.{ℕ, List, Option, Some, None, slice_get, codes, if◌then◌else◌, option_and_then}
use Rattle.call_reader.specs.{declared.first_words.FirstWord.FirstWord, FirstWords.first_word}
use Rattle.line_forms.specs.declared.starts.Start.TheVariants.{Head, Ends, Send, Recv, Sched, Task, Enter, Decide, Return, Whole}
use Rattle.{line_reader.specs.Arguments.is_word, line_forms.specs.declared.context.Reading.Reading}
use Rattle.{line_forms.specs.declared.context.Stage.Stage, line_forms.specs.declared.starts.Start.Start}
use Rattle.{line_forms.specs.Numbered.is_numbered}

abbrev pub head_start : Option FirstWord → Option Start
head_start None = None
head_start (Some f) = Some (Head f)

-- after the line `ends`
unfoldable pub ask_start : List ℕ → Option Start
ask_start word =
    if is_word word (codes "core") then Some (Head FirstWord.Core)
    else (if is_word word (codes "send") then Some Send
    else (if is_word word (codes "recv") then Some Recv
    else None))

-- what `ends` reads
unfoldable pub ends_start : ℕ → Stage → List ℕ → Option Start
ends_start version Stage.Asks word = ask_start word
ends_start version Stage.AskList word = ask_start word
ends_start version _ word = if is_word word (codes "ends") then Some Ends else head_start (first_word version word)

-- what `sched` reads
unfoldable pub sched_start : ℕ → Stage → List ℕ → Option Start
sched_start version Stage.Tasks word = if is_word word (codes "task") then Some Task else None
sched_start version _ word = if is_word word (codes "sched") then Some Sched else head_start (first_word version word)

-- the words of the head of a given history
abbrev pub given_head : Option FirstWord → Option Start
given_head None = None
given_head (Some FirstWord.Core) = None
given_head (Some FirstWord.Order) = None
given_head (Some (FirstWord.Call verb)) = None
given_head (Some f) = Some (Head f)

-- what `check` reads
unfoldable pub history_start : List ℕ → Option Start
history_start word =
    if is_word word (codes "enter") then Some Enter
    else (if is_word word (codes "decide") then Some Decide
    else (if is_word word (codes "return") then Some Return
    else (if is_numbered word then Some Whole
    else given_head (first_word 1 word))))

-- the known first word that a word is in a script of this version
abbrev pub start_in : ℕ → Reading → Stage → List ℕ → Option Start
start_in version Reading.Script s word = head_start (first_word version word)
start_in version Reading.Ends s word = ends_start version s word
start_in version Reading.Sched s word = sched_start version s word
start_in version Reading.History s word = history_start word

-- the known first word of a line, if it has one
abbrev pub start_of : ℕ → Reading → Stage → List (List ℕ) → Option Start
start_of version r s words = option_and_then (start_in version r s) (slice_get words 0)
