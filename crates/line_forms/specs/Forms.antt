-- The form of a line. Capitals stand for numbers, as in docs/FORMATS.md.
use Rattle.std.specs.Prelude.{ℕ, ◌+◌, nat_le, List, ◌++◌, drop, Bool, true, false, Option, Some, None, slice_get, codes, if◌then◌else◌}
use Rattle.call_reader.specs.{declared.first_words.FirstWord.FirstWord, CallLines.Form, CallLines.object_form}
use Rattle.call_reader.specs.{CallLines.form_of as verb_line}
use Rattle.call_reader.specs.spk_nums.specs.{Rights.both, Verbs.verb_word, Verbs.object_word, declared.calls.Call.Call}
use Rattle.call_reader.specs.spk_nums.specs.{declared.verbs.Verb.Verb, declared.verbs.Object.Object}
use Rattle.line_forms.specs.{declared.context.Stage.Stage, declared.context.Context.Context, declared.starts.Start.Start, Starts.start_of}
use Rattle.line_forms.specs.{Calls.verb_of, Calls.number_in, Calls.kind_in, Calls.object_in}

-- `task`, from version 3 on with a period where one is given
abbrev pub task_form : ℕ → List ℕ
task_form version = if nat_le 3 version then codes "task H Q A N, or task H Q A N P" else codes "task H Q A N"

-- a letter of a line's form, after those before it
abbrev pub lettered : List ℕ → List ℕ → List ℕ
lettered before letter = before ++ codes " " ++ letter

-- the form of a line goes on
abbrev pub goes_on : Form → Bool
goes_on (Form.Says c) = false
goes_on _ = true

-- an object that needs arguments of its own stands with its word in the form of its line, another with its letter
abbrev pub object_letter : List ℕ → Object → List ℕ
object_letter letter o = if goes_on (object_form o λ what. Form.Says (Call.Make what 0 0 0 0)) then object_word o else letter

-- what is told of a line whose places from one on are to be of this form, after what is told of those before; it goes on by the words that
-- stand there. Where a number may be left out, both forms are told
abbrev pub form_from : ℕ → List (List ℕ) → ℕ → List ℕ → Form → List ℕ
form_from version words place before (Form.Says c) = before
form_from version words place before (Form.Number letter least most next) =
    form_from version words (place + 1) (lettered before letter) (next (number_in words place))
form_from version words place before (Form.MayNumber letter next) =
    if nat_le 2 version
    then form_from version words place before (next both) ++ codes ", or "
    ++ form_from version words (place + 1) (lettered before letter) (next (number_in words place))
    else form_from version words place before (next both)
form_from version words place before (Form.Kind letter next) =
    form_from version words (place + 1) (lettered before letter) (next (kind_in words place))
form_from version words place before (Form.Made letter next) =
    form_from version words (place + 1) (lettered before (object_letter letter (object_in words place))) (next (object_in words place))

-- a call
abbrev pub verb_form : ℕ → Verb → List (List ℕ) → List ℕ
verb_form version v words = form_from version words 1 (verb_word v) (verb_line v)

-- a line of a script
abbrev pub head_form : ℕ → FirstWord → List (List ℕ) → List ℕ
head_form version (FirstWord.Call v) words = verb_form version v words
head_form version FirstWord.Speck words = codes "speck V"
head_form version FirstWord.Cores words = codes "cores n"
head_form version FirstWord.Frames words = codes "frames F"
head_form version FirstWord.Grant words = codes "grant B S W"
head_form version FirstWord.Calls words = codes "calls N"
head_form version FirstWord.Epochs words = codes "epochs N"
head_form version FirstWord.Core words = codes "core c"
head_form version FirstWord.Order words = codes "order"

-- a line that begins so
abbrev pub start_form : ℕ → Start → List (List ℕ) → List ℕ
start_form version (Start.Head f) words = head_form version f words
start_form version Start.Ends words = codes "ends"
start_form version Start.Send words = codes "send A"
start_form version Start.Recv words = codes "recv A"
start_form version Start.Sched words = codes "sched S U"
start_form version Start.Task words = task_form version
start_form version Start.Enter words = codes "enter C CALL"
start_form version Start.Decide words = codes "decide C REPLY"
start_form version Start.Return words = codes "return C"
start_form version Start.Whole words = codes "C.I CALL = REPLY"

-- a line that begins with no known word
abbrev pub items_form : Stage → List ℕ
items_form Stage.Order = codes "items, such as 0 0< 0! 0."
items_form _ = codes ""

abbrev pub form_by : Context → Option Start → List (List ℕ) → List ℕ
form_by context (Some s) words = start_form context.version s words
form_by context None words = items_form context.stage

-- the form of a line, by its words; nothing where its first word is not known
abbrev pub form_of : Context → List (List ℕ) → List ℕ
form_of context words = form_by context (start_of context.version context.reading context.stage words) words

abbrev pub verb_form_by : ℕ → Option Verb → List (List ℕ) → List ℕ
verb_form_by version (Some v) words = verb_form version v words
verb_form_by version None words = codes ""

abbrev pub call_form_by : ℕ → Option (List ℕ) → List (List ℕ) → List ℕ
call_form_by version (Some word) words = verb_form_by version (verb_of version word) words
call_form_by version None words = codes ""

-- the form of the call that words begin with; nothing where they begin with none
abbrev pub call_form : ℕ → List (List ℕ) → List ℕ
call_form version words = call_form_by version (slice_get words 0) words

abbrev pub call_form_in : Context → Option Start → List (List ℕ) → List ℕ
call_form_in context (Some Start.Enter) words = call_form context.version (drop 2 words)
call_form_in context (Some Start.Whole) words = call_form context.version (drop 1 words)
call_form_in context _ words = codes ""

-- the form of the call in a line of a given history; nothing where there is none
abbrev pub call_form_of : Context → List (List ℕ) → List ℕ
call_form_of context words = call_form_in context (start_of context.version context.reading context.stage words) words
