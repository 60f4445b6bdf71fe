-- What the top call answers and writes, and why.
use Rattle.std.specs.Prelude.{◌≡◌, ◌⊎◌, ◌++◌, ◌^◌, ℕ, ◌<◌, ◌≤◌, List, [], ◌∷◌, length, map, Option, Some, None, String, string_bytes, codes}
use Rattle.load_maker.specs.script_reader.specs.line_reader.specs.{declared.cause.Cause.Cause, Causes.cause_text, Numerals.number_of}
use Rattle.speck_run.specs.declared.words.Command.TheVariants.{Replay, Trace, Draw, Run, Plain, Print, Ends, Sched, Check, Origins, Worlds}
use Rattle.speck_run.specs.declared.top.Status.TheVariants.{Done, Words, Script, ReadFault, WriteFault, Memory, TooLong, Stopped}
use Rattle.speck_run.specs.Script.{MadeBy, IsFaultOf, AreInput, UsesThreads}
use Rattle.{std.specs.Prelude.decimal, whole_ends.specs.Gives, whole_ends.specs.GivesAll, std.specs.Global.Global, std.specs.Global.Vec}
use Rattle.{byte_ends.specs.Ends.HasRisen, byte_ends.specs.Ends.Adds, explain_run.specs.line_forms.specs.declared.context.Reading.Reading}
use Rattle.{load_maker.specs.Loads.script_made, load_maker.specs.Loads.load_text, whole_ends.specs.Ends.AddsFront}
use Rattle.{speck_run.specs.declared.words.Command.Command, speck_run.specs.declared.words.Command.TheVariants.Explain}
use Rattle.{speck_run.specs.declared.top.Status.Status, speck_run.specs.Summary.GivenSummary}

-- A command line: the words after the program's name.
abbrev pub CommandLine : Type 0
CommandLine = Vec (String Global)

abbrev pub texts_of : CommandLine → List (List ℕ)
texts_of words = map (λ word. string_bytes word) words.items

-- The word of the command that reads such bytes.
abbrev pub subject_of : Reading → List ℕ
subject_of Reading.Script = codes "print"
subject_of Reading.Ends = codes "ends"
subject_of Reading.Sched = codes "sched"
subject_of Reading.History = codes "check"

-- The word of a command, or the first of its words.
abbrev pub word_of : Command → List ℕ
word_of Replay = codes "replay"
word_of Trace = codes "trace"
word_of (Draw page) = codes "draw"
word_of Run = codes "run"
word_of Plain = codes "plain"
word_of Print = codes "print"
word_of Ends = codes "ends"
word_of Sched = codes "sched"
word_of Check = codes "check"
word_of Origins = codes "origins"
word_of Worlds = codes "worlds"
word_of (Explain r) = codes "explain"

-- What the command of that word reads, or none where no command of that word is explained.
abbrev pub IsReadingOf : List ℕ → Option Reading → Type 0
IsReadingOf word (Some r) = word ≡ subject_of r
IsReadingOf word None = (r : Reading) → word ≡ subject_of r → ⊥

-- The words are this one and that of the command that reads such bytes, or no such words.
abbrev pub IsExplainedAfter : List ℕ → CommandLine → Option Reading → Type 0
IsExplainedAfter name words (Some r) = texts_of words ≡ name ∷ subject_of r ∷ []
IsExplainedAfter name words None = (r : Reading) → texts_of words ≡ name ∷ subject_of r ∷ [] → ⊥

-- The words ask for something of a number: this word, and the number, from 0 to 4,294,967,295, as a script writes numbers.
pub record AsksNumber (name : List ℕ) (words : CommandLine) (number : ℕ) : Type 0 where
  pub digits : List ℕ
  pub asks : texts_of words ≡ name ∷ digits ∷ []
  pub says : number_of digits ≡ Some number
  pub range : number < 2 ^ 32

-- The words ask for a page of a drawing: they are `draw` alone, for the first, or `draw` and the page's number, at least 1.
abbrev pub AsksPage : CommandLine → ℕ → Type 0
AsksPage words page =
    ((texts_of words ≡ codes "draw" ∷ []) × (page ≡ 1)) ⊎ (AsksNumber (codes "draw") words page × (1 ≤ page))

-- The words ask for the command: they are its word alone; `draw` may have the number of a page after it, and `explain` has the word of
-- the command that reads such bytes.
abbrev pub Asks : CommandLine → Command → Type 0
Asks words (Draw page) = AsksPage words page
Asks words (Explain r) = texts_of words ≡ codes "explain" ∷ subject_of r ∷ []
Asks words command = texts_of words ≡ word_of command ∷ []

-- The words ask for it of some number.
pub record HasNumber (name : List ℕ) (words : CommandLine) : Type 0 where
  pub number : ℕ
  pub asks : AsksNumber name words number

-- The words ask for the script of a number.
abbrev pub AsksMake : CommandLine → ℕ → Type 0
AsksMake words number = AsksNumber (codes "make") words number

-- The words ask for the summary of the script of a number.
abbrev pub AsksLoad : CommandLine → ℕ → Type 0
AsksLoad words number = AsksNumber (codes "load") words number

abbrev pub IsMake : CommandLine → Type 0
IsMake words = HasNumber (codes "make") words

abbrev pub IsLoad : CommandLine → Type 0
IsLoad words = HasNumber (codes "load") words

-- The number of which the words ask for this, or none where they do not.
abbrev pub IsNumberOf : List ℕ → CommandLine → Option ℕ → Type 0
IsNumberOf name words (Some number) = AsksNumber name words number
IsNumberOf name words None = HasNumber name words → ⊥

-- The number below 2^32 for which the digits stand, or none where they stand for none.
abbrev pub IsNumberIn : List ℕ → Option ℕ → Type 0
IsNumberIn digits (Some number) = (number_of digits ≡ Some number) × (number < 2 ^ 32)
IsNumberIn digits None = (number : ℕ) → number_of digits ≡ Some number → number < 2 ^ 32 → ⊥

-- The words ask for some command that takes a script.
pub record IsCommand (words : CommandLine) : Type 0 where
  pub command : Command
  pub asks : Asks words command

-- The words ask for something.
abbrev pub IsUnderstood : CommandLine → Type 0
IsUnderstood words = IsCommand words ⊎ (IsMake words ⊎ IsLoad words)

-- The command for which the words ask, or none where they ask for no command.
abbrev pub IsCommandOf : CommandLine → Option Command → Type 0
IsCommandOf words (Some command) = Asks words command
IsCommandOf words None = IsCommand words → ⊥

-- The page of a drawing of which the words give the number, or none where they give none.
abbrev pub IsPageOf : CommandLine → Option ℕ → Type 0
IsPageOf words (Some page) = AsksNumber (codes "draw") words page × (1 ≤ page)
IsPageOf words None = (page : ℕ) → AsksNumber (codes "draw") words page → 1 ≤ page → ⊥

-- The source has given its input to the end, at most 1,048,576 bytes, and the text is this of it.
pub record InputMakes (Made : List ℕ → List ℕ → Type 0) (left left' : Option (List ℕ)) (text : List ℕ) : Type 0 where
  pub bytes : List ℕ
  pub input : GivesAll bytes left left'
  pub small : length bytes ≤ 1048576
  pub made : Made bytes text

-- The words ask for a command, and the source has given its input to the end, at most 1,048,576 bytes; it is none that the command
-- takes, and this is its first fault.
pub record InputFaults (words : CommandLine) (left left' : Option (List ℕ)) (line : ℕ) (cause : Cause) : Type 0 where
  pub command : Command
  pub asks : Asks words command
  pub bytes : List ℕ
  pub input : GivesAll bytes left left'
  pub small : length bytes ≤ 1048576
  pub fault : IsFaultOf command bytes line cause

-- The words ask for a command that goes by threads, and the source has given its input to the end, at most 1,048,576 bytes, which is
-- such as the command takes.
pub record InputRuns (words : CommandLine) (left left' : Option (List ℕ)) : Type 0 where
  pub command : Command
  pub asks : Asks words command
  pub threads : UsesThreads command
  pub bytes : List ℕ
  pub input : GivesAll bytes left left'
  pub small : length bytes ≤ 1048576
  pub is_input : AreInput command bytes

-- The sink has taken a whole text, which is this of the input.
pub record CarriesOut (Made : List ℕ → List ℕ → Type 0) (left left' held held' : Option (List ℕ)) : Type 0 where
  pub text : List ℕ
  pub makes : InputMakes Made left left' text
  pub written : Adds text held held'

-- The line that is written for a status, or the text for `Done`.
abbrev pub words_line : List ℕ
words_line = codes "words not understood\n"

abbrev pub read_line : List ℕ
read_line = codes "read failed\n"

abbrev pub long_line : List ℕ
long_line = codes "too long\n"

abbrev pub script_line : ℕ → Cause → List ℕ
script_line line cause = codes "line " ++ (decimal line ++ (codes ": " ++ (cause_text cause ++ codes "\n")))

-- What a call was asked and what its source gave.
pub record Asked : Type 0 where
  pub words : CommandLine
  pub left : Option (List ℕ)
  pub left' : Option (List ℕ)
  pub faults : ℕ
  pub faults' : ℕ

-- The words ask for a command, and the text is what it makes of the input.
pub record IsTextOf (a : Asked) (text : List ℕ) : Type 0 where
  pub command : Command
  pub asks : Asks a.words command
  pub makes : InputMakes (MadeBy command) a.left a.left' text

-- The words ask for the script of a number, and the text is its text.
pub record MakesText (words : CommandLine) (text : List ℕ) : Type 0 where
  pub number : ℕ
  pub asks : AsksMake words number
  pub is_text : text ≡ load_text number

-- The text is the summary of what `replay` makes of the script of a number.
abbrev pub IsSummary : ℕ → List ℕ → Type 0
IsSummary number text = GivenSummary (script_made number).setup (script_made number).lists (script_made number).order text

-- The words ask for the summary of the script of a number, and the text is that summary.
pub record SumsUp (words : CommandLine) (text : List ℕ) : Type 0 where
  pub number : ℕ
  pub asks : AsksLoad words number
  pub is_text : IsSummary number text

-- The text is that for which the words ask.
abbrev pub IsDone : Asked → List ℕ → Type 0
IsDone a text = IsTextOf a text ⊎ (MakesText a.words text ⊎ SumsUp a.words text)

-- The status is due and the text is due with it: the cause of the status stands, and the text is its line or what the
-- command makes of the input. Words are judged first, then reading, then the script.
abbrev pub IsDue : Asked → Status → List ℕ → Type 0
IsDue a Done text = IsDone a text
IsDue a Words text = (IsUnderstood a.words → ⊥) × (text ≡ words_line)
IsDue a ReadFault text = IsCommand a.words × HasRisen a.faults a.faults' × (text ≡ read_line)
IsDue a TooLong text = IsCommand a.words × Gives 1048577 a.left a.left' × (text ≡ long_line)
IsDue a (Script line cause) text = InputFaults a.words a.left a.left' line cause × (text ≡ script_line line cause)
IsDue a Stopped text = InputRuns a.words a.left a.left' × (text ≡ [])
IsDue a WriteFault text = ⊥
IsDue a Memory text = ⊥

-- What is due under a command for an input that was read to its end: what the command makes of it, or nothing where a core was
-- stopped, or the line of its first fault.
abbrev pub IsDueOf : Command → List ℕ → Status → List ℕ → Type 0
IsDueOf command bytes Done text = MadeBy command bytes text
IsDueOf command bytes Stopped text = UsesThreads command × AreInput command bytes × (text ≡ [])
IsDueOf command bytes (Script line cause) text = IsFaultOf command bytes line cause × (text ≡ script_line line cause)
IsDueOf command bytes _ text = ⊥

-- The sink has taken the summary of the script of a number.
pub record WritesSummary (number : ℕ) (held held' : Option (List ℕ)) : Type 0 where
  pub text : List ℕ
  pub is_text : IsSummary number text
  pub written : Adds text held held'

-- A prefix of a text that was due.
pub record WritesFront (a : Asked) (held held' : Option (List ℕ)) : Type 0 where
  pub status : Status
  pub text : List ℕ
  pub due : IsDue a status text
  pub front : AddsFront text held held'

-- What a call has written when it ends with this status.
abbrev pub Writes : Asked → Option (List ℕ) → Option (List ℕ) → Status → Type 0
Writes a held held' Done = (text : List ℕ) × IsDone a text × Adds text held held'
Writes a held held' Words = Adds words_line held held'
Writes a held held' ReadFault = Adds read_line held held'
Writes a held held' TooLong = Adds long_line held held'
Writes a held held' (Script line cause) = Adds (script_line line cause) held held'
Writes a held held' Stopped = Adds [] held held'
Writes a held held' WriteFault = WritesFront a held held'
Writes a held held' Memory = held' ≡ held

-- The status that an input has under a command where nothing fails: it is too long; or it is none that the command takes, and has a
-- first fault; or it is one.
abbrev pub IsStatusOf : Command → List ℕ → Status → Type 0
IsStatusOf command bytes TooLong = 1048576 < length bytes
IsStatusOf command bytes (Script line cause) = (length bytes ≤ 1048576) × IsFaultOf command bytes line cause
IsStatusOf command bytes Done = (length bytes ≤ 1048576) × AreInput command bytes
IsStatusOf command bytes _ = ⊥

-- The status is this one, unless a write has failed or memory has run out.
abbrev pub IsUnlessUnwritten : Status → Status → Type 0
IsUnlessUnwritten due status = (status ≡ due) ⊎ ((status ≡ WriteFault) ⊎ (status ≡ Memory))

-- The status is this one, unless a read or a write has failed, memory has run out, or a run was stopped.
abbrev pub IsUnlessFault : Status → Status → Type 0
IsUnlessFault due status = (status ≡ due) ⊎ ((status ≡ Stopped) ⊎ IsUnlessUnwritten ReadFault status)

-- The status is that of the input under the command, where the source tells it, unless something has failed.
abbrev pub Answers : Command → Option (List ℕ) → Status → Type 0
Answers command None status = Unit {0}
Answers command (Some left) status = (due : Status) → IsStatusOf command left due → IsUnlessFault due status

-- The source tells at most 1,048,576 bytes, which are such as the command takes.
abbrev pub IsAccepted : Command → Option (List ℕ) → Type 0
IsAccepted command None = ⊥
IsAccepted command (Some left) = (length left ≤ 1048576) × AreInput command left

-- The text is written and the status stands, or the sink has failed and holds the text's front.
abbrev pub Finishes : Status → List ℕ → ℕ → ℕ → Option (List ℕ) → Option (List ℕ) → Status → Type 0
Finishes due text faults faults' held held' status =
    ((status ≡ due) × (faults' ≡ faults) × Adds text held held')
    ⊎ ((status ≡ WriteFault) × HasRisen faults faults' × AddsFront text held held')

-- The number with which the program ends.
abbrev pub status_number : Status → ℕ
status_number Done = 0
status_number Words = 2
status_number (Script line cause) = 3
status_number ReadFault = 4
status_number WriteFault = 5
status_number Memory = 6
status_number TooLong = 7
status_number Stopped = 9
