-- What is told of some faults beside what may stand there.
use Rattle.std.specs.Prelude.{ℕ, ◌-◌, ◌==◌, ◌&&◌, List, [], ◌++◌, Bool, true, false, Option, Some, codes, decimal, if◌then◌else◌}
use Rattle.line_reader.specs.declared.cause.Cause.TheVariants.{S2, S4, S5, S6, S7, S9}
use Rattle.line_forms.specs.{declared.context.Reading.Reading, declared.context.Stage.Stage, declared.context.Context.Context}
use Rattle.line_forms.specs.{declared.starts.Start.Start, Starts.start_of, Calls.is_at}
use Rattle.{line_reader.specs.declared.cause.Cause.Cause, call_reader.specs.declared.first_words.FirstWord.FirstWord}
use Rattle.{fault_texts.specs.declared.notes.Note.Note}

-- what is told, without the line's end; nothing of nothing
abbrev pub note_text : Note → List ℕ
note_text Note.Nothing = codes ""
note_text (Note.Grants cores found) = codes "one grant is due for each core: cores " ++ decimal cores ++ codes ", grants "
    ++ decimal found
note_text Note.CallNeedsCore = codes "a call needs a line core c before it"
note_text Note.AskNeedsCore = codes "an endpoint call needs a line core c before it, after the line ends"
note_text Note.ItemsAlone = codes "after the line order stand items alone"
note_text (Note.CoreBeforeDot cores) = codes "before the dot stands a core, a number below " ++ decimal cores
note_text Note.RightsLater = codes "rights are read from speck 2 on"
note_text Note.LeaveTables = codes "only reply lines are read: leave out the tables"
note_text Note.OneCore = codes "tasks are scheduled on one core"
note_text Note.NoTick = codes "the schedule charges the ticks: leave out tick"
note_text Note.MostItems = codes "an order has at most 200,000 items"
note_text Note.MostTasks = codes "there are at most 32 tasks"
note_text Note.MostLines = codes "there are at most 20,000 lines"
note_text Note.LacksEnds = codes "a line ends is due after the script"
note_text Note.LacksSched = codes "a line sched S U is due after the script"

-- there is something to tell
abbrev pub is_told : Note → Bool
is_told Note.Nothing = false
is_told _ = true

-- its line; none of nothing
abbrev pub note_line : Note → List ℕ
note_line n = if is_told n then note_text n ++ codes "\n" else []

-- how many grants are due, and were found
abbrev pub grants_note : Context → Note
grants_note context = Note.Grants context.cores (context.cores - context.due)

-- of a line that may not stand before the first `core` line
abbrev pub call_note : Option Start → Note
call_note (Some (Start.Head (FirstWord.Call v))) = Note.CallNeedsCore
call_note _ = Note.Nothing

-- of a line that may not stand right after the line `ends`
abbrev pub ask_note : Option Start → Note
ask_note (Some Start.Send) = Note.AskNeedsCore
ask_note (Some Start.Recv) = Note.AskNeedsCore
ask_note _ = Note.Nothing

-- of a line that may not stand in a list
abbrev pub list_note : List (List ℕ) → Note
list_note words = if is_at words 0 (codes "tick") then Note.NoTick else Note.Nothing

abbrev pub misplaced_in : Stage → Context → Option Start → List (List ℕ) → Note
misplaced_in Stage.Grants context s words = grants_note context
misplaced_in Stage.Calls context s words = call_note s
misplaced_in Stage.Epochs context s words = call_note s
misplaced_in Stage.Lists context s words = call_note s
misplaced_in Stage.List context s words = list_note words
misplaced_in Stage.Order context s words = Note.ItemsAlone
misplaced_in Stage.Asks context s words = ask_note s
misplaced_in _ context s words = Note.Nothing

-- of a line that may not stand there
abbrev pub misplaced_note : Context → List (List ℕ) → Note
misplaced_note context words = misplaced_in context.stage context (start_of context.version context.reading context.stage words) words

-- of a word that is not known
abbrev pub unknown_note : Reading → ℕ → Note
unknown_note Reading.History place = if place == 0 then Note.LeaveTables else Note.Nothing
unknown_note _ place = Note.Nothing

-- of a word after the last
abbrev pub extra_note : Context → List (List ℕ) → ℕ → Note
extra_note context words place =
    if context.version == 1 && is_at words (place - 4) (codes "copy") then Note.RightsLater else Note.Nothing

-- of a number outside its range
abbrev pub range_note : Reading → List (List ℕ) → Note
range_note Reading.Sched words = if is_at words 0 (codes "cores") then Note.OneCore else Note.Nothing
range_note _ words = Note.Nothing

-- of a core that the machine does not have
abbrev pub core_note : Reading → ℕ → ℕ → Note
core_note Reading.History cores place = if place == 0 then Note.CoreBeforeDot cores else Note.Nothing
core_note _ cores place = Note.Nothing

-- of what is too much
abbrev pub many_note : Stage → Note
many_note Stage.Order = Note.MostItems
many_note Stage.Tasks = Note.MostTasks
many_note _ = Note.Nothing

-- what is told beside of a fault at a place of a line
abbrev pub note_of : Context → List (List ℕ) → ℕ → Cause → Note
note_of context words place S2 = unknown_note context.reading place
note_of context words place S4 = extra_note context words place
note_of context words place S5 = range_note context.reading words
note_of context words place S6 = core_note context.reading context.cores place
note_of context words place S7 = misplaced_note context words
note_of context words place S9 = many_note context.stage
note_of context words place _ = Note.Nothing

-- where a script is read to its end, and the line that ends it is missing
abbrev pub lacking_note : Reading → Note
lacking_note Reading.Ends = Note.LacksEnds
lacking_note Reading.Sched = Note.LacksSched
lacking_note _ = Note.Nothing

abbrev pub end_note_in : Stage → Context → Note
end_note_in Stage.Grants context = grants_note context
end_note_in Stage.Version context = Note.Nothing
end_note_in Stage.Cores context = Note.Nothing
end_note_in Stage.Frames context = Note.Nothing
end_note_in _ context = lacking_note context.reading

-- what is told beside of the end of a text that may not end there
abbrev pub end_note : Context → Note
end_note context = end_note_in context.stage context
