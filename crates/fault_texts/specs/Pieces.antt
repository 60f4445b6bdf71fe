-- The pieces of what is told of a fault.
use Rattle.std.specs.Prelude.{ℕ, zero, suc, ◌-◌, ◌==◌, List, [], ◌∷◌, ◌++◌, length, take, drop, slice_get, Option, Some, None, codes}
use Rattle.line_forms.specs.{declared.context.Reading.Reading, declared.context.Stage.Stage, declared.context.Context.Context}
use Rattle.line_forms.specs.{declared.slots.Slot.Slot, Texts.due_text, Forms.form_of, Forms.call_form_of}
use Rattle.fault_texts.specs.{declared.notes.Note.Note, Places.place_of, Places.slot_of, Notes.note_line, Notes.note_of}
use Rattle.{std.specs.Prelude.if◌then◌else◌, std.specs.Str.Lossy.utf8_lossy, line_reader.specs.declared.cause.Cause.Cause}

-- a word as it is told: as it stands, since it is ASCII
abbrev pub word_text : List ℕ → List ℕ
word_text word = utf8_lossy word

abbrev pub spaced_text : List ℕ → List ℕ
spaced_text word = codes " " ++ word_text word

-- words, a space before each
abbrev pub words_text : List (List ℕ) → List ℕ
words_text [] = []
words_text (w ∷ ws) = spaced_text w ++ words_text ws

-- so many spaces
abbrev pub blanks : ℕ → List ℕ
blanks zero = []
blanks (suc n) = blanks n ++ codes " "

abbrev pub blank_text : List ℕ → List ℕ
blank_text word = codes " " ++ blanks (length word)

-- spaces for words, a space before each
abbrev pub blanks_text : List (List ℕ) → List ℕ
blanks_text [] = []
blanks_text (w ∷ ws) = blank_text w ++ blanks_text ws

-- the words of a line before a place, and those from it on
abbrev pub shown_text : List (List ℕ) → List (List ℕ) → List ℕ
shown_text before after = codes " " ++ words_text before ++ words_text after ++ codes "\n"

-- a mark under the place after those words
abbrev pub mark_text : List (List ℕ) → List ℕ
mark_text before = codes " " ++ blanks_text before ++ codes " ^\n"

abbrev pub read_word_text : List ℕ → List ℕ
read_word_text word = codes "read " ++ word_text word ++ codes "\n"

-- what was read
abbrev pub read_text : Option (List ℕ) → List ℕ
read_text (Some word) = read_word_text word
read_text None = codes "read the end of the line\n"

-- what may stand there
abbrev pub due_line : ℕ → Reading → Stage → Slot → List ℕ
due_line version reading stage slot = codes "here may stand: " ++ due_text version reading stage slot ++ codes "\n"

-- the form of the line, if there is one
abbrev pub form_text : List ℕ → List ℕ
form_text form = if length form == 0 then [] else codes "the line goes: " ++ form ++ codes "\n"

-- the form of the call in it, if there is one
abbrev pub call_text : List ℕ → List ℕ
call_text form = if length form == 0 then [] else codes "the call goes: " ++ form ++ codes "\n"

-- the two forms, and a note
abbrev pub forms_text : Context → List (List ℕ) → Note → List ℕ
forms_text context words note = form_text (form_of context words) ++ call_text (call_form_of context words) ++ note_line note

-- the words about a place: up to eight before it, and four from it on; then the mark, and what was read
abbrev pub at_text : List (List ℕ) → ℕ → List ℕ
at_text words place = shown_text (drop (place - 8) (take place words)) (take 4 (drop place words))
    ++ mark_text (drop (place - 8) (take place words)) ++ read_text (slice_get words place)

abbrev pub fault_at_text : Context → List (List ℕ) → Cause → ℕ → List ℕ
fault_at_text context words cause place = at_text words place
    ++ due_line context.version context.reading context.stage (slot_of context words place cause)
    ++ forms_text context words (note_of context words place cause)

-- what is told of a fault of a line
abbrev pub fault_line_text : Context → List (List ℕ) → Cause → List ℕ
fault_line_text context words cause = fault_at_text context words cause (place_of context words cause)
