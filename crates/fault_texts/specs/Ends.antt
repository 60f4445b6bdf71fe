-- What is told of a fault that has no words: a byte, a line too many, or the end of the text.
use Rattle.std.specs.Prelude.{ℕ, List, [], ◌++◌, Option, Some, None, codes, decimal}
use Rattle.line_reader.specs.{declared.cause.Cause.Cause, declared.cause.Cause.TheVariants.S8, declared.cause.Cause.TheVariants.S9}
use Rattle.line_forms.specs.{declared.context.Context.Context, declared.slots.Slot.TheVariants.First}
use Rattle.fault_texts.specs.{declared.bytes.BadByte.BadByte, declared.notes.Note.TheVariants.MostLines, Bytes.bad_byte, Notes.note_line}
use Rattle.fault_texts.specs.{Notes.end_note, Pieces.due_line}

-- a byte that may not stand in a text
abbrev pub byte_text : Option BadByte → List ℕ
byte_text None = []
byte_text (Some bad) =
    codes "byte " ++ (decimal bad.column ++ (codes " of the line is " ++ (decimal bad.byte
    ++ codes "\nhere may stand: a tab, 32 to 126, a carriage return right before a line feed\n")))

-- the end of a text that may not end there
abbrev pub end_text : Context → List ℕ
end_text context = codes "read the end of the text\n" ++ due_line context.version context.reading context.stage First ++ note_line (end_note context)

-- a fault whose line has no words
abbrev pub wordless_text : List ℕ → Context → Cause → List ℕ
wordless_text source context S8 = byte_text (bad_byte source)
wordless_text source context S9 = note_line MostLines
wordless_text source context cause = end_text context
