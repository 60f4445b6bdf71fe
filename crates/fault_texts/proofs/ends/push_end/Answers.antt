use Rattle.std.proofs.Common.{refl, ap, codes, string_bytes}
use Rattle.fault_texts.specs.{declared.notes.Note.Note, Notes.note_line, Notes.end_note, Pieces.due_line}
use Rattle.{line_forms.specs.declared.slots.Slot.TheVariants.First, fault_texts.proofs.Appended.thrice}
use Rattle.fault_texts.proofs.ends.push_end.Goals as goal

pub returns : goal.returns
returns c =
    let context = c.args.context.now in
    let due = due_line context.version context.reading context.stage First in
    thrice c.push_note.result (string_bytes c.args.text.now) (string_bytes c.push_str.new.self) (string_bytes c.push_due.new.text)
    (string_bytes c.push_note.new.text) (codes "read the end of the text\n") due due (note_line c.end_note.result)
    (note_line (end_note context)) c.in_ok-push_str.ensures.bytes c.in_ok-push_due.ensures refl
    (ap (λ (n : Note). note_line n) c.end_note.ensures) c.push_note.ensures
