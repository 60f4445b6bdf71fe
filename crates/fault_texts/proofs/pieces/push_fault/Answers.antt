use Rattle.{std.specs.Prelude.string_bytes, line_reader.specs.Arguments.texts, fault_texts.proofs.Appended.fault_told}
use Rattle.fault_texts.proofs.pieces.push_fault.Goals as goal

pub returns : goal.returns
returns c =
    fault_told c.push_forms.result c.args.context.now (texts c.args.words.now) c.args.cause c.place_of-place.result c.slot_of.result
    c.note_of.result (string_bytes c.args.text.now) (string_bytes c.push_at.new.text) (string_bytes c.push_due.new.text)
    (string_bytes c.push_forms.new.text) c.place_of-place.ensures c.slot_of.ensures c.note_of.ensures c.in_ok-push_at.ensures
    c.in_ok-push_due.ensures c.push_forms.ensures
