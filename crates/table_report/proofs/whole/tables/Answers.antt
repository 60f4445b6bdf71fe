use Rattle.{std.specs.Prelude.string_bytes, table_report.proofs.Determined.whole_text}
use Rattle.table_report.proofs.whole.tables.Goals as goal

pub returns : goal.returns
returns c =
    whole_text c.args.image.now.shape c.args.image.now.words c.args.image.now.ends (string_bytes c.new-text.result)
    (string_bytes c.push_frames.new.text) (string_bytes c.push_numbers.new.text)
    (string_bytes c.push_cores.new.text) (string_bytes c.push_total.new.text)
    c.total_ticks-total.result c.ends.ensures.size c.total_ticks-total.ensures c.new-text.ensures.bytes
    c.in_ok-push_frames.ensures c.in_ok-push_numbers.ensures (rw c.ends.ensures.value at c.in_ok-push_cores.ensures) c.in_ok-push_total.ensures
