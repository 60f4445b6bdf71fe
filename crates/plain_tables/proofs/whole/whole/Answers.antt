use Rattle.plain_tables.proofs.Common.{◌≡◌, ◌+◌, arith, string_bytes, ticks, state_of}
use Rattle.plain_tables.proofs.Texts.{whole_text}
use Rattle.plain_tables.proofs.whole.whole.Goals as goal

pub returns : goal.returns
returns c =
    let total : c.from.result + c.spent.result ≡ ticks (state_of c.args.k.now) =
    omega (arith, c.from.ensures, c.budgets.ensures.sum, c.spent.ensures.sum) in
    whole_text (state_of c.args.k.now) c.in_ok-counts.counts.items (string_bytes c.new-text.result)
    (string_bytes c.push_frames.new.text) (string_bytes c.push_numbers.new.text) (string_bytes c.push_cores.new.text)
    (string_bytes c.push_total.new.text)
    (c.from.result + c.spent.result) c.in_ok-counts.ensures.counts total c.new-text.ensures.bytes
    (rw c.deref.ensures.value at c.in_ok-push_frames.ensures)
    c.in_ok-push_numbers.ensures c.in_ok-push_cores.ensures c.in_ok-push_total.ensures
