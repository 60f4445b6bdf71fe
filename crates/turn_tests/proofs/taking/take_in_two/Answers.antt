use Rattle.std.proofs.Common.{◌≡◌, length, sym, ap, ◌∙◌, arith}
use Rattle.std.proofs.lemmas.Result.{IfOk-weaker}
use Rattle.turn_tests.proofs.Pairs.{both_stay, both_take, if_both}
use Rattle.turn_tests.proofs.taking.take_in_two.Goals as goal

pub close_shown-requires-clause-seats : goal.close_shown-requires-clause-seats
close_shown-requires-clause-seats g c =
    let new = c.in_ok-table in
    let split = c.split_at_mut-left in
    let took = c.take_both in
    let programs = new.ensures.programs ∙ cc (c.in-Ok.ensures.items, c.new.ensures, c.new-2.ensures) in
    both_stay new.table new.seats.items split.result.0.now split.result.1.now _ _ _ took.new.left took.new.right new.seats.len c.args.calls
    new.ensures.seats programs (sym c.as_mut_slice.ensures.value ∙ split.ensures.value) split.ensures.front_len new.seats.ok.0
    took.ensures.left took.ensures.right

pub returns-clause-all : goal.returns-clause-all
returns-clause-all g c =
    let new = c.in_ok-table in
    let split = c.split_at_mut-left in
    let took = c.take_both in
    let programs = new.ensures.programs ∙ cc (c.in-Ok.ensures.items, c.new.ensures, c.new-2.ensures) in
    let take =
    both_take new.table new.seats.items split.result.0.now split.result.1.now _ _ _ took.new.left took.new.right new.seats.len c.args.calls
    new.ensures.seats programs (sym c.as_mut_slice.ensures.value ∙ split.ensures.value) split.ensures.front_len new.seats.ok.0
    took.ensures.left took.ensures.right new.ensures.fresh c.ranges.calls.fits in
    let closed = c.close_shown.ensures in
    if_both c.close_shown.result _ _ _ (λ r end shown. take r.0.items r.1.items end shown) closed.ends closed.shown

pub returns-clause-sizes : goal.returns-clause-sizes
returns-clause-sizes g c =
    let new = c.in_ok-table.ensures in
    let len = c.in_ok-words.words.ok.0 in
    let three = c.in_ok-words.ensures.len in
    let words : length c.in_ok-words.words.items ≡ 3 = omega arith in
    let programs = ap length (new.programs ∙ c.in-Ok.ensures.items) in
    IfOk-weaker c.close_shown.result _ _ (λ r end. (end.word_count ∙ ap length new.words ∙ words, end.program_count ∙ programs))
    c.close_shown.ensures.ends
