use Rattle.async_ends.proofs.Closing.{is_start, fresh_seats, all_wrapped, fresh_wrapped}
use Rattle.{std.proofs.Common.◌∙◌, async_ends.specs.Tables.IsStart}
use Rattle.async_ends.proofs.table.EndTable.new.Goals as goal

pub seats_of-requires : goal.seats_of-requires
seats_of-requires c =
    let t = c.in_ok-table.ensures in
    let start : IsStart c.args.frames c.args.cores c.in_ok-table.table.start =
    is_start c.args.frames c.args.cores c.in_ok-table.table.start c.in_ok-words.words.items c.from.result c.requires.some_frames
    c.requires.frames c.requires.cores t.words (c.in_ok-words.ensures.items_if_clones_equal (λ y h. cc)) c.from.ensures
    (t.programs ∙ c.in_ok-programs.ensures) in
    fresh_seats c.args.frames c.args.cores c.in_ok-table.table start c.in_ok-table.turn_seats.items t.seats t.fresh

pub invariant_of-result : goal.invariant_of-result
invariant_of-result c =
    let t = c.in_ok-table.ensures in
    let start : IsStart c.args.frames c.args.cores c.in_ok-table.table.start =
    is_start c.args.frames c.args.cores c.in_ok-table.table.start c.in_ok-words.words.items c.from.result c.requires.some_frames
    c.requires.frames c.requires.cores t.words (c.in_ok-words.ensures.items_if_clones_equal (λ y h. cc)) c.from.ensures
    (t.programs ∙ c.in_ok-programs.ensures) in
    start

pub returns-clause-seats : goal.returns-clause-seats
returns-clause-seats c =
    let t = c.in_ok-table.ensures in
    let start : IsStart c.args.frames c.args.cores c.in_ok-table.table.start =
    is_start c.args.frames c.args.cores c.in_ok-table.table.start c.in_ok-words.words.items c.from.result c.requires.some_frames
    c.requires.frames c.requires.cores t.words (c.in_ok-words.ensures.items_if_clones_equal (λ y h. cc)) c.from.ensures
    (t.programs ∙ c.in_ok-programs.ensures) in
    all_wrapped c.args.frames c.args.cores c.in_ok-table.table start c.in_ok-table.turn_seats.items c.in_ok-seats.seats.items
    c.in_ok-seats.ensures t.seats

pub returns-clause-fresh : goal.returns-clause-fresh
returns-clause-fresh c =
    let t = c.in_ok-table.ensures in
    let start : IsStart c.args.frames c.args.cores c.in_ok-table.table.start =
    is_start c.args.frames c.args.cores c.in_ok-table.table.start c.in_ok-words.words.items c.from.result c.requires.some_frames
    c.requires.frames c.requires.cores t.words (c.in_ok-words.ensures.items_if_clones_equal (λ y h. cc)) c.from.ensures
    (t.programs ∙ c.in_ok-programs.ensures) in
    fresh_wrapped c.args.frames c.args.cores c.in_ok-table.table start c.in_ok-table.turn_seats.items c.in_ok-seats.seats.items
    c.in_ok-seats.ensures t.fresh
