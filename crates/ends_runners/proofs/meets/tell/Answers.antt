use Rattle.std.proofs.Common.{◌∙◌, length, refl, ap, get_or, slice_set}
use Rattle.std.proofs.lemmas.Option.{slice_get_read}
use Rattle.ends_runners.proofs.Telling.{Seats, tells_one, still_of, unchanged}
use Rattle.ends_runners.proofs.meets.tell.Goals as goal

pub note-note-requires : goal.note-note-requires
note-note-requires c =
    let xs = c.args.seats.now.items in
    let x = c.index_mut.result.now in
    (c.requires.seats c.args.from x (slice_get_read xs (length xs) c.args.from x refl c.requires.from c.index_mut.ensures.value)).0

pub meet-requires-clause-kernel : goal.meet-requires-clause-kernel
meet-requires-clause-kernel c =
    let xs = c.args.seats.now.items in
    let a = c.index_mut.result.now in
    let b = c.index_mut-2.result.now in
    let mid = slice_set xs c.args.from c.note-note.new.seat in
    let back = unchanged c.args.from xs mid a c.note-note.new.seat c.index_mut.ensures.value c.note-note.ensures.same refl in
    (c.requires.seats c.args.to b (slice_get_read xs (length xs) c.args.to b refl c.requires.to
    (c.index_mut-2.ensures.value ∙ ap (λ (l : Seats). get_or l c.args.to b) back))).0

pub meet-requires-clause-note : goal.meet-requires-clause-note
meet-requires-clause-note c =
    let xs = c.args.seats.now.items in
    let x = c.index_mut.result.now in
    c.note-note.ensures.kernel
    ∙ (c.requires.seats c.args.from x (slice_get_read xs (length xs) c.args.from x refl c.requires.from c.index_mut.ensures.value)).0

pub returns-clause-tells : goal.returns-clause-tells
returns-clause-tells c =
    let xs = c.args.seats.now.items in
    let mid = slice_set xs c.args.from c.note-note.new.seat in
    tells_one c.args.from c.args.to xs mid (slice_set mid c.args.to c.meet.new.seat) c.index_mut.result.now c.note-note.new.seat
    c.index_mut-2.result.now c.meet.new.seat c.note-note.result c.requires.from c.requires.to c.index_mut.ensures.value
    c.note-note.ensures.same refl c.note-note.ensures.seen c.index_mut-2.ensures.value c.meet.ensures.meets refl

pub returns-clause-seats : goal.returns-clause-seats
returns-clause-seats c =
    let xs = c.args.seats.now.items in
    let mid = slice_set xs c.args.from c.note-note.new.seat in
    let a = c.index_mut.result.now in
    let b = c.index_mut-2.result.now in
    let back = unchanged c.args.from xs mid a c.note-note.new.seat c.index_mut.ensures.value c.note-note.ensures.same refl in
    let of_b = (c.requires.seats c.args.to b (slice_get_read xs (length xs) c.args.to b refl c.requires.to
    (c.index_mut-2.ensures.value ∙ ap (λ (l : Seats). get_or l c.args.to b) back))).0 in
    still_of c.args.kernel.now xs (slice_set mid c.args.to c.meet.new.seat) c.args.to c.meet.new.seat c.requires.seats c.requires.to
    (ap (λ (l : Seats). slice_set l c.args.to c.meet.new.seat) back) (c.meet.ensures.meets.kernel ∙ of_b) c.meet.ensures.seen
