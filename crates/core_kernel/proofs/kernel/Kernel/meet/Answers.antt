use Rattle.std.proofs.Common.{◌≡◌, ◌∙◌, ap, sym, subst}
use Rattle.core_kernel.proofs.Seats.{has_seen, meets, met_seat}
use Rattle.{core_kernel.specs.seat_value, core_kernel.specs.Meets, core_kernel.specs.Kernel.note_value}
use Rattle.core_kernel.proofs.kernel.Kernel.meet.Goals as goal

pub invariant_of-seat : goal.invariant_of-seat
invariant_of-seat c =
    met_seat c.seat.inside.setup c.seat.inside.seat c.meet.new.seat c.note.inside.note c.seat.invariant c.meet.ensures.met
    c.meet.ensures.follows

pub returns-clause-meets : goal.returns-clause-meets
returns-clause-meets c =
    let v = c.seat.inside.setup in
    let same : c.note.inside.setup ≡ v = ap (λ n. n.kernel.setup) c.note.view_is
    ∙ ap (λ k. k.setup) (c.requires.note ∙ sym c.requires.kernel) ∙ sym (ap (λ s. s.kernel.setup) c.seat.view_is) in
    let note : note_value v c.note.inside.note ≡ c.args.note = ap (λ x. note_value x c.note.inside.note) (sym same) ∙ c.note.view_is in
    subst (λ s. Meets s c.args.note (seat_value v c.meet.new.seat)) c.seat.view_is
    (subst (λ n. Meets (seat_value v c.seat.inside.seat) n (seat_value v c.meet.new.seat)) note
    (meets v c.seat.inside.seat c.meet.new.seat c.note.inside.note c.meet.ensures.met))

pub returns-clause-seen : goal.returns-clause-seen
returns-clause-seen c = has_seen c.seat.inside.setup c.meet.new.seat (invariant_of-seat c)
