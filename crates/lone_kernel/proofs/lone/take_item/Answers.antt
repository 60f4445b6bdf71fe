use Rattle.flight_laws.specs.flight.proofs.{◌≡◌, ◌+◌, length, refl, sym, ◌∙◌, ap, subst, arith, true, false, length-append, decision_at}
use Rattle.lone_kernel.proofs.Items.{Leaves, step_of_core, same_shape, inside, short_first, short_on, ends_on}
use Rattle.{flight_laws.specs.flight.proofs.decided_in, flight_laws.specs.flight.proofs.Core, std.proofs.lemmas.List.length-set}
use Rattle.{lone_kernel.specs.Machine.due_in, lone_kernel.specs.Items.is_over, lone_kernel.proofs.Fits.count_decided}
use Rattle.{lone_kernel.proofs.Fits.turned_shape, boot_words.specs.kernel_rules.specs.How, lone_kernel.specs.declared.seats.Turn.Turn}
use Rattle.lone_kernel.specs.{begun_by, core_in, CanTake, IsAt, Items.placed, Items.TakesItem}
use Rattle.lone_kernel.proofs.lone.take_item.Goals as goal

pub going-init : goal.going-init
going-init c =
    let state = ap (λ (k : Core). due_in k.active) c.begin.ensures.state in
    let due = c.begin.ensures.due in
    let was = c.requires.due in
    let room = c.requires.room in
    let begun = c.begin.ensures.begun in
    let few = c.requires.few in
    record {
      in_call = c.begin.ensures.in_call;
      machine = c.requires.machine ∙ sym (turned_shape c.args.seat.now.state c.args.turn.now)
          ∙ ap (λ (k : Core). k.own.layout) (sym c.begin.ensures.state);
      size = c.requires.size;
      few = omega arith;
      due = omega arith;
      room = omega arith;
      grown = omega arith;
      goes = λ m first at undone state_is begun_is due_is. short_first c.args.how m c.args.core c.args.turn.now first c.begin.new.seat
          c.args.words.now.items c.args.decisions.now.items at undone state_is begun_is due_is;
    }

pub overflow_cast-seat : goal.overflow_cast-seat
overflow_cast-seat c =
    let few = c.going.invariant.few in
    let same = c.go.ensures.goes.begun in
    omega arith

pub is_over-requires : goal.is_over-requires
is_over-requires c goes =
    let i = c.going.invariant in
    let step = step_of_core c.args.layout.now c.going.seat c.go.new.seat c.going.words.items c.go.new.words.items
    c.go.new.absorbed i.in_call c.go.ensures.goes in
    subst (λ said. Leaves said c.go.new.seat.state.active) goes step.leaves

pub going-preserved : goal.going-preserved
going-preserved c =
    let i = c.going.invariant in
    let g = c.go.ensures in
    let said = c.go.new.absorbed in
    let step = step_of_core c.args.layout.now c.going.seat c.go.new.seat c.going.words.items c.go.new.words.items
    said i.in_call g.goes in
    let over : is_over c.args.how said c.go.new.seat.state ≡ false = sym c.is_over.ensures ∙ c.if-is_over.false in
    let counts = step.counts.due in
    let left = g.goes.due in
    let was = i.due in
    let had = i.room in
    let more = c.note.ensures.room in
    let grown = ap length c.note.ensures.items
    ∙ length-append c.going.decisions.items (decision_at (decided_in said) c.args.core c.go.new.seat.begun) in
    let count = count_decided said c.args.core c.go.new.seat.begun in
    let v = c.note.new.decisions.ok.0 in
    let w = c.going.decisions.ok.0 in
    let at_first = i.grown in
    record {
      in_call = inside c.going.seat.state c.go.new.seat.state c.args.how said step over;
      machine = same_shape c.args.layout.now c.going.seat c.go.new.seat c.going.words.items c.go.new.words.items said
          g.goes i.machine;
      size = ap length g.goes.words ∙ length-set c.going.words.items _ _ ∙ i.size;
      few = (let few = i.few in let same = g.goes.begun in omega arith);
      due = omega arith;
      room = omega (arith, counts, had, more, grown, count, v, w);
      grown = omega arith;
      goes = λ m first at undone state_is begun_is due_is. short_on c.args.how m c.args.core c.args.turn.now first c.args.words.now.items
          c.args.decisions.now.items at undone c.args.layout.now c.going.seat c.go.new.seat c.going.words.items
          c.go.new.words.items c.going.decisions.items c.note.new.decisions.items said c.go.new.seat.begun
          (i.goes m first at undone state_is begun_is due_is) i.machine i.in_call g.goes g.fits g.fewer c.note.ensures.items refl over;
    }

pub returns-then-is_over-clause-takes : goal.returns-then-is_over-clause-takes
returns-then-is_over-clause-takes c m at undone =
    let i = c.going.invariant in
    let g = c.go.ensures in
    let over : is_over c.args.how c.go.new.absorbed c.go.new.seat.state ≡ true =
    sym c.is_over.ensures ∙ c.if-is_over.true in
    ends_on c.args.how m c.args.core c.args.turn.now c.args.seat.now c.args.words.now.items c.args.decisions.now.items at undone
    c.args.layout.now c.going.seat c.go.new.seat c.going.words.items c.go.new.words.items c.going.decisions.items
    c.note.new.decisions.items c.go.new.absorbed c.go.new.seat.begun
    (i.goes m c.args.seat.now at undone c.begin.ensures.state c.begin.ensures.begun c.begin.ensures.due) i.machine i.in_call g.goes g.fits
    g.fewer c.note.ensures.items refl over

pub take_call-requires-clause-can : goal.take_call-requires-clause-can
take_call-requires-clause-can c = subst (λ (f : Turn). CanTake f c.args.seat.now.state) c.in-Some.ensures.0 c.requires.can

pub take_call-requires-clause-few : goal.take_call-requires-clause-few
take_call-requires-clause-few c =
    let begun : begun_by c.args.turn.now c.args.seat.now.begun ≡ c.args.seat.now.begun + 1 =
    ap (λ (f : Turn). begun_by f c.args.seat.now.begun) c.in-Some.ensures.0 in
    let few = c.requires.few in
    omega arith

pub take_call-requires-clause-due : goal.take_call-requires-clause-due
take_call-requires-clause-due c =
    let one : due_in (core_in c.args.seat.now.state c.args.turn.now).active ≡ 1 =
    ap (λ (f : Turn). due_in (core_in c.args.seat.now.state f).active) c.in-Some.ensures.0 in
    let due = c.requires.due in
    omega arith

pub take_call-requires-clause-room : goal.take_call-requires-clause-room
take_call-requires-clause-room c =
    let one : due_in (core_in c.args.seat.now.state c.args.turn.now).active ≡ 1 =
    ap (λ (f : Turn). due_in (core_in c.args.seat.now.state f).active) c.in-Some.ensures.0 in
    let room = c.requires.room in
    omega arith

pub returns-in-Some-clause-takes : goal.returns-in-Some-clause-takes
returns-in-Some-clause-takes c m at undone =
    subst (λ (h : How). TakesItem h m (placed m c.args.core c.take_call.new.seat c.take_call.new.words.items
    c.take_call.new.decisions.items) c.args.core) (sym c.in-Some.ensures.1)
    (c.take_call.ensures.takes m (subst (λ (f : Turn). IsAt m c.args.core f c.args.seat.now c.args.words.now.items
    c.args.decisions.now.items) c.in-Some.ensures.0 at))
