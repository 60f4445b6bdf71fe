use Rattle.flight_laws.specs.flight.proofs.{◌≡◌, ℕ, ◌<◌, ◌++◌, length, map, Some, sym, ◌∙◌, ap, subst, arith, set as slice_set, sum_by}
use Rattle.flight_laws.specs.flight.proofs.{get_or, length-append, decision_at, decided_in}
use Rattle.lone_kernel.specs.{seat_at, core_at, list_at, IsFit, IsFitSeat, IsFinished, stepped, turn_at, turn_of, seat_after, found_by}
use Rattle.lone_kernel.proofs.OneStep.{seat_is, turn_here, fit_here, calls_here, takes_here, stepped_is, fits_behind, fewer_behind}
use Rattle.lone_kernel.proofs.Fits.{IsOf, turn_is, fits_on, due_on, further, one_decision, count_decided, undecided_due}
use Rattle.lone_kernel.proofs.Advance.{one_step, steps_like, further_like}
use Rattle.lone_kernel.proofs.lone.LoneKernel.advance.Goals.{In-Some, After-take-arg-2-1, After-note}
use Rattle.{lone_kernel.specs.decisions_in, lone_kernel.specs.StepsOnce, std.proofs.Common.get_or-set_same}
use Rattle.{lone_kernel.specs.declared.seats.Seat.Seat, lone_kernel.specs.Machine.Machine, lone_kernel.proofs.Shown.steps_as}
use Rattle.{lone_kernel.proofs.Shown.next_shown}
use Rattle.lone_kernel.proofs.lone.LoneKernel.advance.Goals as goal

abbrev machine : In-Some → Machine
machine c = record {
  setup = c.self.inside.setup;
  words = c.self.inside.words.items;
  lists = map (λ v. v.items) c.self.inside.lists.items;
  seats = c.self.inside.seats.items;
  decisions = c.self.inside.decisions.items;
}

at : (c : In-Some) → c.from-at.result < c.self.inside.setup.cores
at c =
    let n = c.number.ensures.value in
    let f = c.from-at.ensures in
    let r : c.args.core < c.args.self.now.setup.cores = c.requires.here in
    let v = ap (λ m. m.setup.cores) c.self.view_is in
    omega arith

-- a seat read at the core's place
module _ (c : In-Some) (k : Seat) (k_is : k ≡ get_or c.self.inside.seats.items c.from-at.result k) where
  pub lent_is : seat_at (machine c) c.from-at.result ≡ k
  lent_is = seat_is (λ v.
      v.items) c.self.inside.setup c.self.inside.words.items c.self.inside.lists.items c.self.inside.seats.items
      c.self.inside.decisions.items
      c.from-at.result c.index.result.now k c.self.invariant.0 (at c) c.index.ensures k_is

  pub fit_lent : IsFitSeat c.self.inside.setup c.index.result.now.items c.from-at.result k
  fit_lent = fit_here (λ v.
      v.items) c.self.inside.setup c.self.inside.words.items c.self.inside.lists.items c.self.inside.seats.items
      c.self.inside.decisions.items
      c.from-at.result c.index.result.now k c.self.invariant.0 (at c) c.index.ensures k_is

  pub begins_lent : turn_of c.index.result.now.items k ≡ Some c.in-Some.turn
  begins_lent =
      let read : seat_at (machine c) c.from-at.result ≡ c.index-2.result.now =
      seat_is (λ v. v.items) c.self.inside.setup c.self.inside.words.items c.self.inside.lists.items c.self.inside.seats.items
      c.self.inside.decisions.items
      c.from-at.result c.index.result.now c.index-2.result.now c.self.invariant.0 (at c) c.index.ensures c.index-2.ensures in
      ap (turn_of c.index.result.now.items) (sym lent_is ∙ read) ∙ sym c.turn.ensures ∙ c.in-Some.is

  pub begins_at : turn_at (machine c) c.from-at.result ≡ Some c.in-Some.turn
  begins_at = turn_here
      (λ v. v.items) c.self.inside.setup c.self.inside.words.items c.self.inside.lists.items c.self.inside.seats.items
      c.self.inside.decisions.items
      c.from-at.result c.index.result.now k c.self.invariant.0 (at c) c.index.ensures k_is c.in-Some.turn begins_lent

  pub of_lent : IsOf c.index.result.now.items k c.in-Some.turn
  of_lent = turn_is c.self.inside.setup c.index.result.now.items c.from-at.result k c.in-Some.turn fit_lent
      (calls_here (λ v. v.items) c.self.inside.setup c.self.inside.words.items c.self.inside.lists.items c.self.inside.seats.items
      c.self.inside.decisions.items
      c.from-at.result c.index.result.now k c.self.invariant.0 (at c) c.index.ensures k_is) begins_lent

pub take-taken-requires-clause-can : goal.take-taken-requires-clause-can
take-taken-requires-clause-can c = let i = (goal.at.take-taken-requires-clause-can c).In-Some in
    (of_lent i c.index_mut.result.now c.index_mut.ensures.value).can

pub take-taken-requires-clause-due : goal.take-taken-requires-clause-due
take-taken-requires-clause-due c h =
    let i = (goal.at.take-taken-requires-clause-due c).In-Some in
    undecided_due c.index.result.now.items c.index_mut.result.now c.in-Some.turn
    (of_lent i c.index_mut.result.now c.index_mut.ensures.value) h

-- after the turn
module _ (i : In-Some) (k seat' read : Seat) (k_is : k ≡ get_or i.self.inside.seats.items i.from-at.result k)
    (read_is : read ≡ get_or (slice_set i.self.inside.seats.items i.from-at.result seat') i.from-at.result read) where
  pub read_same : read ≡ seat'
  read_same =
      let seats = i.self.invariant.0.seats in
      let a = at i in
      read_is ∙ get_or-set_same i.self.inside.seats.items i.from-at.result seat' read (omega arith)

pub overflow_cast-index : goal.overflow_cast-index
overflow_cast-index c =
    let i = (goal.at.overflow_cast-index c).In-Some in
    let read = read_same i c.index_mut.result.now c.take-taken.new.seat c.index-3.result.now c.index_mut.ensures.value
    c.index-3.ensures in
    let same = ap (λ s. s.begun) read ∙ ap (λ s. s.begun) c.take-taken.ensures.takes.behind in
    let within = (of_lent i c.index_mut.result.now c.index_mut.ensures.value).within in
    let small = (fit_lent i c.index_mut.result.now c.index_mut.ensures.value).small in
    omega arith

pub note-requires : goal.note-requires
note-requires c some =
    let i = (goal.at.note-requires c).In-Some in
    let one = one_decision c.take-taken.result.told some in
    let a = at i in
    let seats = i.self.invariant.0.seats in
    let lent = lent_is i c.index_mut.result.now c.index_mut.ensures.value in
    let on = due_on (machine i) c.from-at.result c.in-Some.turn i.self.invariant.0 (at i)
    (begins_at i c.index_mut.result.now c.index_mut.ensures.value) in
    let takes = takes_here
    (λ v. v.items) c.self.inside.setup c.self.inside.words.items c.self.inside.lists.items c.self.inside.seats.items
    c.self.inside.decisions.items
    c.from-at.result c.index.result.now c.index_mut.result.now i.self.invariant.0
    (at i) c.index.ensures c.index_mut.ensures.value c.self.inside.layout c.in-Some.turn c.take-taken.new.seat
    c.take-taken.new.words.items c.take-taken.result.told c.take-taken.ensures.takes i.self.invariant.1 in
    let told = ap decisions_in takes.told in
    let room = i.self.invariant.3 in
    omega arith

abbrev before : After-note → In-Some
before c = (goal.at.returns-clause-goes c).In-Some

abbrev now : After-note → Machine
now c = record {
  setup = c.self.inside.setup;
  words = c.take-taken.new.words.items;
  lists = map (λ v. v.items) c.self.inside.lists.items;
  seats = slice_set c.self.inside.seats.items c.from-at.result c.take-taken.new.seat;
  decisions = c.note.new.decisions.items;
}

core_is : (c : After-note) → c.from-at.result ≡ c.args.core
core_is c = let n = c.number.ensures.value in let f = c.from-at.ensures in omega arith

turn_at_core : (c : After-note) → turn_at (machine (before c)) c.from-at.result ≡ Some c.in-Some.turn
turn_at_core c = begins_at (before c) c.index_mut.result.now c.index_mut.ensures.value

index_is : (c : After-note) → c.index-3.result.now.begun ≡ c.take-taken.new.seat.begun
index_is c = ap (λ s. s.begun)
    (read_same (before c) c.index_mut.result.now c.take-taken.new.seat c.index-3.result.now c.index_mut.ensures.value c.index-3.ensures)

made_now : (c : After-note) → now c ≡ stepped (machine (before c)) c.from-at.result c.in-Some.turn
made_now c = stepped_is
    (λ v. v.items) c.self.inside.setup c.self.inside.words.items c.self.inside.lists.items c.self.inside.seats.items
    c.self.inside.decisions.items
    c.from-at.result c.index.result.now c.index_mut.result.now (before c).self.invariant.0
    (at (before c)) c.index.ensures c.index_mut.ensures.value c.self.inside.layout c.in-Some.turn
    c.take-taken.new.seat c.take-taken.new.words.items c.take-taken.result.told c.take-taken.ensures.takes
    (before c).self.invariant.1
    c.note.new.decisions.items c.index-3.result.now.begun (index_is c)
    (c.note.ensures.items
    ∙ ap (λ (k : ℕ). c.self.inside.decisions.items ++ decision_at (decided_in c.take-taken.result.told) k c.index-3.result.now.begun)
    (sym (core_is c)))

told_now : (c : After-note) → decisions_in c.take-taken.result.told ≡ decisions_in (Rattle.lone_kernel.specs.Machine.said_by
    (Rattle.lone_kernel.specs.Machine.core_in (core_at (machine (before c)) c.from-at.result) c.in-Some.turn)
    (found_by (machine (before c)) c.from-at.result c.in-Some.turn))
told_now c = ap decisions_in
    (takes_here (λ v. v.items) c.self.inside.setup c.self.inside.words.items c.self.inside.lists.items c.self.inside.seats.items
    c.self.inside.decisions.items
    c.from-at.result c.index.result.now c.index_mut.result.now (before c).self.invariant.0
    (at (before c)) c.index.ensures c.index_mut.ensures.value c.self.inside.layout c.in-Some.turn c.take-taken.new.seat
    c.take-taken.new.words.items c.take-taken.result.told c.take-taken.ensures.takes (before c).self.invariant.1).told

fits_now : (c : After-note) → IsFit (now c)
fits_now c =
    let i = before c in
    subst IsFit (sym (made_now c)) (fits_on (machine i) c.from-at.result c.in-Some.turn i.self.invariant.0 (at i) (turn_at_core c)
    (fits_behind (λ v. v.items) c.self.inside.setup c.self.inside.words.items c.self.inside.lists.items c.self.inside.seats.items
    c.self.inside.decisions.items
    c.from-at.result c.index.result.now c.index_mut.result.now i.self.invariant.0
    (at i) c.index.ensures c.index_mut.ensures.value c.self.inside.layout c.in-Some.turn c.take-taken.new.seat
    c.take-taken.new.words.items c.take-taken.result.told c.take-taken.ensures.takes i.self.invariant.1 c.take-taken.ensures.fits))

pub invariant_of-self : goal.invariant_of-self
invariant_of-self c =
    let i = before c in
    let left = due_on (machine i) c.from-at.result c.in-Some.turn i.self.invariant.0 (at i) (turn_at_core c) in
    let sums = ap (λ m. sum_by (λ seat. seat.due) m.seats) (made_now c) in
    let count = count_decided c.take-taken.result.told c.args.core c.index-3.result.now.begun in
    let told = told_now c in
    let grown = ap length c.note.ensures.items ∙ length-append c.self.inside.decisions.items
    (decision_at (decided_in c.take-taken.result.told) c.args.core c.index-3.result.now.begun) in
    let room = c.note.ensures.room in
    let was = i.self.invariant.3 in
    let v = c.note.new.decisions.ok.0 in
    let w = c.self.inside.decisions.ok.0 in (
      fits_now c,
      i.self.invariant.1,
      i.self.invariant.2,
      omega (arith, grown, left, sums, count, told, room, was, v, w),
    )

pub returns-clause-goes : goal.returns-clause-goes
returns-clause-goes c t stands =
    let i = before c in
    let goes : StepsOnce (machine i) (stepped (machine i) c.from-at.result c.in-Some.turn) c.from-at.result
    = λ t s. one_step (machine i) t c.from-at.result c.in-Some.turn i.self.invariant.0 i.self.invariant.2 (at i) (turn_at_core c) s in
    steps_like i.self.view_is (made_now c) (core_is c) goes t stands

pub returns-clause-work : goal.returns-clause-work
returns-clause-work c =
    let i = before c in
    further_like i.self.view_is (made_now c) (core_is c) (further (machine i) c.from-at.result c.in-Some.turn i.self.invariant.0 (at i)
    (turn_at_core c)
    (fits_behind (λ v. v.items) c.self.inside.setup c.self.inside.words.items c.self.inside.lists.items c.self.inside.seats.items
    c.self.inside.decisions.items
    c.from-at.result c.index.result.now c.index_mut.result.now i.self.invariant.0
    (at i) c.index.ensures c.index_mut.ensures.value c.self.inside.layout c.in-Some.turn c.take-taken.new.seat
    c.take-taken.new.words.items c.take-taken.result.told c.take-taken.ensures.takes i.self.invariant.1 c.take-taken.ensures.fits)
    (fewer_behind (λ v. v.items) c.self.inside.setup c.self.inside.words.items c.self.inside.lists.items c.self.inside.seats.items
    c.self.inside.decisions.items
    c.from-at.result c.index.result.now c.index_mut.result.now i.self.invariant.0
    (at i) c.index.ensures c.index_mut.ensures.value c.self.inside.layout c.in-Some.turn c.take-taken.new.seat
    c.take-taken.new.words.items c.take-taken.result.told c.take-taken.ensures.takes i.self.invariant.1 c.take-taken.ensures.fewer))

pub take-taken-requires-clause-few : goal.take-taken-requires-clause-few
take-taken-requires-clause-few c =
    let i = (goal.at.take-taken-requires-clause-few c).In-Some in
    let small = (fit_lent i c.index_mut.result.now c.index_mut.ensures.value).small in
    let begun = (fit_lent i c.index_mut.result.now c.index_mut.ensures.value).begun in
    omega arith

pub take-taken-requires-clause-machine : goal.take-taken-requires-clause-machine
take-taken-requires-clause-machine c =
    let i = (goal.at.take-taken-requires-clause-machine c).In-Some in
    i.self.invariant.1 ∙ sym (fit_lent i c.index_mut.result.now c.index_mut.ensures.value).shape

pub returns-clause-steps : goal.returns-clause-steps
returns-clause-steps c f begins =
    let i = before c in
    let takes = takes_here (λ v. v.items) c.self.inside.setup c.self.inside.words.items c.self.inside.lists.items c.self.inside.seats.items
    c.self.inside.decisions.items
    c.from-at.result c.index.result.now c.index_mut.result.now (before c).self.invariant.0
    (at (before c)) c.index.ensures c.index_mut.ensures.value c.self.inside.layout c.in-Some.turn c.take-taken.new.seat
    c.take-taken.new.words.items c.take-taken.result.told c.take-taken.ensures.takes (before c).self.invariant.1 in
    steps_as i.self.view_is (core_is c) (record { after = made_now c; told = takes.told }) (turn_at_core c) begins

pub returns-clause-shows : goal.returns-clause-shows
returns-clause-shows c =
    let i = before c in
    let k = c.index_mut.result.now in
    let k_is = c.index_mut.ensures.value in
    next_shown (λ v. v.items) c.self.inside.setup c.self.inside.words.items c.self.inside.lists.items c.self.inside.seats.items
    c.self.inside.decisions.items c.from-at.result c.index.result.now k i.self.invariant.0 (at i) c.index.ensures k_is
    c.self.inside.layout c.in-Some.turn c.take-taken.result.view c.args.self.now c.args.core i.self.invariant.1 (begins_lent i k k_is)
    (c.take-taken.ensures.shows (fit_lent i k k_is).fits) i.self.invariant.2 i.self.view_is (core_is c)
