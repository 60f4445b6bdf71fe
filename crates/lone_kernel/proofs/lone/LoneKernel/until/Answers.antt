use Rattle.std.proofs.Common.{◌≡◌, ℕ, ◌<◌, ◌≤◌, List, map, Option, Some, None, option_map, refl, sym, ◌∙◌, ap, subst, arith, slice_set}
use Rattle.std.proofs.Common.{slice_get, sum_by, get_or}
use Rattle.call_steps.specs.call_stages.specs.declared.stages.ActiveCall.{ActiveCall}
use Rattle.spk_nums.specs.declared.calls.Call.{Call}
use Rattle.lone_kernel.specs.{declared.seats.Turn.Turn, declared.seats.Turn.TheVariants.Begins, turn_if}
use Rattle.lone_kernel.specs.{list_at, seat_at, turn_at, turn_of, IsFitSeat, IsDone, GoesBy, calls_left, IsAt}
use Rattle.std.proofs.lemmas.List.Sums.{sum_by-set}
use Rattle.lone_kernel.specs.{declared.seats.Seat.Seat, Machine.Machine, Items.placed, Items.TakesItem}
use Rattle.lone_kernel.proofs.{OneStep.list_is, OneStep.seat_is, OneStep.turn_here, OneStep.fit_here, OneStep.calls_here}
use Rattle.lone_kernel.proofs.{Fits.IsOf, Fits.turn_is}
use Rattle.lone_kernel.proofs.{lone.LoneKernel.until.Goals.In-Some, lone.LoneKernel.until.Goals.After-self-1}
use Rattle.lone_kernel.proofs.lone.LoneKernel.until.Goals as goal

abbrev machine : In-Some → Machine
machine c = record {
  setup = c.self.inside.setup;
  words = c.self.inside.words.items;
  lists = map (λ v. v.items) c.self.inside.lists.items;
  seats = c.self.inside.seats.items;
  decisions = c.self.inside.decisions.items;
}

at : (c : In-Some) → c.from-at.result < c.self.inside.setup.cores
at c =
    let n = c.number.ensures.value in
    let f = c.from-at.ensures in
    let r : c.args.core < c.args.self.now.setup.cores = c.requires.here in
    let v = ap (λ m. m.setup.cores) c.self.view_is in
    omega arith

core_is : (c : In-Some) → c.from-at.result ≡ c.args.core
core_is c = let n = c.number.ensures.value in let f = c.from-at.ensures in omega arith

-- a seat read at the core's place
module _ (c : In-Some) (k : Seat) (k_is : k ≡ get_or c.self.inside.seats.items c.from-at.result k) where
  lent_is : seat_at (machine c) c.from-at.result ≡ k
  lent_is = seat_is (λ v. v.items) c.self.inside.setup c.self.inside.words.items c.self.inside.lists.items c.self.inside.seats.items
      c.self.inside.decisions.items c.from-at.result c.index.result.now k c.self.invariant.0 (at c) c.index.ensures k_is

  pub fit_lent : IsFitSeat c.self.inside.setup c.index.result.now.items c.from-at.result k
  fit_lent = fit_here (λ v. v.items) c.self.inside.setup c.self.inside.words.items c.self.inside.lists.items c.self.inside.seats.items
      c.self.inside.decisions.items c.from-at.result c.index.result.now k c.self.invariant.0 (at c) c.index.ensures k_is

  begins_lent : turn_of c.index.result.now.items k ≡ Some c.in-Some.turn
  begins_lent =
      let read : seat_at (machine c) c.from-at.result ≡ c.index-2.result.now =
      seat_is (λ v. v.items) c.self.inside.setup c.self.inside.words.items c.self.inside.lists.items c.self.inside.seats.items
      c.self.inside.decisions.items c.from-at.result c.index.result.now c.index-2.result.now c.self.invariant.0 (at c) c.index.ensures
      c.index-2.ensures in
      ap (turn_of c.index.result.now.items) (sym lent_is ∙ read) ∙ sym c.turn.ensures ∙ c.in-Some.is

  begins_at : turn_at (machine c) c.from-at.result ≡ Some c.in-Some.turn
  begins_at = turn_here (λ v. v.items) c.self.inside.setup c.self.inside.words.items c.self.inside.lists.items c.self.inside.seats.items
      c.self.inside.decisions.items c.from-at.result c.index.result.now k c.self.invariant.0 (at c) c.index.ensures k_is c.in-Some.turn
      begins_lent

  pub of_lent : IsOf c.index.result.now.items k c.in-Some.turn
  of_lent = turn_is c.self.inside.setup c.index.result.now.items c.from-at.result k c.in-Some.turn fit_lent
      (calls_here (λ v. v.items) c.self.inside.setup c.self.inside.words.items c.self.inside.lists.items c.self.inside.seats.items
      c.self.inside.decisions.items c.from-at.result c.index.result.now k c.self.invariant.0 (at c) c.index.ensures k_is) begins_lent

  -- its decisions to come are among those of all cores
  pub few_due : k.due ≤ sum_by (λ seat. seat.due) c.self.inside.seats.items
  few_due =
      let a = at c in
      let seats = c.self.invariant.0.seats in
      let none : Seat = record { begun = 0; due = 0; state = k.state } in
      let all = sum_by-set (λ seat. seat.due) c.self.inside.seats.items c.from-at.result none k (omega arith) in
      let same : k.due ≡ (get_or c.self.inside.seats.items c.from-at.result k).due = ap (λ (s : Seat). s.due) k_is in
      omega arith

  pub is_at : IsAt (machine c) c.args.core c.in-Some.turn k c.self.inside.words.items c.self.inside.decisions.items
  is_at = subst (λ (n : ℕ). IsAt (machine c) n c.in-Some.turn k c.self.inside.words.items c.self.inside.decisions.items) (core_is c) (record {
    fit = c.self.invariant.0;
    setting = c.self.invariant.2;
    here = at c;
    begins = begins_at;
    seat_is = sym lent_is;
    words_are = refl;
    decisions_are = refl;
  })

listed_some : (o : Option Call) (call : Call) → option_map Begins o ≡ Some (Begins call) → o ≡ Some call
listed_some None call is = absurd (cc)
listed_some (Some x) call is = cc

-- the call that begins is the next of the list
listed_if : (list : List Call) (n : ℕ) (o : Option ActiveCall) (call : Call) → turn_if list n o ≡ Some (Begins call)
    → slice_get list n ≡ Some call
listed_if list n None call is = listed_some (slice_get list n) call is
listed_if list n (Some a) call is = absurd (cc)

pub take_item-requires-clause-listed : goal.take_item-requires-clause-listed
take_item-requires-clause-listed c call is =
    let i = (goal.at.take_item-requires-clause-listed c).In-Some in
    let k = c.index_mut.result.now in
    let first : list_at (machine i) i.from-at.result ≡ i.index.result.now.items =
    list_is (λ v. v.items) i.self.inside.setup i.self.inside.words.items i.self.inside.lists.items i.self.inside.seats.items
    i.self.inside.decisions.items i.from-at.result i.index.result.now k i.self.invariant.0 (at i) i.index.ensures
    c.index_mut.ensures.value in
    let again : list_at (machine i) i.from-at.result ≡ c.index-3.result.now.items =
    list_is (λ v. v.items) i.self.inside.setup i.self.inside.words.items i.self.inside.lists.items i.self.inside.seats.items
    i.self.inside.decisions.items i.from-at.result c.index-3.result.now k i.self.invariant.0 (at i) c.index-3.ensures
    c.index_mut.ensures.value in
    subst (λ (l : List Call). slice_get l k.begun ≡ Some call) (sym first ∙ again)
    (listed_if i.index.result.now.items k.begun k.state.active call
    (begins_lent i k c.index_mut.ensures.value ∙ ap (λ (f : Turn). Some f) is))

pub take_item-requires-clause-fits : goal.take_item-requires-clause-fits
take_item-requires-clause-fits c =
    let i = (goal.at.take_item-requires-clause-fits c).In-Some in
    (fit_lent i c.index_mut.result.now c.index_mut.ensures.value).fits

pub take_item-requires-clause-can : goal.take_item-requires-clause-can
take_item-requires-clause-can c =
    let i = (goal.at.take_item-requires-clause-can c).In-Some in
    (of_lent i c.index_mut.result.now c.index_mut.ensures.value).can

pub take_item-requires-clause-few : goal.take_item-requires-clause-few
take_item-requires-clause-few c =
    let i = (goal.at.take_item-requires-clause-few c).In-Some in
    let within = (of_lent i c.index_mut.result.now c.index_mut.ensures.value).within in
    let small = (fit_lent i c.index_mut.result.now c.index_mut.ensures.value).small in
    omega arith

pub take_item-requires-clause-machine : goal.take_item-requires-clause-machine
take_item-requires-clause-machine c =
    let i = (goal.at.take_item-requires-clause-machine c).In-Some in
    i.self.invariant.1 ∙ sym (fit_lent i c.index_mut.result.now c.index_mut.ensures.value).shape

pub take_item-requires-clause-due : goal.take_item-requires-clause-due
take_item-requires-clause-due c =
    let i = (goal.at.take_item-requires-clause-due c).In-Some in
    let of = of_lent i c.index_mut.result.now c.index_mut.ensures.value in
    let all = of.due in
    let low = of.within in
    omega arith

pub take_item-requires-clause-room : goal.take_item-requires-clause-room
take_item-requires-clause-room c =
    let i = (goal.at.take_item-requires-clause-room c).In-Some in
    let of = of_lent i c.index_mut.result.now c.index_mut.ensures.value in
    let all = of.due in
    let low = of.within in
    let few = few_due i c.index_mut.result.now c.index_mut.ensures.value in
    let room = i.self.invariant.3 in
    omega arith

abbrev before : After-self-1 → In-Some
before c = (goal.at.returns-clause-goes c).In-Some

abbrev now : After-self-1 → Machine
now c = record {
  setup = c.self.inside.setup;
  words = c.take_item.new.words.items;
  lists = map (λ v. v.items) c.self.inside.lists.items;
  seats = slice_set c.self.inside.seats.items c.from-at.result c.take_item.new.seat;
  decisions = c.take_item.new.decisions.items;
}

item : (c : After-self-1) → TakesItem c.args.how (machine (before c)) (now c) c.args.core
item c =
    let i = before c in
    let m = machine i in
    let placed_as : (n : ℕ) → Machine = λ n. placed m n c.take_item.new.seat c.take_item.new.words.items c.take_item.new.decisions.items in
    subst (λ x. TakesItem c.args.how m x c.args.core) (ap placed_as (sym (core_is i)))
    (c.take_item.ensures.takes m (is_at i c.index_mut.result.now c.index_mut.ensures.value)
    (λ done. i.requires.undone (subst (λ x. IsDone c.args.how x c.args.core) i.self.view_is done)))

pub invariant_of-self : goal.invariant_of-self
invariant_of-self c =
    let i = before c in
    let due = (item c).due in
    let room = c.take_item.ensures.room in
    let was = i.self.invariant.3 in
    let v = c.take_item.new.decisions.ok.0 in
    let w = c.self.inside.decisions.ok.0 in
    ((item c).fit, i.self.invariant.1, i.self.invariant.2, omega (arith, due, room, was, v, w))

pub returns-clause-goes : goal.returns-clause-goes
returns-clause-goes c = subst (λ x. GoesBy c.args.how x (now c) c.args.core) (before c).self.view_is (item c).goes

pub returns-clause-fewer : goal.returns-clause-fewer
returns-clause-fewer c returns =
    subst (λ x. calls_left (now c) c.args.core < calls_left x c.args.core) (before c).self.view_is ((item c).fewer returns)
