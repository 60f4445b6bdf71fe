use Rattle.boot_words.specs.kernel_history.proofs.{rules, arith, ◌≡◌, ◌∙◌, ◌++◌, ◌≤◌, [], ◌∷◌, length, map, ap, sym, subst, map-id, All}
use Rattle.boot_words.specs.kernel_history.proofs.{length-map, map-append}
use Rattle.core_kernel.specs.{CoreSeatValue, seat_value, IsSeat, AreWrapped}
use Rattle.std.proofs.{lemmas.List.Elements.All-get_or, lemmas.List.Elements.All-push, lemmas.Iterator.Consumers.YieldsList-turn}
use Rattle.std.proofs.{lemmas.Iterator.Consumers.YieldsList-end, lemmas.Iterator.Adapters.YieldsList-from_vec}
use Rattle.core_kernel.proofs.ends.turn_seats_of.Goals as goal

pub loop-one-init : goal.loop-one-init
loop-one-init c = let none = c.requires.none in (
  record {
    same = ap (map (seat_value c.args.setup.now)) none;
    each = λ k d h. let size = ap length none in absurd (omega arith);
  },
  c.requires.room,
)

pub loop-one-preserved : goal.loop-one-preserved
loop-one-preserved c =
    let turn = YieldsList-turn (YieldsList-from_vec {s = c.into_iter-one-iterator.result} c.args.seats.items (search rules)
    (search rules)) c.loop-one.yielded c.loop-one.one-iterator c.loop-one.yielded_by c.next.result c.next.new.self c.in-Some.one
    c.in-Some.is c.next.ensures.steps in
    let v = c.args.setup.now in
    let of_v = subst (λ (s : CoreSeatValue). s.kernel.setup ≡ v) (sym turn.1)
    (All-get_or (λ (s : CoreSeatValue). s.kernel.setup ≡ v) c.args.seats.items
    (length c.loop-one.yielded) c.in-Some.one turn.0 c.requires.setups) in
    let same : c.one.inside.setup ≡ v = ap (λ s. s.kernel.setup) c.one.view_is ∙ of_v in
    let inner = c.one.inside.seat in
    let is : seat_value v inner ≡ c.in-Some.one = ap (λ x. seat_value x inner) (sym same) ∙ c.one.view_is in
    let i = c.loop-one.invariant.0 in (
      record {
        same = ap (map (seat_value v)) c.push_reserved.ensures.items ∙ map-append (seat_value v) c.loop-one.turn_seats.items (inner ∷ [])
            ∙ (λ j. i.same j ++ is j ∷ []);
        each = subst (All (IsSeat v)) (sym c.push_reserved.ensures.items)
            (All-push (IsSeat v) c.loop-one.turn_seats.items inner i.each (subst (λ x. IsSeat x inner) same c.one.invariant));
      },
      subst (λ k. length c.args.seats.items ≤ k) (sym c.push_reserved.ensures.capacity) c.loop-one.invariant.1,
    )

pub returns : goal.returns
returns c =
    let end = YieldsList-end (YieldsList-from_vec {s = c.into_iter-one-iterator.result} c.args.seats.items (search rules)
    (search rules)) c.loop-one.yielded c.loop-one.one-iterator c.loop-one.yielded_by c.next.result c.next.new.self c.in-None.is
    c.next.ensures.steps in
    subst (λ l. AreWrapped c.args.setup.now c.loop-one.turn_seats.items l) (sym (map-id c.loop-one.yielded) ∙ end.0) c.loop-one.invariant.0

pub push_reserved-requires : goal.push_reserved-requires
push_reserved-requires c =
    let turn = YieldsList-turn (YieldsList-from_vec {s = c.into_iter-one-iterator.result} c.args.seats.items (search rules)
    (search rules)) c.loop-one.yielded c.loop-one.one-iterator c.loop-one.yielded_by c.next.result c.next.new.self c.in-Some.one
    c.in-Some.is c.next.ensures.steps in
    let seats = c.loop-one.turn_seats in
    let count = sym (length-map seats.items (seat_value c.args.setup.now)) ∙ ap length c.loop-one.invariant.0.same in
    let lt = turn.0 in
    let len = seats.ok.0 in
    let room = c.loop-one.invariant.1 in omega arith
