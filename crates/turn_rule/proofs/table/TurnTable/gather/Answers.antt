use Rattle.std.proofs.Common.{rules, arith, true, ◌≡◌, ◌+◌, ◌≤◌, ℕ, [], ◌∷◌, ◌++◌, length, Some, refl, sym, ap, ◌∙◌, subst}
use Rattle.turn_rule.specs.{program_after, part, Stays, Begins, SeatValue}
use Rattle.std.proofs.{lemmas.Option.slice_get_read, lemmas.Option.slice_get_within, lemmas.List.length_push}
use Rattle.std.proofs.{lemmas.Iterator.Consumers.YieldsList-turn, lemmas.Iterator.Adapters.YieldsList-from_vec}
use Rattle.turn_rule.specs.{declared.view.View.View, Rule.Gathers}
use Rattle.turn_rule.proofs.Views.{takes, gathers_all}
use Rattle.turn_rule.proofs.AllSeats.{each_pushed, begins_as, begins_on, gathered_on}
use Rattle.turn_rule.proofs.table.TurnTable.gather.Goals as goal

pub join_seat-requires : goal.join_seat-requires
join_seat-requires g c =
    let turn = YieldsList-turn (YieldsList-from_vec {s = c.into_iter-one-iterator.result} c.args.seats.items (search rules) (search rules))
    c.loop-one.yielded c.loop-one.one-iterator c.loop-one.yielded_by c.next.result
    c.next.new.self c.in-Some.one c.in-Some.is c.next.ensures.steps in
    let here = slice_get_read c.args.seats.items (length c.args.seats.items) (length c.loop-one.yielded) c.in-Some.one refl turn.0 turn.1 in
    let id = sym (ap (λ t. t.id) c.self.view_is) in (
      c.loop-one.invariant.table ∙ c.requires.table.0 ∙ id,
      ap (λ z. z.table.id) (sym c.into_parts-seat.ensures.value) ∙ ap (λ t. t.id) (c.requires.seats.table _ _ here) ∙ id,
      c.into_parts-seat.ensures.seated.no_slot,
      c.self.invariant.0,
      takes g.P.CoreProgram.steps _ _ _ _ _ _,
    )

pub load-requires : goal.load-requires
load-requires g c =
    let turn = YieldsList-turn (YieldsList-from_vec {s = c.into_iter-one-iterator.result} c.args.seats.items (search rules) (search rules))
    c.loop-one.yielded c.loop-one.one-iterator c.loop-one.yielded_by c.next.result
    c.next.new.self c.in-Some.one c.in-Some.is c.next.ensures.steps in
    let here = slice_get_read c.args.seats.items (length c.args.seats.items) (length c.loop-one.yielded) c.in-Some.one refl turn.0 turn.1 in
    let is = c.join_seat.ensures.2 in
    let i = c.loop-one.invariant in
    let me = c.join_seat.new.seat.me in
    let live : me.0.own.live ≡ true = ap (λ z. z.0.own.live) is ∙ i.all.live in
    let core = c.requires.seats.core _ _ here in
    let next : me.0.told.from ≡ me.0.own.to = ap (λ z. z.0.told.from) is ∙ c.into_parts-seat.ensures.seated.from ∙ core ∙ sym i.all.end
    ∙ sym (ap (λ z. z.0.own.to) is) in (
      c.join_seat.ensures.0 ∙ i.table ∙ c.requires.table.0 ∙ sym (ap (λ t. t.id) c.self.view_is),
      c.self.invariant.0,
      gathers_all g.P.CoreProgram.steps _ _ _ _ me live next,
    )

pub loop-one-preserved : goal.loop-one-preserved
loop-one-preserved g c =
    let Value : Type 0 = SeatValue g.row.P.Denot g.row.P-Call.Denot in
    let T = g.P.CoreProgram.steps in
    let start = c.args.self.now.start in
    let turn = YieldsList-turn (YieldsList-from_vec {s = c.into_iter-one-iterator.result} c.args.seats.items (search rules) (search rules))
    c.loop-one.yielded c.loop-one.one-iterator c.loop-one.yielded_by c.next.result
    c.next.new.self c.in-Some.one c.in-Some.is c.next.ensures.steps in
    let n : ℕ = length c.loop-one.yielded in
    let one = c.in-Some.one in
    let here = slice_get_read c.args.seats.items (length c.args.seats.items) n one refl turn.0 turn.1 in
    let i = c.loop-one.invariant in
    let x = c.load.new.seat.me.0.own in
    let v = c.loop-one.all.me.0.own in
    let its = c.into_parts-seat.ensures.seated in
    let w = c.into_parts-seat.result.0.me.0.own in
    let core = c.requires.seats.core _ _ here in
    let got : Gathers T v w w.to x = subst (λ (z : View g.row.P.Denot g.row.P-Call.Denot). Gathers T z.own z.told z.told.to x)
    (ap (λ z. z.0) c.join_seat.ensures.2) c.load.ensures.2.0 in
    let all = gathered_on T one.core n c.args.all.now.me.0.own
    v c.into_parts-seat.result.0.me x c.into_parts-seat.result.1 c.requires.table.1 i.all its core got in
    let more = length_push c.loop-one.yielded one in
    let count = i.count in
    let low = i.all.from ∙ c.requires.table.1 in
    let high = i.all.end in
    let from = its.from ∙ core in
    let end = its.end ∙ ap (λ (k : ℕ). k + 1) core in record {
      table = c.load.ensures.0 ∙ c.join_seat.ensures.0 ∙ i.table;
      id = c.load.ensures.1 ∙ c.join_seat.ensures.1 ∙ i.id;
      all = subst (λ (k : ℕ). Stays T c.args.all.now.me.0.own k x) (sym more) all.stays;
      room = subst (λ (k : ℕ). length c.args.seats.items ≤ k) (sym c.push_reserved.ensures.capacity) i.room;
      count = ap length c.push_reserved.ensures.items ∙ length_push c.loop-one.programs.items _ ∙ ap (λ (k : ℕ). k + 1) i.count ∙ sym more;
      programs = each_pushed (λ k p. program_after T x.start x.seen k ≡ Some p)
          c.loop-one.programs.items _ n c.push_reserved.new.self.items c.push_reserved.ensures.items i.count
          (λ k q e. let lt = slice_get_within c.loop-one.programs.items k q e in all.before k q (omega arith) (i.programs k q e)) all.here;
      seen = each_pushed (λ (k : ℕ) (s : Value). Begins x.seen (part start k (k + 1) s.seen)) c.loop-one.yielded one n
          (c.loop-one.yielded ++ one ∷ []) refl refl
          (λ k s e. let lt = slice_get_within c.loop-one.yielded k s e in
          begins_on x.seen v (part start k (k + 1) s.seen) all.mine (i.seen k s e) (omega arith) (omega arith))
          (begins_as x.seen w (part start n (n + 1) one.seen) all.its (ap (λ z. z.seen) (sym c.into_parts-seat.ensures.value))
          (omega arith) (omega arith));
    }
