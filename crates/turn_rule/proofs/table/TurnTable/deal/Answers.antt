use Rattle.std.proofs.Common.{rules, ◌≡◌, ◌+◌, ◌<◌, ℕ, [], length, slice_get, Some, refl, sym, ap, ◌∙◌, subst, map-id}
use Rattle.std.proofs.{lemmas.Option.slice_get_read, lemmas.List.length_push, lemmas.List.Elements.All-get_or}
use Rattle.std.proofs.{lemmas.Iterator.Consumers.YieldsList-turn, lemmas.Iterator.Consumers.YieldsList-end}
use Rattle.turn_rule.specs.{declared.view.Part.Part, Rule.view, Rule.first_core, Rule.other_cores}
use Rattle.turn_rule.proofs.{Views.deals, AllSeats.each_pushed, AllSeats.dealt}
use Rattle.{turn_rule.specs.part, turn_rule.specs.SeatValue, std.proofs.lemmas.Iterator.Adapters.YieldsList-from_vec}
use Rattle.turn_rule.proofs.table.TurnTable.deal.Goals as goal

pub split_seat-seat-requires : goal.split_seat-seat-requires
split_seat-seat-requires g c =
    let turn = YieldsList-turn (YieldsList-from_vec {s = c.into_iter-program-iterator.result} c.args.programs.items (search rules)
    (search rules)) c.loop-program.yielded c.loop-program.program-iterator c.loop-program.yielded_by
    c.next.result c.next.new.self c.in-Some.program c.in-Some.is c.next.ensures.steps in
    let i = c.loop-program.invariant in
    let F : Part g.row.P.Denot g.row.P-Call.Denot → Type 0 = λ v. v.from < v.to in
    let some_core : F c.loop-program.rest.me.0.own = subst F (sym i.rest) turn.0 in
    (i.table ∙ sym (ap (λ t. t.id) c.self.view_is), c.self.invariant.0, deals g.P.CoreProgram.steps _ _ _ _ some_core)

pub invariant_of-push : goal.invariant_of-push
invariant_of-push g c =
    let turn = YieldsList-turn (YieldsList-from_vec {s = c.into_iter-program-iterator.result} c.args.programs.items (search rules)
    (search rules)) c.loop-program.yielded c.loop-program.program-iterator c.loop-program.yielded_by
    c.next.result c.next.new.self c.in-Some.program c.in-Some.is c.next.ensures.steps in
    let i = c.loop-program.invariant in
    let T = g.P.CoreProgram.steps in
    let start = c.args.self.now.start in
    let n : ℕ = length c.loop-program.yielded in
    let here = slice_get_read c.args.programs.items (length c.args.programs.items) n c.in-Some.program refl turn.0 turn.1 in
    let core : c.len-core.result ≡ n = search rules in
    let split = c.split_seat-seat.ensures in
    let own = ap (λ z. z.0.own) split.4 ∙ ap (λ (p : Part g.row.P.Denot g.row.P-Call.Denot). (first_core (view p)).own) i.rest in
    let size = All-get_or (λ (p : g.row.P.Denot). T.size p ≡ length c.args.self.now.start.words)
    c.args.programs.items n c.in-Some.program turn.0 c.requires.sizes in
    dealt T _ n start c.split_seat-seat.result.me c.in-Some.program own (ap (λ z. z.1) split.4) core
    (ap (λ l. slice_get l n) c.requires.table.1 ∙ here)
    (ap T.size turn.1 ∙ size)

pub loop-program-preserved : goal.loop-program-preserved
loop-program-preserved g c =
    let turn = YieldsList-turn (YieldsList-from_vec {s = c.into_iter-program-iterator.result} c.args.programs.items (search rules)
    (search rules)) c.loop-program.yielded c.loop-program.program-iterator c.loop-program.yielded_by
    c.next.result c.next.new.self c.in-Some.program c.in-Some.is c.next.ensures.steps in
    let i = c.loop-program.invariant in
    let ps = c.args.programs.items in
    let n : ℕ = length c.loop-program.yielded in
    let more = length_push c.loop-program.yielded c.in-Some.program in
    let here = slice_get_read ps (length ps) n c.in-Some.program refl turn.0 turn.1 in
    let core : c.len-core.result ≡ n = search rules in
    let split = c.split_seat-seat.ensures in
    let own = ap (λ z. z.0.own) split.4 ∙ ap (λ (p : Part g.row.P.Denot g.row.P-Call.Denot). (first_core (view p)).own) i.rest in record {
      table = split.0 ∙ i.table;
      rest = ap (λ z. z.0.own) split.2 ∙ ap (λ (p : Part g.row.P.Denot g.row.P-Call.Denot). (other_cores (view p)).own) i.rest
          ∙ ap (λ (m : ℕ). part c.args.self.now.start m (length ps) []) (sym more);
      count = ap length c.in_ok-push.ensures.items ∙ length_push c.loop-program.seats.items _ ∙ ap (λ (m : ℕ). m + 1) i.count ∙ sym more;
      seats =
          let F : ℕ → SeatValue g.row.P.Denot g.row.P-Call.Denot
          → Type 0 = λ k s. (s.table ≡ c.args.self.now) × (s.core ≡ k) × (s.seen ≡ []) × (slice_get ps k ≡ Some s.program) in
          each_pushed F c.loop-program.seats.items _ n _ c.in_ok-push.ensures.items i.count i.seats (
            (λ j. record { id = (split.3 ∙ i.table) j; start = ap (λ (p : Part g.row.P.Denot g.row.P-Call.Denot). p.start) own j }),
            core,
            ap (λ (p : Part g.row.P.Denot g.row.P-Call.Denot). p.seen) own,
            here,
          );
    }

pub returns-clause-seats : goal.returns-clause-seats
returns-clause-seats g c =
    let end = YieldsList-end (YieldsList-from_vec {s = c.into_iter-program-iterator.result} c.args.programs.items (search rules)
    (search rules)) c.loop-program.yielded c.loop-program.program-iterator
    c.loop-program.yielded_by c.next.result c.next.new.self c.in-None.is c.next.ensures.steps in
    let i = c.loop-program.invariant in record {
      count = i.count ∙ ap length (sym (map-id c.loop-program.yielded) ∙ end.0) ∙ ap length (sym c.requires.table.1);
      table = λ k s e. (i.seats k s e).0;
      core = λ k s e. (i.seats k s e).1;
    }
