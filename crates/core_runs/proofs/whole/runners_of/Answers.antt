use Rattle.core_kernel.specs.flight_laws.specs.flight.proofs.{rules, ◌≡◌, ◌∙◌, ◌<◌, ◌+◌, ℕ, [], ◌∷◌, length, get_or, map, refl, sym, ap}
use Rattle.core_kernel.specs.flight_laws.specs.flight.proofs.{arith, get_or-map, slice_get, Some}
use Rattle.std.proofs.{lemmas.List.length_push, lemmas.Option.slice_get_read, lemmas.Iterator.Consumers.YieldsList-turn}
use Rattle.{std.proofs.lemmas.Iterator.Adapters.YieldsList-from_vec, core_kernel.specs.turn_rule.proofs.AllSeats.each_pushed}
use Rattle.{core_kernel.specs.Kernel.CoreSeatValue, core_runs.specs.Whole.IsReady}
use Rattle.core_runs.proofs.whole.runners_of.Goals as goal

pub loop-seat-preserved : goal.loop-seat-preserved
loop-seat-preserved c =
    let turn = YieldsList-turn (YieldsList-from_vec {s = c.into_iter-seat-iterator.result} c.args.seats.items (search rules)
    (search rules)) c.loop-seat.yielded c.loop-seat.seat-iterator c.loop-seat.yielded_by c.next.result c.next.new.self
    c.in-Some.seat c.in-Some.is c.next.ensures.steps in
    let i = c.loop-seat.invariant in
    let n : ℕ = length c.loop-seat.yielded in
    let lists = c.args.lists.now in
    let list = c.index-lists-len.result in
    let place : c.len-in-loop-seat.result ≡ n = c.len-in-loop-seat.ensures ∙ c.loop-seat.runners.ok.0 ∙ i.count in
    let low : n < length lists = (let one_each = c.requires.one_each in let lt = turn.0 in omega arith) in
    let seat = slice_get_read c.args.seats.items (length c.args.seats.items) n c.in-Some.seat refl turn.0 turn.1 in
    let read : list ≡ get_or lists n list = c.index-lists-len.is ∙ ap (λ (k : ℕ). get_or lists k list) place in
    let copied = c.in_ok-runner.ensures.calls ∙ c.in_ok-calls.ensures.items ∙ c.as_slice.ensures.value ∙ ap (λ v. v.items) read
    ∙ sym (get_or-map (λ v. v.items) lists n list [] low) in
    let more = length_push c.loop-seat.yielded c.in-Some.seat in
    record {
      count = ap length c.in-Ok.ensures.items ∙ length_push c.loop-seat.runners.items c.in_ok-runner.runner ∙ ap (λ (m : ℕ). m + 1) i.count
          ∙ sym more;
      each = each_pushed (IsReady c.args.seats.items
          (map (λ v. v.items) lists)) c.loop-seat.runners.items c.in_ok-runner.runner n c.push.new.self.items c.in-Ok.ensures.items i.count
          i.each record {
            seat = seat ∙ ap (λ (x : CoreSeatValue). Some x) (sym c.in_ok-runner.ensures.seat);
            calls = copied;
            none = c.in_ok-runner.ensures.none;
            free = c.in_ok-runner.ensures.free;
          };
    }
