use Rattle.std.proofs.Common.{rules, ◌≡◌, ◌∙◌, ◌<◌, ◌+◌, ℕ, [], length, get_or, map, drop, refl, sym, ap, arith, get_or-drop, drop-drop}
use Rattle.std.proofs.{lemmas.Option.slice_get_read, lemmas.Iterator.Consumers.YieldsList-turn}
use Rattle.{std.proofs.Common.Some, std.proofs.lemmas.List.length_push, std.proofs.lemmas.List.get_or-map}
use Rattle.{std.proofs.lemmas.Iterator.Adapters.YieldsList-from_vec, core_kernel.specs.turn_rule.proofs.AllSeats.each_pushed}
use Rattle.{core_kernel.specs.Kernel.CoreSeatValue, async_ends.specs.Tables.EndSeatValue, ends_runners.specs.Runners.IsReady}
use Rattle.ends_runners.proofs.parts.end_runners.Goals as goal

pub loop-seat-preserved : goal.loop-seat-preserved
loop-seat-preserved c =
    let turn = YieldsList-turn (YieldsList-from_vec {s = c.into_iter-seat-iterator.result} c.args.seats.items (search rules)
    (search rules)) c.loop-seat.yielded c.loop-seat.seat-iterator c.loop-seat.yielded_by c.next.result c.next.new.self
    c.in-Some.seat c.in-Some.is c.next.ensures.steps in
    let i = c.loop-seat.invariant in
    let n : ℕ = length c.loop-seat.yielded in
    let asks = c.args.asks.now in
    let list = c.index-asks-at.result in
    let place : c.len-at.result ≡ n = c.len-at.ensures ∙ c.loop-seat.runners.ok.0 ∙ i.count in
    let low : n < length asks = (let one_each = c.requires.one_asks_each in let lt = turn.0 in omega arith) in
    let seat = slice_get_read c.args.seats.items (length c.args.seats.items) n c.in-Some.seat refl turn.0 turn.1 in
    let read : list ≡ get_or asks n list = c.index-asks-at.is ∙ ap (λ (k : ℕ). get_or asks k list) place in
    let copied = c.in_ok-runner.ensures.asks ∙ c.in_ok-asked.ensures.items ∙ c.as_slice.ensures.value ∙ ap (λ v. v.items) read
    ∙ sym (get_or-map (λ v. v.items) asks n list [] low) in
    let more = length_push c.loop-seat.yielded c.in-Some.seat in
    let end = c.remove-end.result in
    let here : end ≡ get_or c.args.ends.items n end = c.remove-end.ensures.value ∙ ap (λ l. get_or l 0 end) i.rest
    ∙ get_or-drop n c.args.ends.items 0 end ∙ ap (λ (k : ℕ). get_or c.args.ends.items k end) (omega arith) in
    let inside : n < length c.args.ends.items = (let one_each = c.requires.one_end_each in let lt = turn.0 in omega arith) in
    let seat_there = slice_get_read c.args.ends.items (length c.args.ends.items) n end refl inside here in
    record {
      rest = c.remove-end.ensures.by_index.2 ∙ ap (drop 1) i.rest ∙ drop-drop 1 n c.args.ends.items
          ∙ ap (λ (k : ℕ). drop k c.args.ends.items) (sym more);
      count = ap length c.in-Ok.ensures.items ∙ length_push c.loop-seat.runners.items c.in_ok-runner.runner ∙ ap (λ (m : ℕ). m + 1) i.count
          ∙ sym more;
      each = each_pushed (IsReady c.args.seats.items c.args.ends.items
          (map (λ v. v.items) asks)) c.loop-seat.runners.items c.in_ok-runner.runner n c.push.new.self.items c.in-Ok.ensures.items i.count
          i.each record {
            seat = seat ∙ ap (λ (x : CoreSeatValue). Some x) (sym (c.in_ok-runner.ensures.who ∙ c.new-who.ensures));
            end = seat_there ∙ ap (λ (x : EndSeatValue). Some x) (sym c.in_ok-runner.ensures.seat);
            asked = copied;
            none = c.in_ok-runner.ensures.none;
            free = c.in_ok-runner.ensures.free;
          };
    }
