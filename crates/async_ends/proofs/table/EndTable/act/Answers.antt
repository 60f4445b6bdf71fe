use Rattle.std.proofs.Common.{◌<◌, ◌+◌, ap, ◌∙◌, sym, subst}
use Rattle.async_ends.specs.{most_calls, seat_value, Calls.Acts, Running.reply_of}
use Rattle.async_ends.proofs.Made.{answered, still_seat, acts}
use Rattle.async_ends.proofs.table.EndTable.act.Goals as goal

pub invariant_of-seat : goal.invariant_of-seat
invariant_of-seat c =
    let s = c.seat.inside in
    let l = c.args.look.now in
    let few : s.made < most_calls = subst (λ n. n < most_calls) (sym (ap (λ z. z.made) c.seat.view_is)) c.requires.few in
    let a = answered c.args.op c.number-frame.result l s.seat c.call.new.seat c.call.ensures.makes in
    still_seat s.frames s.cores s.made s.seat c.seat.invariant c.args.op c.number-frame.result l c.call.new.seat a c.call.ensures.follows
    few

pub returns : goal.returns
returns c =
    let s = c.seat.inside in
    let new = c.call.new.seat in
    let f = c.number-frame.result in
    let l = c.args.look.now in
    let a = answered c.args.op f l s.seat new c.call.ensures.makes in
    let now = invariant_of-seat c in
    let last = ap (λ p. p.last) (c.behind-seat.view_is ∙ c.program.ensures.program) in
    let made = acts s.frames s.cores s.made s.seat c.seat.invariant c.args.op f l c.reply.result new a now
    (c.reply.ensures ∙ ap reply_of last) in
    record {
      acts = subst (λ n. Acts c.args.op n l c.reply.result c.args.seat.now (seat_value s.frames s.cores (s.made + 1) new))
          c.number-frame.ensures.value
          (subst (λ z. Acts c.args.op f l c.reply.result z (seat_value s.frames s.cores (s.made + 1) new)) c.seat.view_is made);
    }
