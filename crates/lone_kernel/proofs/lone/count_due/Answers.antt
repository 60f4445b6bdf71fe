use Rattle.std.proofs.Common.{◌∙◌, refl, ap, arith, sum_by, take_all}
use Rattle.std.proofs.lemmas.List.Sums.{sum_by_more, sum_by_more_le}
use Rattle.lone_kernel.proofs.lone.count_due.Goals as goal

pub loop-seat-init : goal.loop-seat-init
loop-seat-init c = refl

pub overflow_add-due : goal.overflow_add-due
overflow_add-due c =
    let i = c.loop-seat.invariant in
    let l = sum_by_more_le (λ seat. seat.due) c.args.seats.now c.loop-seat.seat-index c.seat-item.result c.loop-seat-test.true in
    let s = ap (λ seat. seat.due) c.seat-item.is in
    let r = c.requires in
    omega arith

pub loop-seat-preserved : goal.loop-seat-preserved
loop-seat-preserved c =
    let i = c.loop-seat.invariant in
    let m = sum_by_more (λ seat. seat.due) c.args.seats.now c.loop-seat.seat-index c.seat-item.result c.loop-seat-test.true in
    let s = ap (λ seat. seat.due) c.seat-item.is in
    omega arith

pub returns : goal.returns
returns c = c.loop-seat.invariant ∙ ap (sum_by (λ seat. seat.due)) (take_all c.loop-seat.seat-index c.args.seats.now c.loop-seat-test.false)
