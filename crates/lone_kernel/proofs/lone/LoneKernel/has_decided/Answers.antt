use Rattle.std.proofs.Common.{◌<◌, ap, arith}
use Rattle.{lone_kernel.specs.Machine.IsFitSeat, lone_kernel.proofs.OneStep.fit_here}
use Rattle.lone_kernel.proofs.lone.LoneKernel.has_decided.Goals as goal

pub overflow_sub-result : goal.overflow_sub-result
overflow_sub-result c =
    let n = c.number.ensures.value in
    let f = c.from-at.ensures in
    let r : c.args.core < c.args.self.now.setup.cores = c.requires in
    let v = ap (λ m. m.setup.cores) c.self.view_is in
    let here : c.from-at.result < c.self.inside.setup.cores = omega arith in
    let fit : IsFitSeat c.self.inside.setup c.index.result.now.items c.from-at.result c.index-seat.result.now =
    fit_here (λ v. v.items) c.self.inside.setup c.self.inside.words.items c.self.inside.lists.items c.self.inside.seats.items
    c.self.inside.decisions.items c.from-at.result c.index.result.now c.index-seat.result.now c.self.invariant.0 here
    c.index.ensures c.index-seat.ensures in
    let begun = fit.begun in
    let len = c.len.ensures in
    omega arith
