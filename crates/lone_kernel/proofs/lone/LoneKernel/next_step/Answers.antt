use Rattle.std.proofs.Common.{◌≡◌, ◌<◌, ◌∙◌, Some, sym, ap, subst, arith}
use Rattle.lone_kernel.specs.{Machine.turn_of, Shown.IsNextView}
use Rattle.lone_kernel.proofs.{OneStep.fit_here, Shown.can_here, Shown.next_shown, lone.LoneKernel.next_step.Goals.In-Some}
use Rattle.lone_kernel.proofs.lone.LoneKernel.next_step.Goals as goal

at : (c : In-Some) → c.from-at.result < c.self.inside.setup.cores
at c =
    let n = c.number.ensures.value in
    let f = c.from-at.ensures in
    let r : c.args.core < c.args.self.now.setup.cores = c.requires in
    let v = ap (λ m. m.setup.cores) c.self.view_is in
    omega arith

core_is : (c : In-Some) → c.from-at.result ≡ c.args.core
core_is c = let n = c.number.ensures.value in let f = c.from-at.ensures in omega arith

begins : (c : In-Some) → turn_of c.index.result.now.items c.index-seat.result.now ≡ Some c.in-Some.turn
begins c = sym c.turn.ensures ∙ c.in-Some.is

pub view_at-requires-clause-can : goal.view_at-requires-clause-can
view_at-requires-clause-can c =
    let i = (goal.at.view_at-requires-clause-can c).In-Some in
    can_here (λ v. v.items) c.self.inside.setup c.self.inside.words.items c.self.inside.lists.items c.self.inside.seats.items
    c.self.inside.decisions.items c.from-at.result c.index.result.now c.index-seat.result.now c.self.invariant.0 (at i) c.index.ensures
    c.index-seat.ensures c.in-Some.turn (begins i)

pub view_at-requires-clause-machine : goal.view_at-requires-clause-machine
view_at-requires-clause-machine c =
    let i = (goal.at.view_at-requires-clause-machine c).In-Some in
    c.self.invariant.1 ∙ sym (fit_here (λ v. v.items) c.self.inside.setup c.self.inside.words.items c.self.inside.lists.items
    c.self.inside.seats.items c.self.inside.decisions.items c.from-at.result c.index.result.now c.index-seat.result.now
    c.self.invariant.0 (at i) c.index.ensures c.index-seat.ensures).shape

pub returns-in-Some-clause-shows : goal.returns-in-Some-clause-shows
returns-in-Some-clause-shows c =
    let i = (goal.at.returns-in-Some-clause-shows c).In-Some in
    next_shown (λ v. v.items) c.self.inside.setup c.self.inside.words.items c.self.inside.lists.items c.self.inside.seats.items
    c.self.inside.decisions.items c.from-at.result c.index.result.now c.index-seat.result.now c.self.invariant.0 (at i) c.index.ensures
    c.index-seat.ensures c.self.inside.layout c.in-Some.turn c.view_at.result c.args.self.now c.args.core c.self.invariant.1 (begins i)
    (subst (λ w. IsNextView c.self.inside.layout c.index-seat.result.now c.in-Some.turn w c.view_at.result) c.deref.ensures.value
    c.view_at.ensures) c.self.invariant.2 c.self.view_is (core_is i)
