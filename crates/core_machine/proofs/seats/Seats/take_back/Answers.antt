use Rattle.std.proofs.Common.{arith, ◌≡◌, ◌∙◌, ◌++◌, ◌≤◌, [], ◌∷◌, sym, ap, subst, length}
use Rattle.{core_kernel.specs.Kernel.CoreSeatValue, std.specs.Arc.arc_value, core_machine.specs.Seats.SeatsValue}
use Rattle.{core_machine.proofs.Dealing.back_on}
use Rattle.core_machine.proofs.seats.Seats.take_back.Goals as goal

pub invariant_of-self : goal.invariant_of-self
invariant_of-self c =
    let m = c.self.inside in
    let back = m.back.items in
    let now = c.push_reserved.new.self.items in
    let is = subst (λ (s : CoreSeatValue). now ≡ back ++ s ∷ []) c.into_seat.ensures c.push_reserved.ensures.items in
    let own = c.requires.kernel ∙ sym (ap (λ (v : SeatsValue). v.kernel) c.self.view_is) in
    let core = c.requires.core ∙ sym (ap (λ (v : SeatsValue). length v.back) c.self.view_is) in
    let all = back_on (arc_value m.kernel) m.here.items back now c.args.port is own core c.self.invariant.1 in
    (c.self.invariant.0, all, subst (λ k. m.setup.cores ≤ k) (sym c.push_reserved.ensures.capacity) c.self.invariant.2)

pub push_reserved-requires : goal.push_reserved-requires
push_reserved-requires c =
    let m = c.self.inside in
    let kernel = c.requires.kernel ∙ sym (ap (λ (v : SeatsValue). v.kernel) c.self.view_is) in
    let cores = ap (λ k. k.setup.cores) kernel ∙ ap (λ s. s.cores) c.self.invariant.0 in
    let core = c.requires.core ∙ sym (ap (λ (v : SeatsValue). length v.back) c.self.view_is) in
    let inside = c.core-core.ensures.inside in
    let len = m.back.ok.0 in
    let room = c.self.invariant.2 in omega arith
