use Rattle.std.proofs.Common.{◌<◌, ◌∙◌, sym, subst, refl, vec_capacity}
use Rattle.core_machine.proofs.Dealing.{AreFirst, none_yet, one_more, room_left, fewer_left, all_dealt}
use Rattle.core_machine.proofs.named.SeatsOf.deal_all.Goals as goal

pub cores-init : goal.cores-init
cores-init g c =
    let ports = c.in_ok-ports.ports in
    none_yet (λ p. p.port) c.args.self.now.seats (vec_capacity ports) c.left.result ports.items c.in_ok-ports.ensures.items
    c.in_ok-ports.ensures.exact c.left.ensures

pub push_reserved-requires : goal.push_reserved-requires
push_reserved-requires g c =
    let ports = c.cores.ports in
    subst (λ n. n < vec_capacity ports) (sym ports.ok.0) (room_left (λ p. p.port) c.args.self.now.seats c.cores.self.seats
    (vec_capacity ports) ports.items (c.in-Some.ensures.none.0 refl) c.cores.invariant)

pub cores-smaller : goal.cores-smaller
cores-smaller g c =
    let ports = c.cores.ports in
    fewer_left (vec_capacity ports) (vec_capacity c.push_reserved.new.self) ports.items c.push_reserved.new.self.items c.in-Some.port
    c.push_reserved.ensures.items c.push_reserved.ensures.capacity (room_left (λ p. p.port) c.args.self.now.seats c.cores.self.seats
    (vec_capacity ports) ports.items (c.in-Some.ensures.none.0 refl) c.cores.invariant)

pub cores-preserved : goal.cores-preserved
cores-preserved g c =
    let ports = c.cores.ports in
    let deal = c.in-Some.ensures in
    let more = one_more (λ p. p.port) c.args.self.now.seats c.cores.self.seats c.deal.new.self.seats (vec_capacity ports) ports.items
    c.push_reserved.new.self.items c.in-Some.port c.push_reserved.ensures.items deal.kernel deal.back deal.dealt (deal.none.0 refl)
    deal.port c.cores.invariant in
    subst (λ n. AreFirst (λ p. p.port) c.args.self.now.seats c.deal.new.self.seats n c.push_reserved.new.self.items)
    (sym c.push_reserved.ensures.capacity) more

pub returns-clause-count : goal.returns-clause-count
returns-clause-count g c = (all_dealt (λ p. p.port) c.args.self.now.seats c.cores.self.seats c.deal.new.self.seats
    (vec_capacity c.cores.ports) c.cores.ports.items (λ h. let e = c.in_default.ensures.none.1 h in absurd (cc))
    c.in_default.ensures.dealt c.cores.invariant).0

pub returns-clause-each : goal.returns-clause-each
returns-clause-each g c = c.cores.invariant.each

pub returns-clause-dealt : goal.returns-clause-dealt
returns-clause-dealt g c = (all_dealt (λ p. p.port) c.args.self.now.seats c.cores.self.seats c.deal.new.self.seats
    (vec_capacity c.cores.ports) c.cores.ports.items (λ h. let e = c.in_default.ensures.none.1 h in absurd (cc))
    c.in_default.ensures.dealt c.cores.invariant).1

pub returns-clause-back : goal.returns-clause-back
returns-clause-back g c = c.in_default.ensures.back ∙ c.cores.invariant.back

pub returns-clause-kernel : goal.returns-clause-kernel
returns-clause-kernel g c = c.in_default.ensures.kernel ∙ c.cores.invariant.kernel
