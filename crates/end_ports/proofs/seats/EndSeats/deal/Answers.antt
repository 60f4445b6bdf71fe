use Rattle.std.proofs.Common.{◌<◌, refl, ap, sym, subst, arith, length}
use Rattle.end_ports.proofs.Dealt.{as_many, others_left, first_dealt}
use Rattle.{end_ports.specs.EndPortValue, end_ports.specs.EndSeatsValue, std.specs.Arc.arc_value, end_ports.specs.Ports.IsPortDealt}
use Rattle.end_ports.proofs.seats.EndSeats.deal.Goals as goal

pub remove-end-requires : goal.remove-end-requires
remove-end-requires c =
    let m = c.self.inside in
    let few = c.in-Some.ensures.none.0 refl in
    let count = c.self.invariant.count in
    let len = m.here.ok.0 in omega arith

pub invariant_of-self : goal.invariant_of-self
invariant_of-self c =
    let m = c.self.inside in
    let few = c.in-Some.ensures.none.0 refl in
    let count = c.self.invariant.count in
    let some : 0 < length m.here.items = omega arith in
    let now = c.deal.new.self in
    as_many (arc_value m.table) m.seats.kernel.setup.cores now.kernel.setup.cores _ now.dealt c.remove-end.new.self.items
    (ap (λ k. k.setup.cores) c.deal.ensures.kernel) c.in-Some.ensures.dealt
    (others_left (arc_value m.table) m.seats.kernel.setup.cores m.seats.dealt m.here.items c.remove-end.new.self.items
    c.remove-end.ensures.items some c.self.invariant)

pub invariant_of-self-in-None : goal.invariant_of-self-in-None
invariant_of-self-in-None c =
    let m = c.self.inside in
    let now = c.deal.new.self in
    as_many (arc_value m.table) m.seats.kernel.setup.cores now.kernel.setup.cores m.seats.dealt now.dealt m.here.items
    (ap (λ k. k.setup.cores) c.deal.ensures.kernel) c.in-None.ensures.dealt c.self.invariant

pub returns-in-Some-clause-port : goal.returns-in-Some-clause-port
returns-in-Some-clause-port c =
    let m = c.self.inside in
    let few = c.in-Some.ensures.none.0 refl in
    let count = c.self.invariant.count in
    let some : 0 < length m.here.items = omega arith in
    let first = first_dealt (arc_value m.table) m.seats.kernel.setup.cores m.seats.dealt m.here.items c.remove-end.result
    c.remove-end.ensures.value some c.self.invariant in
    subst (λ (v : EndSeatsValue). IsPortDealt v c.new.result) c.self.view_is
    (subst (λ (p : EndPortValue). IsPortDealt (record { seats = m.seats; table = arc_value m.table }) p) (sym c.new.ensures)
    record { port = c.in-Some.ensures.port; end = first })
