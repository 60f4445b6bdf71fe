use Rattle.std.proofs.Common.{◌∙◌, ap, sym, length}
use Rattle.{std.specs.Arc.arc_value, end_ports.specs.Ports.EndSeatsValue, end_ports.proofs.Dealt.as_many}
use Rattle.end_ports.proofs.seats.EndSeats.take_back.Goals as goal

pub take_back-requires-clause-kernel : goal.take_back-requires-clause-kernel
take_back-requires-clause-kernel c = ap (λ p. p.kernel) c.into_port.ensures ∙ c.requires.kernel
    ∙ sym (ap (λ (v : EndSeatsValue). v.seats.kernel) c.self.view_is)

pub take_back-requires-clause-core : goal.take_back-requires-clause-core
take_back-requires-clause-core c = ap (λ p. p.core) c.into_port.ensures ∙ c.requires.core
    ∙ sym (ap (λ (v : EndSeatsValue). length v.seats.back) c.self.view_is)

pub invariant_of-self : goal.invariant_of-self
invariant_of-self c =
    let m = c.self.inside in
    let now = c.take_back.new.self in
    as_many (arc_value m.table) m.seats.kernel.setup.cores now.kernel.setup.cores m.seats.dealt now.dealt m.here.items
    (ap (λ k. k.setup.cores) c.take_back.ensures.kernel) c.take_back.ensures.dealt c.self.invariant
