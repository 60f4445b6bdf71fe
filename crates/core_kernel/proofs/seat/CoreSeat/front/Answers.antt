use Rattle.flight_laws.specs.flight.proofs.{◌<◌, ◌∙◌, ap, subst, state_after}
use Rattle.core_kernel.specs.Calls.{HasSeen}
use Rattle.core_kernel.proofs.Seats.{has_seen, front_core, front_calls, front_inside}
use Rattle.core_kernel.proofs.seat.CoreSeat.front.Goals as goal

pub returns-clause-core : goal.returns-clause-core
returns-clause-core c =
    c.core.ensures ∙ ap (λ p. p.state.own.core) c.program-program.ensures.program
    ∙ front_core c.self.inside.setup c.self.inside.seat c.self.invariant ∙ ap (λ s. s.core) c.self.view_is

pub returns-clause-calls : goal.returns-clause-calls
returns-clause-calls c =
    c.made.ensures ∙ ap (λ p. p.state.own.made) c.program-program.ensures.program
    ∙ front_calls c.self.inside.setup c.self.inside.seat c.self.invariant
    ∙ ap (λ s. ((state_after s.kernel.setup s.seen).core s.core).counted) c.self.view_is

pub returns-clause-seen : goal.returns-clause-seen
returns-clause-seen c = subst HasSeen c.self.view_is (has_seen c.self.inside.setup c.self.inside.seat c.self.invariant)

pub returns-clause-inside : goal.returns-clause-inside
returns-clause-inside c = subst (λ s. s.core < s.kernel.setup.cores) c.self.view_is
    (front_inside c.self.inside.setup c.self.inside.seat c.self.invariant)
