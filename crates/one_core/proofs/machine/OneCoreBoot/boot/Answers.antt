use Rattle.core_kernel.specs.flight_laws.specs.flight.proofs.{◌≡◌, ◌∙◌, ap, calls_of, Trace, Setting}
use Rattle.{core_kernel.specs.Kernel.KernelValue, one_core.proofs.Seats.only_seat}
use Rattle.one_core.proofs.machine.OneCoreBoot.boot.Goals as goal

pub invariant_of-result : goal.invariant_of-result
invariant_of-result c =
    let kernel = c.in_ok-kernel.kernel in
    let one : kernel.setup.cores ≡ 1 = ap (λ (s : Setting). s.cores) c.in_ok-kernel.ensures.setup ∙ c.requires.one_core in
    let seat = only_seat kernel c.in_ok-kernel.seats.items c.pop.new.self.items c.in-Some.seat one c.in_ok-kernel.ensures.seats
    c.in_ok-kernel.ensures.fresh c.in-Some.ensures.items in
    (seat.kernel, seat.core, ap (λ (k : KernelValue). k.setup.cores) seat.kernel ∙ one)

pub returns-clause-setup : goal.returns-clause-setup
returns-clause-setup c =
    let kernel = c.in_ok-kernel.kernel in
    let one : kernel.setup.cores ≡ 1 = ap (λ (s : Setting). s.cores) c.in_ok-kernel.ensures.setup ∙ c.requires.one_core in
    let seat = only_seat kernel c.in_ok-kernel.seats.items c.pop.new.self.items c.in-Some.seat one c.in_ok-kernel.ensures.seats
    c.in_ok-kernel.ensures.fresh c.in-Some.ensures.items in
    ap (λ (k : KernelValue). k.setup) seat.kernel ∙ c.in_ok-kernel.ensures.setup

pub returns-clause-fresh : goal.returns-clause-fresh
returns-clause-fresh c =
    let kernel = c.in_ok-kernel.kernel in
    let one : kernel.setup.cores ≡ 1 = ap (λ (s : Setting). s.cores) c.in_ok-kernel.ensures.setup ∙ c.requires.one_core in
    let seat = only_seat kernel c.in_ok-kernel.seats.items c.pop.new.self.items c.in-Some.seat one c.in_ok-kernel.ensures.seats
    c.in_ok-kernel.ensures.fresh c.in-Some.ensures.items in
    ap (λ (t : Trace). calls_of t 0) seat.fresh
