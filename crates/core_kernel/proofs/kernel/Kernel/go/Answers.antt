use Rattle.core_kernel.proofs.{Turns.whole_goes, Turns.whole_ends, Seats.seat_fits}
use Rattle.core_kernel.proofs.kernel.Kernel.go.Goals as goal

pub whole-requires-clause-ready : goal.whole-requires-clause-ready
whole-requires-clause-ready c = record {
  fits = seat_fits c.args.self.now.setup c.args.seat.now c.requires.seat;
  between = c.requires.seat.between;
  limits = c.requires.limits;
}

pub returns-clause-goes : goal.returns-clause-goes
returns-clause-goes c =
    whole_goes c.args.self.now.setup c.args.seat.now c.whole.new.seat c.args.call c.requires.seat.booted c.requires.seat.follows
    c.whole.ensures.makes

pub returns-clause-between : goal.returns-clause-between
returns-clause-between c = whole_ends c.args.seat.now c.whole.new.seat c.args.call c.whole.ensures.makes
