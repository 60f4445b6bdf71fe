use Rattle.{std.proofs.Common.◌≡◌, stage_pins.specs.Acquire.pin_after, stage_pins.proofs.PinLemmas.after_fits}
use Rattle.stage_pins.proofs.pin.Pin.take.Goals as goal

pub returns-clause-fits : goal.returns-clause-fits
returns-clause-fits c =
    let after : c.took-took.result.0 ≡ pin_after c.args.self.now c.args.found = c.took-took.ensures.after in
    rw after (after_fits c.args.layout.now c.args.self.now c.args.found c.requires)
