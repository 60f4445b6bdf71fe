use Rattle.stage_pins.proofs.PinLemmas.{expects_found}
use Rattle.stage_pins.proofs.pin.acquires_what_it_found.Goals as goal

pub returns : goal.returns
returns c = expects_found
