use Rattle.stage_pins.proofs.PinLemmas.{gives_back}
use Rattle.stage_pins.proofs.settle.gives_back_what_it_found.Goals as goal

pub returns : goal.returns
returns c = gives_back
