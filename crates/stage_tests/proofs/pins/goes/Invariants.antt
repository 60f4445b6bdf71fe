use Rattle.stage_pins.specs.Acquire.{PinFits}
use Rattle.stage_tests.proofs.pins.goes.Given as goal

abbrev pub invariant-rows : goal.invariant-rows
invariant-rows l = PinFits l.layout l.pin
