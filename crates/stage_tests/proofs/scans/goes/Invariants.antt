use Rattle.stage_quiet.specs.Scan.{QuietFits}
use Rattle.stage_tests.proofs.scans.goes.Given as goal

abbrev pub invariant-rows : goal.invariant-rows
invariant-rows l = QuietFits l.layout l.scan
