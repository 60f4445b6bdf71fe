use Rattle.{std.proofs.Common.arith, stage_sweep.proofs.SweepLemmas.some_counter}
use Rattle.stage_tests.proofs.sweeps.sweep.Goals as goal

pub returns : goal.returns
returns c = rw c.new-3.ensures (record {
  frame = omega (arith, c.new.ensures, c.requires.frame);
  core = omega (arith, c.new-2.ensures, c.requires.core);
  at = some_counter c.args._layout.now (omega (arith, c.requires.core));
})
