use Rattle.{std.proofs.Common.◌∙◌, turn_rule.proofs.Traces.extends_on}
use Rattle.turn_tests.proofs.counting.count_many.Goals as goal

pub loop-preserved : goal.loop-preserved
loop-preserved c = let made = c.count.ensures.makes in let before = c.loop.invariant.1 in (
  c.count.ensures.idle,
  record {
    begins = extends_on _ _ _ before.begins made.begins;
    core = made.core ∙ before.core;
    table = made.table ∙ before.table;
  },
)
