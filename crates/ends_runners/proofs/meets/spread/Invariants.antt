use Rattle.{ends_runners.specs.AreOf, ends_runners.specs.HasSpread, std.proofs.Common.◌<◌}
use Rattle.ends_runners.proofs.meets.spread.Given as goal

abbrev pub invariant-loop-core : goal.invariant-loop-core
invariant-loop-core l = record {
  spreaded : HasSpread l.core l.initial.seats.items l.seats.items;
  some : 0 < l.core;
  seats : AreOf l.kernel l.seats.items;
}
