use Rattle.{std.proofs.Common.◌≡◌, told_run.specs.Watching.RunsCoresOut}
use Rattle.told_run.proofs.orders.run_rest.Given as goal

abbrev pub invariant-loop-core : goal.invariant-loop-core
invariant-loop-core g l = record {
  setup : l.kernel.setup ≡ l.initial.kernel.setup;
  lists : l.kernel.lists ≡ l.initial.kernel.lists;
  goes : RunsCoresOut g.W.Watcher.has_seen record { machine = l.initial.kernel; watcher = l.initial.watcher }
      record { machine = l.kernel; watcher = l.watcher } l.core;
}
