use Rattle.{std.proofs.Common.◌≡◌, lone_kernel.specs.Moves.calls_left, told_run.specs.Watching.GoesByCore}
use Rattle.told_run.proofs.orders.run_out.Given as goal

abbrev pub invariant-going : goal.invariant-going
invariant-going g l = record {
  setup : l.kernel.setup ≡ l.initial.kernel.setup;
  lists : l.kernel.lists ≡ l.initial.kernel.lists;
  goes : GoesByCore g.W.Watcher.has_seen record { machine = l.initial.kernel; watcher = l.initial.watcher }
      record { machine = l.kernel; watcher = l.watcher } l.core;
}

abbrev pub decreases-going : goal.decreases-going
decreases-going g l = calls_left l.kernel l.core
