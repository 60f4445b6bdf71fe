use Rattle.{std.proofs.Common.◌≡◌, trace_run.specs.lone_kernel.specs.Moves.calls_left, speck_run.specs.Orders.GoesByCore}
use Rattle.speck_run.proofs.orders.run_out.Given as goal

abbrev pub invariant-going : goal.invariant-going
invariant-going l = record {
  setup : l.kernel.setup ≡ l.initial.kernel.setup;
  lists : l.kernel.lists ≡ l.initial.kernel.lists;
  goes : GoesByCore l.initial.kernel l.kernel l.core;
}

abbrev pub decreases-going : goal.decreases-going
decreases-going l = calls_left l.kernel l.core
