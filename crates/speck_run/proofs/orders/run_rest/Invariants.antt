use Rattle.{std.proofs.Common.◌≡◌, speck_run.specs.Orders.RunsCoresOut}
use Rattle.speck_run.proofs.orders.run_rest.Given as goal

abbrev pub invariant-loop-core : goal.invariant-loop-core
invariant-loop-core l = record {
  setup : l.kernel.setup ≡ l.initial.kernel.setup;
  lists : l.kernel.lists ≡ l.initial.kernel.lists;
  goes : RunsCoresOut l.initial.kernel l.kernel l.core;
}
