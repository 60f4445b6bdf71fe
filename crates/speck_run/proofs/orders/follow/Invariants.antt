use Rattle.{std.proofs.Common.◌≡◌, std.proofs.Common.take, speck_run.specs.Orders.GoesByItems}
use Rattle.speck_run.proofs.orders.follow.Given as goal

abbrev pub invariant-loop-item : goal.invariant-loop-item
invariant-loop-item l = record {
  setup : l.kernel.setup ≡ l.initial.kernel.setup;
  lists : l.kernel.lists ≡ l.initial.kernel.lists;
  goes : GoesByItems l.initial.kernel l.kernel (take l.item-index l.items);
}
