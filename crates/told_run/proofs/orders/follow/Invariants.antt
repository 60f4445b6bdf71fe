use Rattle.{std.proofs.Common.◌≡◌, std.proofs.Common.take, told_run.specs.Watching.GoesByItems}
use Rattle.told_run.proofs.orders.follow.Given as goal

abbrev pub invariant-loop-item : goal.invariant-loop-item
invariant-loop-item g l = record {
  setup : l.kernel.setup ≡ l.initial.kernel.setup;
  lists : l.kernel.lists ≡ l.initial.kernel.lists;
  goes : GoesByItems g.W.Watcher.has_seen record { machine = l.initial.kernel; watcher = l.initial.watcher }
      record { machine = l.kernel; watcher = l.watcher } (take l.item-index l.items);
}
