use Rattle.lone_kernel.specs.flight.proofs.{◌∙◌, refl, ap, sym, subst, take, ◌++◌, ◌∷◌, [], take_more}
use Rattle.{told_run.specs.Watching.GoesByItems, told_run.proofs.Items.items_none, told_run.proofs.Items.items_more}
use Rattle.told_run.proofs.orders.follow.Goals as goal

pub loop-item-init : goal.loop-item-init
loop-item-init g c = record {
  setup = refl;
  lists = refl;
  goes = items_none g.W.Watcher.has_seen record { machine = c.args.kernel.now; watcher = c.args.watcher.now };
}

pub loop-item-preserved : goal.loop-item-preserved
loop-item-preserved g c =
    let i = c.loop-item.invariant in
    let s = c.take.ensures in
    let so_far = take c.loop-item.item-index c.args.items.now in
    let items = take_more c.args.items.now c.loop-item.item-index c.item-item.result c.loop-item-test.true
    ∙ ap (λ x. so_far ++ x ∷ []) (sym c.item-item.is) in
    record {
      setup = s.setup ∙ i.setup;
      lists = s.lists ∙ i.lists;
      goes = subst (λ l. GoesByItems g.W.Watcher.has_seen record { machine = c.args.kernel.now; watcher = c.args.watcher.now }
          record { machine = c.take.new.kernel; watcher = c.take.new.watcher } l) (sym items)
          (items_more g.W.Watcher.has_seen record { machine = c.args.kernel.now; watcher = c.args.watcher.now }
          record { machine = c.loop-item.kernel; watcher = c.loop-item.watcher }
          record { machine = c.take.new.kernel; watcher = c.take.new.watcher } so_far c.item-item.result i.setup i.lists i.goes
          c.in_ok-take.ensures.goes);
    }
