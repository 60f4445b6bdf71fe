use Rattle.trace_run.specs.lone_kernel.specs.flight.proofs.{◌∙◌, refl, ap, sym, subst, take, ◌++◌, ◌∷◌, [], take_more}
use Rattle.{speck_run.specs.Orders.GoesByItems, speck_run.proofs.ByItems.items_none, speck_run.proofs.ByItems.items_more}
use Rattle.speck_run.proofs.orders.follow.Goals as goal

pub loop-item-init : goal.loop-item-init
loop-item-init c = record { setup = refl; lists = refl; goes = items_none c.args.kernel.now }

pub loop-item-preserved : goal.loop-item-preserved
loop-item-preserved c =
    let i = c.loop-item.invariant in
    let s = c.take.ensures in
    let so_far = take c.loop-item.item-index c.args.items.now in
    let items = take_more c.args.items.now c.loop-item.item-index c.item-item.result c.loop-item-test.true
    ∙ ap (λ x. so_far ++ x ∷ []) (sym c.item-item.is) in
    record {
      setup = s.setup ∙ i.setup;
      lists = s.lists ∙ i.lists;
      goes = subst (λ l. GoesByItems c.args.kernel.now c.take.new.kernel l) (sym items)
          (items_more c.args.kernel.now c.loop-item.kernel c.take.new.kernel so_far c.item-item.result i.setup i.lists i.goes s.goes);
    }
