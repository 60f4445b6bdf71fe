use Rattle.lone_kernel.specs.call_stages.specs.act_states.proofs.{◌∙◌, refl, subst, Return}
use Rattle.{told_run.specs.Watching.IsToldMove, told_run.proofs.Items.alone_none, told_run.proofs.Items.alone_more}
use Rattle.told_run.proofs.orders.run_out.Goals as goal

pub going-init : goal.going-init
going-init g c = record {
  setup = refl;
  lists = refl;
  goes = alone_none g.W.Watcher.has_seen record { machine = c.args.kernel.now; watcher = c.args.watcher.now } c.args.core;
}

pub going-preserved : goal.going-preserved
going-preserved g c =
    let i = c.going.invariant in
    let s = c.move_told.ensures in
    let went = subst (λ m. IsToldMove g.W.Watcher.has_seen m Return record { machine = c.going.kernel; watcher = c.going.watcher }
    record { machine = c.move_told.new.kernel; watcher = c.move_told.new.watcher } c.args.core) c.in-Went.is c.in_ok-move_told.ensures.goes in
    record {
      setup = s.setup ∙ i.setup;
      lists = s.lists ∙ i.lists;
      goes = alone_more g.W.Watcher.has_seen record { machine = c.args.kernel.now; watcher = c.args.watcher.now }
          record { machine = c.going.kernel; watcher = c.going.watcher }
          record { machine = c.move_told.new.kernel; watcher = c.move_told.new.watcher } c.args.core i.goes went;
    }
