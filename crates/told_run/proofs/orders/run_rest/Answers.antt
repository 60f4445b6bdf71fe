use Rattle.std.proofs.Common.{ℕ, ◌∙◌, refl, subst}
use Rattle.{told_run.specs.Watching.RunsCoreOut, told_run.proofs.Items.cores_none, told_run.proofs.Items.cores_more}
use Rattle.told_run.proofs.orders.run_rest.Goals as goal

pub loop-core-init : goal.loop-core-init
loop-core-init g c = record {
  setup = refl;
  lists = refl;
  goes = cores_none g.W.Watcher.has_seen record { machine = c.args.kernel.now; watcher = c.args.watcher.now };
}

pub loop-core-preserved : goal.loop-core-preserved
loop-core-preserved g c =
    let i = c.loop-core.invariant in
    let s = c.run_out.ensures in
    let out : RunsCoreOut g.W.Watcher.has_seen record { machine = c.loop-core.kernel; watcher = c.loop-core.watcher }
    record { machine = c.run_out.new.kernel; watcher = c.run_out.new.watcher } c.loop-core.core =
    subst (λ (k : ℕ). RunsCoreOut g.W.Watcher.has_seen record { machine = c.loop-core.kernel; watcher = c.loop-core.watcher }
    record { machine = c.run_out.new.kernel; watcher = c.run_out.new.watcher } k) c.new.ensures c.in_ok-run_out.ensures.goes in
    record {
      setup = s.setup ∙ i.setup;
      lists = s.lists ∙ i.lists;
      goes = cores_more g.W.Watcher.has_seen record { machine = c.args.kernel.now; watcher = c.args.watcher.now }
          record { machine = c.loop-core.kernel; watcher = c.loop-core.watcher }
          record { machine = c.run_out.new.kernel; watcher = c.run_out.new.watcher } c.loop-core.core i.lists i.goes out;
    }
