use Rattle.std.proofs.Common.{ℕ, ◌∙◌, refl, subst}
use Rattle.{speck_run.specs.Orders.RunsCoreOut, speck_run.proofs.ByItems.cores_none, speck_run.proofs.ByItems.cores_more}
use Rattle.speck_run.proofs.orders.run_rest.Goals as goal

pub loop-core-init : goal.loop-core-init
loop-core-init c = record { setup = refl; lists = refl; goes = cores_none c.args.kernel.now }

pub loop-core-preserved : goal.loop-core-preserved
loop-core-preserved c =
    let i = c.loop-core.invariant in
    let s = c.run_out.ensures in
    let out : RunsCoreOut c.loop-core.kernel c.run_out.new.kernel c.loop-core.core =
    subst (λ (k : ℕ). RunsCoreOut c.loop-core.kernel c.run_out.new.kernel k) c.new.ensures s.goes in
    record {
      setup = s.setup ∙ i.setup;
      lists = s.lists ∙ i.lists;
      goes = cores_more c.args.kernel.now c.loop-core.kernel c.run_out.new.kernel c.loop-core.core i.lists i.goes out;
    }
