use Rattle.{std.proofs.Common.◌∙◌, std.proofs.Common.refl, speck_run.proofs.ByItems.alone_none, speck_run.proofs.ByItems.alone_more}
use Rattle.speck_run.proofs.orders.run_out.Goals as goal

pub going-init : goal.going-init
going-init c = record { setup = refl; lists = refl; goes = alone_none c.args.kernel.now c.args.core }

pub going-preserved : goal.going-preserved
going-preserved c =
    let i = c.going.invariant in
    let s = c.to_return.ensures in
    record {
      setup = s.setup ∙ i.setup;
      lists = s.lists ∙ i.lists;
      goes = alone_more c.args.kernel.now c.going.kernel c.to_return.new.self c.args.core i.goes c.in-Went.ensures.goes;
    }
