use Rattle.table_lines.specs.kernel_history.proofs.{◌≡◌, length, arith, ap, sum_below, outstanding}
use Rattle.table_report.specs.Shown.{core_shown_at}
use Rattle.table_report.proofs.whole.total_ticks.Goals as goal

pub returns : goal.returns
returns c =
    let cores = ap (sum_below (λ k. outstanding (core_shown_at c.args.image.now.ends k))) c.ends.ensures.size in
    let spent : c.spent.result ≡ sum_below (λ k. outstanding (core_shown_at c.args.image.now.ends k)) (length c.args.image.now.ends) =
    rw c.ends.ensures.value at c.spent.ensures.sum in
    omega (arith, c.from.ensures, c.budgets.ensures.sum, spent, cores)
