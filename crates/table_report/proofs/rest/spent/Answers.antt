use Rattle.table_lines.specs.kernel_history.proofs.{◌-◌, sym, ap, arith, ◌≡◌, sum_none, sum_more, outstanding}
use Rattle.{table_lines.specs.Ends.core_shown, table_report.specs.Shown.core_shown_at, table_report.proofs.Lines.ends_read}
use Rattle.table_report.proofs.rest.spent.Goals as goal

pub cores-init : goal.cores-init
cores-init c = record { sum = sym (sum_none _); most = omega arith }

pub cores-preserved : goal.cores-preserved
cores-preserved c =
    let e : outstanding (core_shown_at c.args.ends.now c.cores.core) ≡ c.index-ends-core.result.spent - c.index-ends-core.result.back =
    ap (λ e. outstanding (core_shown e))
    (ends_read c.args.ends.now c.cores.core c.index-ends-core.result (omega arith) c.index-ends-core.is) in
    let m = sum_more (λ k. outstanding (core_shown_at c.args.ends.now k)) c.cores.core in
    let r = ap (λ e. e.spent - e.back) c.index-ends-core.is in
    record {
      sum = omega (arith, m, e, r, c.saturating_sub.ensures);
      most = omega (arith, c.saturating_sub.ensures);
    }
