use Rattle.table_lines.specs.kernel_history.proofs.{sym, arith, ◌≡◌, tcap_in, sum_none, sum_more}
use Rattle.table_report.specs.Shown.{frame_at}
use Rattle.table_report.proofs.frames.budgets.Goals as goal

pub frames-init : goal.frames-init
frames-init c = record { sum = sym (sum_none _); most = omega arith }

pub frames-preserved : goal.frames-preserved
frames-preserved c =
    let e : c.frame_budget.result ≡ (tcap_in (frame_at c.args.image.now.shape c.args.image.now.words c.frames.frame)).budget =
    rw c.new.ensures at c.frame_budget.ensures in
    let m = sum_more (λ f. (tcap_in (frame_at c.args.image.now.shape c.args.image.now.words f)).budget) c.frames.frame in
    record { sum = omega (arith, m, e); most = omega arith }
