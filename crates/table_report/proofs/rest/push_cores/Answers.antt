use Rattle.std.proofs.Common.{sym, subst, arith, ◌++◌, ◌≡◌, string_bytes}
use Rattle.table_lines.proofs.{begins, goes_on, lines_none, lines_more}
use Rattle.{table_lines.specs.kernel_history.specs.Tables.core_lines, table_lines.specs.Ends.core_shown}
use Rattle.{table_report.proofs.Lines.ends_read}
use Rattle.table_report.proofs.rest.push_cores.Goals as goal

pub cores-init : goal.cores-init
cores-init c = begins _ _ (lines_none _)

pub cores-preserved : goal.cores-preserved
cores-preserved c = goes_on _ _ _ _ _ _
    (subst (λ e. string_bytes c.push_core.new.text ≡ string_bytes c.cores.text ++ core_lines c.cores.core (core_shown e) e.comp)
    (sym (ends_read c.args.ends.now c.cores.core c.index-ends-core.result (omega arith) c.index-ends-core.is))
    c.in_ok-push_core.ensures)
    c.cores.invariant (lines_more _ _)
