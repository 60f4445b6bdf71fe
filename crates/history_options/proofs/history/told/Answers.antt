use Rattle.history_options.proofs.Places.{break_told}
use Rattle.history_options.proofs.history.told.Goals as goal

pub returns-in_ok-text-in-Broken : goal.returns-in_ok-text-in-Broken
returns-in_ok-text-in-Broken c =
    break_told c.args.setup.now c.args.lines.now c.before_at-before.result.now c.line_at-line.result.now c.in-Broken.at c.in-Broken.why _
    c.before_at-before.ensures.value c.line_at-line.ensures (rw c.in-Broken.is at c.in_ok-finding.ensures) c.in_ok-text-in-Broken.ensures
