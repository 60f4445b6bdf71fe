use Rattle.std.proofs.Common.{◌≡◌, ◌≤◌, ◌+◌, length, drop}
use Rattle.sched_rules.specs.Texts.{come_by}
use Rattle.sched_text.proofs.come_by.Given as goal

abbrev pub invariant-turns : goal.invariant-turns
invariant-turns l = record { few : l.come + l.index ≤ length l.turns; come : l.come ≡ come_by l.task (drop l.index l.turns) }

abbrev pub decreases-turns : goal.decreases-turns
decreases-turns l = l.index
