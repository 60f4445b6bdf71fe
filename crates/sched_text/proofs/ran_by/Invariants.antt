use Rattle.{std.proofs.Common.◌≡◌, std.proofs.Common.◌≤◌, std.proofs.Common.length, std.proofs.Common.drop, sched_rules.specs.Texts.ran_by}
use Rattle.sched_text.proofs.ran_by.Given as goal

abbrev pub invariant-turns : goal.invariant-turns
invariant-turns l = record { most : l.index ≤ length l.turns; ran : l.ran ≡ ran_by l.task (drop l.index l.turns) }

abbrev pub decreases-turns : goal.decreases-turns
decreases-turns l = l.index
