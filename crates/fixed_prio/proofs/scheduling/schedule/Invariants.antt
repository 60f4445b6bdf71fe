use Rattle.{std.proofs.Common.◌≡◌, fixed_prio.proofs.Going.Gone, fixed_prio.proofs.ToGo.to_go}
use Rattle.fixed_prio.proofs.scheduling.schedule.Given as goal

abbrev pub invariant-turns : goal.invariant-turns
invariant-turns g l = record {
  setup : g.M.Machine.setup l.m ≡ g.M.Machine.setup l.initial.m;
  gone : Gone (g.M.Machine.setup l.initial.m) (g.M.Machine.made l.initial.m) l.rule l.tasks l.turns.items
      (g.M.Machine.made l.m) l.course l.k;
}

abbrev pub decreases-turns : goal.decreases-turns
decreases-turns g l = to_go l.course.time l.course.jobs.items
