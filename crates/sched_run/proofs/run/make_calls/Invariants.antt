use Rattle.{std.proofs.Common.◌≡◌, std.proofs.Common.◌++◌, std.proofs.Common.take, fixed_prio.specs.Machines.Beside}
use Rattle.sched_run.proofs.run.make_calls.Given as goal

abbrev pub invariant-calls : goal.invariant-calls
invariant-calls g l = record {
  setup : g.M.Machine.setup l.m ≡ g.M.Machine.setup l.initial.m;
  made : g.M.Machine.made l.m ≡ g.M.Machine.made l.initial.m ++ take l.call-index l.calls;
  beside : Beside (g.M.Machine.setup l.initial.m) (g.M.Machine.made l.m) l.k;
}
