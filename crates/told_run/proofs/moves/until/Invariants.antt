use Rattle.{std.proofs.Common.◌≡◌, lone_kernel.specs.Machine.IsFinished, lone_kernel.specs.Moves.work_at, lone_kernel.proofs.Runs.StaysOpen}
use Rattle.{lone_kernel.proofs.Runs.Counted, told_run.proofs.Steps.GoesShort}
use Rattle.told_run.proofs.moves.until.Given as goal

abbrev pub invariant-going : goal.invariant-going
invariant-going g l = record {
  setup : l.kernel.setup ≡ l.initial.kernel.setup;
  lists : l.kernel.lists ≡ l.initial.kernel.lists;
  begins : IsFinished l.kernel l.core → ⊥;
  stays_open : StaysOpen l.how l.kernel l.core;
  counted : Counted l.initial.kernel l.kernel l.core;
  goes : GoesShort g.W.Watcher.has_seen l.how record { machine = l.initial.kernel; watcher = l.initial.watcher }
      record { machine = l.kernel; watcher = l.watcher } l.core;
}

abbrev pub decreases-going : goal.decreases-going
decreases-going g l = work_at l.kernel l.core
