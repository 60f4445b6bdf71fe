use Rattle.std.proofs.Common.{◌≡◌, ◌+◌, ◌++◌, drop, string_bytes}
use Rattle.sched_rules.specs.Texts.{task_lines}
use Rattle.sched_text.proofs.push_tasks.Given as goal

abbrev pub invariant-tasks : goal.invariant-tasks
invariant-tasks l = record {
  number : l.number ≡ l.task-index;
  text : string_bytes l.text ++ task_lines l.turns (l.task-index + 1) (drop l.task-index l.tasks)
      ≡ string_bytes l.initial.text ++ task_lines l.turns 1 l.tasks;
}
