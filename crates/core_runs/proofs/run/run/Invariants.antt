use Rattle.{std.proofs.Common.◌≤◌, std.proofs.Common.vec_capacity, core_runs.specs.Runs.HasMade}
use Rattle.core_runs.proofs.run.run.Given as goal

abbrev pub invariant-loop-made : goal.invariant-loop-made
invariant-loop-made g l = let was = l.initial.runner-inside in let now = l.runner-inside in record {
  made : HasMade
      (record { seat = was.seat; calls = was.calls.items; replies = was.replies.items; held = was.held })
      l.made
      (record { seat = now.seat; calls = now.calls.items; replies = now.replies.items; held = now.held });
  room : vec_capacity was.replies ≤ vec_capacity now.replies;
}
