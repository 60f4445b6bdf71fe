use Rattle.{std.proofs.Common.◌≡◌, std.proofs.Common.◌≤◌, std.proofs.Common.vec_capacity, ends_runners.proofs.Runs.HasAsked}
use Rattle.ends_runners.proofs.run.run.Given as goal

abbrev pub invariant-loop-made : goal.invariant-loop-made
invariant-loop-made g l = let was = l.initial.runner-inside in let now = l.runner-inside in record {
  made : HasAsked l.table
      (record { who = was.who; seat = was.seat; asks = was.asks.items; done = was.done.items; listed = was.listed; held = was.held })
      l.made
      (record { who = now.who; seat = now.seat; asks = now.asks.items; done = now.done.items; listed = now.listed; held = now.held });
  room : vec_capacity was.done ≤ vec_capacity now.done;
  listed : now.listed ≡ was.listed;
}
