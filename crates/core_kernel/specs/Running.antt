-- The program that a core runs at the shared table: the core's state, by which it makes each step, and the reply of its last call.
use Rattle.flight_laws.specs.core_invariant.specs.{Option, Some, None, InLimits, Call, Reply, WordOp, size_of, op_of, ActiveCall, Core}
use Rattle.flight_laws.specs.core_invariant.specs.{begun, move_of, absorbed, told_of_step, steps_left, returned_in}
use Rattle.{turn_rule.specs.Steps.Steps, core_kernel.specs.declared.core_run.CoreRun.CoreRun}

abbrev pub run_of : Core → Option Reply → CoreRun
run_of core last = record { state = core; last = last }

-- The next step of a core with this active call, by the place of its word; there is none between calls.
abbrev pub next_in : Core → Option ActiveCall → Option WordOp
next_in core None = None
next_in core (Some f) = Some (op_of core.own.layout (move_of core))

-- The reply of the last call, after a step that may return one.
abbrev pub answered : Option Reply → Option Reply → Option Reply
answered last None = last
answered last (Some r) = Some r

-- A core's program goes on as the step machine does.
abbrev pub running : Steps CoreRun Call
running = record {
  next = λ p. next_in p.state p.state.active;
  after = λ p n. run_of (absorbed p.state n) (answered p.last (returned_in (told_of_step p.state n)));
  fit = λ p call. InLimits call;
  begun = λ p call. run_of (begun p.state call) p.last;
  size = λ p. size_of p.state.own.layout;
  left = λ p. steps_left p.state;
}
