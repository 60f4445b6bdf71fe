use Rattle.std.specs.Prelude.{◌≡◌, IsSome}
use Rattle.step_looks.specs.call_stages.specs.Fits.{steps_left}
use Rattle.call_steps.proofs.core_state.CoreState.finish.Given as goal

-- the core is in a call, and is the core of the words
abbrev pub invariant-going : goal.invariant-going
invariant-going g l = record {
  in_call : IsSome l.self.active;
  same : l.self ≡ g.W.Words.core l.words;
}

abbrev pub decreases-going : goal.decreases-going
decreases-going g l = steps_left l.self
