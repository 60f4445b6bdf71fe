-- The replies of a core's calls in a trace.
use Rattle.std.specs.Prelude.{◌≡◌, ◌≢◌, ◌==◌, ◌∷◌, ◌++◌, if◌then◌else◌}
use Rattle.flight_laws.specs.core_invariant.specs.{ℕ, List, [], All, option_to_list, Some, Reply}
use Rattle.flight_laws.specs.core_invariant.specs.{Step, Trace}

-- The replies that the core's calls have decided, in order.
abbrev pub replies_of : Trace → ℕ → List Reply
replies_of [] c = []
replies_of (e ∷ t) c = if c == e.core then replies_of t c ++ option_to_list e.decides else replies_of t c

-- No step is of core c.
abbrev pub AreOfOthers : ℕ → Trace → Type 0
AreOfOthers c steps = All (λ e. e.core ≢ c) steps

-- The newest step of the trace is core c's, and returns this reply.
pub record EndsWith (c : ℕ) (r : Reply) (t : Trace) : Type 0 where
  pub step : Step
  pub older : Trace
  pub whole : t ≡ step ∷ older
  pub own : step.core ≡ c
  pub returns : step.returns ≡ Some r
