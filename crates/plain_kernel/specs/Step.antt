-- What a call made whole does to the plain kernel.
use Rattle.std.specs.Prelude.{◌≡◌}
use Rattle.seq_caps.specs.seq_lookups.specs.seq_state.specs.{ℕ, List, Setting, IsSetting, Call, Reply, State, plain_step, Event, after, Out}
use Rattle.seq_caps.specs.seq_lookups.specs.seq_state.specs.{phase_of, IsRun}
use Rattle.{seq_caps.specs.seq_lookups.specs.seq_state.specs.Represents}
use Rattle.{seq_caps.specs.seq_lookups.specs.seq_state.specs.kernel_rules.specs.Alone.plain_reply}
use Rattle.{seq_caps.specs.seq_lookups.specs.seq_state.specs.Maps.Maps}

-- The kernel represents a state that a run reaches, and in which no core is in a call.
pub record IsReached (setting : Setting) (k : Maps) (s : State) : Type 0 where
  pub events : List Event
  pub runs : IsRun setting events
  pub quiet : (c : ℕ) → phase_of events c ≡ Out
  pub state : after setting events ≡ s
  pub represents : Represents k s

-- In state s, core c's call is answered with the definitions' reply, and the kernel has then reached the state that it leaves.
pub record IsStep (setting : Setting) (s : State) (c : ℕ) (call : Call) (r : Reply) (k : Maps) : Type 0 where
  pub reply : r ≡ plain_reply s c call
  pub reached : IsReached setting k (plain_step s c call)

-- So it is in every state that the kernel has reached.
abbrev pub StepsExactly : Maps → ℕ → Call → Reply → Maps → Type 0
StepsExactly k c call r k' = (setting : Setting) → IsSetting setting → (s : State) → IsReached setting k s → IsStep setting s c call r k'
