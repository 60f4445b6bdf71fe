-- Putting back what a call that answers a value may have changed.
use Rattle.std.specs.Prelude.{◌≡◌, ◌≢◌, ◌<◌}
use Rattle.plain_kernel.specs.seq_state.specs.{ℕ, Bool, true, false, Call, Look, Touch, Tick, Test, State, IsThing, SameGrace}
use Rattle.plain_kernel.specs.kernel_rules.specs.State.{Thing}

-- Two states are one for all that the machine has, but for a frame and a core, which is in its call in both or in neither.
pub record AgreesBut (f c : ℕ) (s t : State) : Type 0 where
  pub limits : s.limits ≡ t.limits
  pub place : (g i : ℕ) → g < t.limits.frames → i < 64 → s.place g i ≡ t.place g i
  pub frame : (g : ℕ) → g < t.limits.frames → g ≢ f → s.frame g ≡ t.frame g
  pub number : (l : ℕ) → l < 64 → s.number l ≡ t.number l
  pub core : (d : ℕ) → d < t.limits.cores → d ≢ c → s.core d ≡ t.core d
  pub inside : (s.core c).inside ≡ (t.core c).inside
  pub grace : (x : Thing) → IsThing t.limits x → SameGrace t.limits.cores (s.grace x) (t.grace x)

-- Whether a call answers a value where it is carried out.
abbrev pub answers_value : Call → Bool
answers_value (Look a) = true
answers_value (Touch v) = true
answers_value (Tick n) = true
answers_value (Test a b) = true
answers_value call = false
