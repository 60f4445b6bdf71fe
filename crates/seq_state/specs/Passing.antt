-- What a beginning, a return and a flush make of the plain kernel's times and grace periods.
use Rattle.std.specs.Prelude.{◌≡◌, ◌<◌}
use Rattle.kernel_invariant.specs.kernel_rules.specs.{ℕ, Bool, true, Option, Some, None, Grace}
use Rattle.kernel_invariant.specs.kernel_rules.specs.State.{State}
use Rattle.seq_state.specs.{declared.times.Times.Times, declared.times.Period.Period}

-- The grace period at a key that stands becomes what f makes of it.
abbrev pub Becomes : (Period → Period) → Option Period → Option Period → Type 0
Becomes f None new = Unit {0}
Becomes f (Some p) new = new ≡ Some (f p)

-- The grace period of a thing as it begins in s, with flushes or without: the cores in a call wait, and all cores are still to
-- pass it.
abbrev pub grace_begun : State → Bool → Grace
grace_begun s flushes = record {
  waits = λ c. (s.core c).inside;
  not_passed = λ c. true;
  unflushed = λ c. flushes;
  flush_unknown = λ c. flushes;
}

-- A core's times lie before a time.
pub record AreBefore (time : ℕ) (x : Times) : Type 0 where
  pub entered : x.entered < time
  pub passed : x.passed < time
  pub flushed : x.flushed < time
  pub flush_known : x.flush_known < time
