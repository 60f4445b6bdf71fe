-- Grace periods by times: when each began, and what each core did last, as a clock then stood.
use Rattle.std.specs.Prelude.{◌≤◌, ◌+◌, ◌&&◌, if◌then◌else◌}
use Rattle.kernel_invariant.specs.kernel_rules.specs.{ℕ, Bool, false, ltb as nat_lt, cond, List, get_or}
use Rattle.kernel_invariant.specs.kernel_rules.specs.{Grace, sum_below}
use Rattle.seq_state.specs.{declared.times.Times.Times, declared.times.Period.Period}

-- The times of a core that has done nothing.
abbrev pub no_times : Times
no_times = record { entered = 0; passed = 0; flushed = 0; flush_known = 0 }

-- No grace period: nothing lies before time 0.
abbrev pub no_period : Period
no_period = record { began = 0; flushes = false }

-- The times of core c.
abbrev pub times_at : List Times → ℕ → Times
times_at ts c = get_or ts c no_times

-- The grace period that began at a time, by what the cores did last: a core in a call waits if it entered that before the
-- beginning; it has passed once it returned from a call that it entered since; and it has flushed, or is known to have, once
-- a flush since the beginning is decided, or has returned.
abbrev pub grace_by : (ℕ → Bool) → List Times → Period → Grace
grace_by inside ts p = record {
  waits = λ c. inside c && nat_lt (times_at ts c).entered p.began;
  not_passed = λ c. nat_lt (times_at ts c).passed p.began;
  unflushed = λ c. p.flushes && nat_lt (times_at ts c).flushed p.began;
  flush_unknown = λ c. p.flushes && nat_lt (times_at ts c).flush_known p.began;
}

-- A core's times up to now: it entered before it returned, and flushed before it returned.
pub record TimesFit (clock : ℕ) (x : Times) : Type 0 where
  pub entered : x.entered ≤ clock
  pub flushed : x.flushed ≤ clock
  pub passed : x.passed ≤ x.entered
  pub flush_known : x.flush_known ≤ x.flushed

-- A core's times as it enters a call, unless it is in one.
abbrev pub enters : Bool → ℕ → Times → Times
enters inside clock x = if inside then x else record x { entered = clock }

-- A core's times as it returns from its call; from a call that it did not enter, as if it had entered that now.
abbrev pub returns : Bool → ℕ → Times → Times
returns inside clock x = record {
  entered = if inside then x.entered else clock;
  passed = if inside then x.entered else clock;
  flushed = x.flushed;
  flush_known = x.flushed;
}

-- A core's times as it flushes.
abbrev pub flushes : ℕ → Times → Times
flushes clock x = record x { flushed = clock }

-- How many of a core's times lie before t.
abbrev pub before : Times → ℕ → ℕ
before x t = cond (nat_lt x.entered t) 1 0 + cond (nat_lt x.passed t) 1 0 + cond (nat_lt x.flushed t) 1 0 + cond (nat_lt x.flush_known t) 1 0

-- How many of all cores' times lie before t.
abbrev pub rank : List Times → ℕ → ℕ
rank ts t = sum_below (λ c. before (times_at ts c) t) 8

-- A core's times, each by its rank.
abbrev pub ranked : List Times → Times → Times
ranked ts x = record {
  entered = rank ts x.entered;
  passed = rank ts x.passed;
  flushed = rank ts x.flushed;
  flush_known = rank ts x.flush_known;
}

-- A grace period that begins at the rank of its beginning.
abbrev pub ranked_period : List Times → Period → Period
ranked_period ts p = record { began = rank ts p.began; flushes = p.flushes }
