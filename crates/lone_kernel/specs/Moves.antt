-- How the moves of a machine extend each trace for which it stood.
use Rattle.std.specs.Prelude.{◌≡◌, ◌≢◌, ◌+◌, ◌-◌, ◌*◌, ◌<◌, ◌≤◌}
use Rattle.flight_laws.specs.core_invariant.specs.{false, ℕ, length, Option, Some, None, How, Trace}
use Rattle.flight_laws.specs.core_invariant.specs.{IsIdle, steps_left, ActiveCall}
use Rattle.flight_laws.specs.flight.specs.{is_decided_in, ready_after}
use Rattle.boot_words.specs.kernel_history.specs.{MakesOne, Stretch}
use Rattle.call_steps.specs.call_stages.specs.Fits.{left_of}
use Rattle.lone_kernel.specs.{declared.lone.Moved.Moved, declared.lone.Moved.TheVariants.Idle, declared.lone.Moved.TheVariants.Went}
use Rattle.lone_kernel.specs.{Machine.Machine, Machine.core_at, Machine.seat_at, Machine.list_at, Stands.StandsFor}

-- Core c was not idle after t, and the machine goes on to a trace that is as said.
pub record MovesTo (m m' : Machine) (c : ℕ) (t : Trace) (Is : Trace → Type 0) : Type 0 where
  pub busy : IsIdle m.lists t c → ⊥
  pub after : Trace
  pub stands : StandsFor m' after
  pub is : Is after

-- Core c was idle in each trace for which the machine stood, and nothing is done.
pub record StaysIdle (m m' : Machine) (c : ℕ) : Type 0 where
  pub same : m' ≡ m
  pub idle : (t : Trace) → StandsFor m t → IsIdle m.lists t c

-- Each trace goes on by one step of core c.
abbrev pub StepsOnce : Machine → Machine → ℕ → Type 0
StepsOnce m m' c = (t : Trace) → StandsFor m t → MovesTo m m' c t (λ u. MakesOne c t u)

-- Each trace goes on by the stretch of an item of core c.
abbrev pub GoesBy : How → Machine → Machine → ℕ → Type 0
GoesBy how m m' c = (t : Trace) → StandsFor m t → MovesTo m m' c t (λ u. Stretch (ready_after m.setup) how c t u)

-- An idle core stays so; else each trace goes on by the stretch.
abbrev pub MovesBy : Moved → How → Machine → Machine → ℕ → Type 0
MovesBy Idle how m m' c = StaysIdle m m' c
MovesBy Went how m m' c = GoesBy how m m' c

-- The calls begun after a step: one more where none was active.
abbrev pub calls_begun : Option ActiveCall → ℕ → ℕ
calls_begun None n = n + 1
calls_begun (Some f) n = n

-- Core c has less to do: its call has fewer steps to come, or has returned; a call that began with the step is fewer of its
-- list's to come; and a call that was not decided has not returned.
pub record GoesFurther (m m' : Machine) (c : ℕ) : Type 0 where
  pub steps : (core_at m c).active ≢ None → steps_left (core_at m' c) < steps_left (core_at m c)
  pub few : steps_left (core_at m' c) < 1000
  pub begun : (seat_at m' c).begun ≡ calls_begun (core_at m c).active (seat_at m c).begun
  pub within : (seat_at m' c).begun ≤ length (list_at m' c)
  pub in_call : is_decided_in (core_at m c).active ≡ false → (core_at m' c).active ≢ None

-- What a core has still to do before its call returns, as a number that each step within a call lowers.
abbrev pub work_in : ℕ → Option ActiveCall → ℕ
work_in cores None = 1000
work_in cores (Some f) = left_of cores f

abbrev pub work_at : Machine → ℕ → ℕ
work_at m c = work_in (core_at m c).own.layout.cores (core_at m c).active

-- The calls of core c's list that have not returned, as a number that each call made lowers.
abbrev pub calls_in : Option ActiveCall → ℕ → ℕ
calls_in None n = 2 * n
calls_in (Some f) n = 2 * n + 1

abbrev pub calls_left : Machine → ℕ → ℕ
calls_left m c = calls_in (core_at m c).active (length (list_at m c) - (seat_at m c).begun)
