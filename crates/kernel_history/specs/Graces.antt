-- Grace periods go with stamps: what holds of every thing at every time, and what a step must keep for it.
use Rattle.std.specs.Prelude.{◌≡◌, ◌<◌, ◌≤◌, ◌∷◌}
use Rattle.kernel_rules.specs.{ℕ, Bool, true, Option, Some, None, Reply, Setting, Thing}
use Rattle.kernel_history.specs.Trace.{Step, Trace, state_after}
use Rattle.kernel_history.specs.Stamps.{begins_at, flushes_at, stamp, awaits_flushes, clock, clock_seen, exit_of, flush_of, flush_stored}

-- A core that waits is inside, and left its last call before the grace period began; one that has left no call since is not
-- known to have passed. `exit` is the core's last exit, and `at` the stamp of the thing.
pub record Fits (waits not_passed inside : Bool) (exit at : ℕ) : Type 0 where
  pub is_in : waits ≡ true → inside ≡ true
  pub early : waits ≡ true → exit ≤ at
  pub is_left : 0 < at → exit ≤ at → not_passed ≡ true

-- A core that is unflushed has decided no flush since the grace period began, and one that has stored none since is not known
-- to have flushed. `decided` is the core's last flush, and `stored` the last that it has stored.
pub record FitsFlush (awaits unflushed flush_unknown : Bool) (decided stored at : ℕ) : Type 0 where
  pub awaited : unflushed ≡ true → awaits ≡ true
  pub early : unflushed ≡ true → decided ≤ at
  pub is_unflushed : awaits ≡ true → decided ≤ at → unflushed ≡ true
  pub is_unknown : awaits ≡ true → stored ≤ at → flush_unknown ≡ true

abbrev pub FitsOf : Setting → Trace → Thing → ℕ → Type 0
FitsOf setup t x c =
    Fits (((state_after setup t).grace x).waits c) (((state_after setup t).grace x).not_passed c)
    ((state_after setup t).core c).inside (exit_of t c) (stamp setup t x)

abbrev pub FitsFlushOf : Setting → Trace → Thing → ℕ → Type 0
FitsFlushOf setup t x c =
    FitsFlush (awaits_flushes setup t x) (((state_after setup t).grace x).unflushed c)
    (((state_after setup t).grace x).flush_unknown c) (flush_of t c) (flush_stored t c) (stamp setup t x)

-- A thing's stamp is past, and its sets go with it.
pub record GraceIs (setup : Setting) (t : Trace) (x : Thing) : Type 0 where
  pub past : stamp setup t x < clock setup t
  pub fits : (c : ℕ) → FitsOf setup t x c
  pub flushes : (c : ℕ) → FitsFlushOf setup t x c

-- A core has left and flushed at no later time than now, and stored no later flush than its last.
pub record TimesAre (setup : Setting) (t : Trace) (c : ℕ) : Type 0 where
  pub exit : exit_of t c ≤ clock setup t
  pub flush : flush_of t c ≤ clock setup t
  pub stored : flush_stored t c ≤ flush_of t c

-- The clock only rises, a grace period begins at a step that found the clock and raises it, and a flush is decided at one that
-- found the clock.
pub record KeepsTime (setup : Setting) (t : Trace) (e : Step) : Type 0 where
  pub rises : clock setup t ≤ clock setup (e ∷ t)
  pub draws : (x : Thing) → begins_at setup t e x ≡ true → (e.found ≡ clock setup t) × (clock setup t < clock setup (e ∷ t))
  pub flushes : flushes_at t e ≡ true → e.found ≡ clock setup t

-- Core c, which is leaving, has loaded the clock as it was v, and waits in each grace period that began since.
pub record IsLeave (setup : Setting) (t : Trace) (c v : ℕ) : Type 0 where
  pub seen : clock_seen t c ≡ v
  pub some : 0 < v
  pub low : v ≤ clock setup t
  pub stays : (x : Thing) → v ≤ stamp setup t x → ((state_after setup t).grace x).waits c ≡ true

-- A step that returns does nothing else, its core is leaving, and its last flush is stored.
pub record Leaving (setup : Setting) (t : Trace) (e : Step) : Type 0 where
  pub at : ℕ
  pub knows : IsLeave setup t e.core at
  pub stored : flush_stored t e.core ≡ flush_of t e.core
  pub no_entry : e.enters ≡ None
  pub no_decision : e.decides ≡ None

abbrev pub LeavesBy : Setting → Trace → Step → Option Reply → Type 0
LeavesBy setup t e None = Unit {0}
LeavesBy setup t e (Some r) = Leaving setup t e
