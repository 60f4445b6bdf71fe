-- Stamps: the value of the clock at which a grace period began, at which a core left its last call, and at which it flushed last.
use Rattle.std.specs.Prelude.{◌==◌, ◌&&◌, if◌then◌else◌, ◌∷◌}
use Rattle.kernel_rules.specs.{ℕ, Bool, true, false, [], Option, Some, None, Reply, Setting, Thing}
use Rattle.kernel_rules.specs.{needs_flush, begins, ends, flushes}
use Rattle.word_map.specs.{FlushAt, ClockAt, same_word, word_of}
use Rattle.kernel_rules.specs.State.{State}
use Rattle.kernel_history.specs.Trace.{Step, Trace, Phase, Out, Open, Decided, phase, after_enter, state_before, last_left}

-- Whether a core is in a call.
abbrev pub is_in : Phase → Bool
is_in Out = false
is_in (Open call) = true
is_in (Decided call r) = true

-- Whether a decision in this phase begins the grace period of a thing.
abbrev pub begins_in : Option Reply → Phase → State → ℕ → Thing → Bool
begins_in None p s c x = false
begins_in (Some r) Out s c x = false
begins_in (Some r) (Open call) s c x = begins s c call r x
begins_in (Some r) (Decided call q) s c x = false

-- Whether it ends the grace period of a thing.
abbrev pub ends_in : Option Reply → Phase → Thing → Bool
ends_in None p x = false
ends_in (Some r) Out x = false
ends_in (Some r) (Open call) x = ends call r x
ends_in (Some r) (Decided call q) x = false

-- Whether it is that of a flush.
abbrev pub flushes_in : Option Reply → Phase → Bool
flushes_in None p = false
flushes_in (Some r) Out = false
flushes_in (Some r) (Open call) = flushes call r
flushes_in (Some r) (Decided call q) = false

-- Whether the step e begins the grace period of a thing, whether it ends it, and whether it decides a flush.
abbrev pub begins_at : Setting → Trace → Step → Thing → Bool
begins_at setup t e x = begins_in e.decides (after_enter e.enters (phase t e.core)) (state_before setup t e) e.core x

abbrev pub ends_at : Trace → Step → Thing → Bool
ends_at t e x = ends_in e.decides (after_enter e.enters (phase t e.core)) x

abbrev pub flushes_at : Trace → Step → Bool
flushes_at t e = flushes_in e.decides (after_enter e.enters (phase t e.core))

-- The value that the step found at which the grace period of a thing began last; 0 before the first, and from where it ends on.
abbrev pub stamp : Setting → Trace → Thing → ℕ
stamp setup [] x = 0
stamp setup (e ∷ t) x = if begins_at setup t e x then e.found else (if ends_at t e x then 0 else stamp setup t x)

-- Whether the grace period of a thing that began last waits for flushes; not from where it ends on.
abbrev pub awaits_flushes : Setting → Trace → Thing → Bool
awaits_flushes setup [] x = false
awaits_flushes setup (e ∷ t) x =
    if begins_at setup t e x then needs_flush (state_before setup t e) x else (if ends_at t e x then false else awaits_flushes setup t x)

-- The value of the clock.
abbrev pub clock : Setting → Trace → ℕ
clock setup t = last_left setup t ClockAt

-- What the core's last step on the clock has found; 0 before the first.
abbrev pub clock_seen : Trace → ℕ → ℕ
clock_seen [] c = 0
clock_seen (e ∷ t) c = if c == e.core && same_word ClockAt (word_of e.move) then e.found else clock_seen t c

-- The clock that a core has left with, where the step may return.
abbrev pub exit_after : Option Reply → ℕ → ℕ → ℕ
exit_after None seen old = old
exit_after (Some r) seen old = seen

-- The clock that the core's last exit has loaded: what it had seen before the step that returns; 0 before the first.
abbrev pub exit_of : Trace → ℕ → ℕ
exit_of [] c = 0
exit_of (e ∷ t) c = if c == e.core then exit_after e.returns (clock_seen t c) (exit_of t c) else exit_of t c

-- The value that the step found which decided the core's last flush; 0 before the first.
abbrev pub flush_of : Trace → ℕ → ℕ
flush_of [] c = 0
flush_of (e ∷ t) c = if c == e.core && flushes_at t e then e.found else flush_of t c

-- The flush that the core has stored: its last as it steps on its flush word; 0 before the first.
abbrev pub flush_stored : Trace → ℕ → ℕ
flush_stored [] c = 0
flush_stored (e ∷ t) c = if c == e.core && same_word (FlushAt c) (word_of e.move) then flush_of t c else flush_stored t c
