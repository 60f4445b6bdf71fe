-- How often was sent to a frame.
use Rattle.std.specs.Prelude.{◌+◌, ◌==◌, ◌∷◌, if◌then◌else◌}
use Rattle.core_kernel.specs.flight_laws.specs.core_invariant.specs.{ℕ, List, [], Result, Ok, Err, Reply}
use Rattle.async_ends.specs.{declared.endpoint.EndReply.EndReply, declared.endpoint.EndReply.TheVariants.Sent}
use Rattle.{async_ends.specs.declared.asks.EndDone.EndDone, async_ends.specs.Looks.reached, ends_runners.specs.Runs.EndRunnerValue}

-- 1 where a call with this answer, whose look led there, sent to frame f, else 0.
abbrev pub sends_at : Result ℕ Reply → EndReply → ℕ → ℕ
sends_at (Ok g) Sent f = if g == f then 1 else 0
sends_at (Ok g) _ f = 0
sends_at (Err r) _ f = 0

abbrev pub sends_of : EndDone → ℕ → ℕ
sends_of d f = sends_at (reached d.ask.op d.looked) d.answer f

abbrev pub sends_among : List EndDone → ℕ → ℕ
sends_among [] f = 0
sends_among (d ∷ ds) f = sends_of d f + sends_among ds f

abbrev pub sends_by : List EndRunnerValue → ℕ → ℕ
sends_by [] f = 0
sends_by (r ∷ rs) f = sends_among r.done f + sends_by rs f
