-- How a counting core goes on.
use Rattle.std.specs.Prelude.{ℕ, zero, suc, ◌+◌, ◌<◌, ◌%◌, ◌^◌, ◌==◌, if◌then◌else◌, Option, Some, None}
use Rattle.spk_nums.specs.{declared.steps.WordOp.WordOp, declared.steps.WordOp.TheVariants.Load, declared.steps.WordOp.TheVariants.Compare}
use Rattle.turn_tests.specs.declared.counter.Stage.TheVariants.{Idle, Looks, Tries}
use Rattle.{turn_rule.specs.Steps.Steps, turn_tests.specs.declared.counter.Stage.Stage, turn_tests.specs.declared.counter.Counter.Counter}

abbrev pub counter : Stage → ℕ → Counter
counter stage wins = record { stage = stage; wins = wins }

-- a load, and then compares
abbrev pub next_at : Stage → Option WordOp
next_at Idle = None
next_at (Looks left) = Some (Load 0)
next_at (Tries seen left) = Some (Compare 0 seen ((seen + 1) % 2 ^ 64))

-- after a lost try, which found n
abbrev pub lost : ℕ → ℕ → Stage
lost n zero = Idle
lost n (suc left) = Tries n left

abbrev pub after_at : Stage → ℕ → ℕ → Counter
after_at Idle wins n = counter Idle wins
after_at (Looks left) wins n = counter (Tries n left) wins
after_at (Tries seen left) wins n = if n == seen then counter Idle ((wins + 1) % 2 ^ 64) else counter (lost n left) wins

-- how many steps the call has left at most
abbrev pub steps_left : Stage → ℕ
steps_left Idle = 0
steps_left (Looks left) = left + 2
steps_left (Tries seen left) = left + 1

abbrev pub counter_steps : Steps Counter ℕ
counter_steps = record {
  next = λ p. next_at p.stage;
  after = λ p n. after_at p.stage p.wins n;
  fit = λ p call. call < 8;
  begun = λ p call. counter (Looks call) p.wins;
  size = λ p. 1;
  left = λ p. steps_left p.stage;
}
