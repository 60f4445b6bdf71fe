-- How a core that takes tickets goes on.
use Rattle.std.specs.Prelude.{ℕ, ◌+◌, ◌%◌, ◌^◌, Option, Some, None}
use Rattle.spk_nums.specs.declared.steps.WordOp.TheVariants.{Load, Store, Add}
use Rattle.turn_tests.specs.{declared.taker.Side.Side, declared.taker.Side.TheVariants.Left, declared.taker.Side.TheVariants.Right}
use Rattle.turn_tests.specs.{declared.taker.Phase.Phase, declared.taker.Phase.TheVariants.Idle, declared.taker.Phase.TheVariants.Takes}
use Rattle.turn_tests.specs.{declared.taker.Phase.TheVariants.Shows, declared.taker.Phase.TheVariants.ReadsBack, declared.taker.Taker.Taker}
use Rattle.{spk_nums.specs.declared.steps.WordOp.WordOp, turn_rule.specs.Steps.Steps}

abbrev pub taker : Side → Phase → ℕ → ℕ → Taker
taker side phase taken last = record { side = side; phase = phase; taken = taken; last = last }

-- where the core's own word is
abbrev pub word_place : Side → ℕ
word_place Left = 1
word_place Right = 2

-- an add on the word of all cores, and a store and a load of the core's own
abbrev pub next_in : Side → Phase → Option WordOp
next_in side Idle = None
next_in side (Takes count) = Some (Add 0 count)
next_in side (Shows ticket) = Some (Store (word_place side) ticket)
next_in side (ReadsBack ticket) = Some (Load (word_place side))

-- once the step was told n
abbrev pub after_in : Side → Phase → ℕ → ℕ → ℕ → Taker
after_in side Idle taken last n = taker side Idle taken last
after_in side (Takes count) taken last n = taker side (Shows n) ((taken + count) % 2 ^ 64) last
after_in side (Shows ticket) taken last n = taker side (ReadsBack n) taken last
after_in side (ReadsBack ticket) taken last n = taker side Idle taken n

-- how many steps the call has left
abbrev pub steps_to_go : Phase → ℕ
steps_to_go Idle = 0
steps_to_go (Takes count) = 3
steps_to_go (Shows ticket) = 2
steps_to_go (ReadsBack ticket) = 1

abbrev pub taker_steps : Steps Taker ℕ
taker_steps = record {
  next = λ p. next_in p.side p.phase;
  after = λ p n. after_in p.side p.phase p.taken p.last n;
  fit = λ p call. Unit {0};
  begun = λ p call. taker p.side (Takes call) p.taken p.last;
  size = λ p. 3;
  left = λ p. steps_to_go p.phase;
}
