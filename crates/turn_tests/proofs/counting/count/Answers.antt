use Rattle.std.proofs.Common.{◌≡◌, ◌+◌, [], ◌∷◌, Some, None, arith, ap}
use Rattle.turn_tests.proofs.Calls.{step_makes, makes_more, fewer_left, the_some}
use Rattle.{turn_tests.specs.counter_steps, turn_tests.specs.steps_left, spk_nums.specs.declared.steps.WordOp.TheVariants.Load}
use Rattle.{spk_nums.specs.WordSteps.told_by, turn_rule.specs.Seats.MakesStep}
use Rattle.turn_tests.proofs.counting.count.Goals as goal

pub loop-init : goal.loop-init
loop-init c =
    let step = c.first.ensures.step in
    let left = ap (λ p. steps_left p.stage) step.program in
    (1, step_makes counter_steps _ (Some c.args.tries) (Load 0) _ step, omega arith)

pub loop-preserved : goal.loop-preserved
loop-preserved c =
    let i = c.loop.invariant in
    let p = c.loop.seat.program in
    let some = c.turn.ensures.some.0 c.loop-test.true in
    let step = the_some (counter_steps.next p) (c.turn.new.seat ≡ c.loop.seat)
    (λ op. MakesStep counter_steps c.loop.seat None op c.turn.new.seat) some c.turn.ensures.step in
    let left = ap (λ q. steps_left q.stage) step.1.program in
    let less = fewer_left p.stage p.wins (told_by step.0 step.1.found) some in
    let before = i.2 in
    (i.0 + 1, makes_more _ _ _ (c.args.tries ∷ []) [] i.0 1 i.1 (step_makes counter_steps _ None step.0 _ step.1), omega arith)
