-- A step wins as often as it raises the word.
use Rattle.std.proofs.Common.{◌≡◌, ◌≢◌, ℕ, ◌+◌, ◌%◌, ◌^◌, ◌==◌, Bool, if◌then◌else◌, Option, Some, None, inl, inr, refl, sym, ap, ◌∙◌}
use Rattle.std.proofs.Common.{subst, eq-eqb, ne_eqb}
use Rattle.spk_nums.specs.{declared.steps.WordOp.WordOp, declared.steps.WordOp.TheVariants.Load, declared.steps.WordOp.TheVariants.Compare}
use Rattle.spk_nums.specs.{WordSteps.place_in, WordSteps.left_by, WordSteps.told_by}
use Rattle.turn_tests.specs.declared.counter.Stage.TheVariants.{Idle, Looks, Tries}
use Rattle.turn_tests.specs.Counter.{counter_steps, counter, lost, next_at, after_at}
use Rattle.{std.proofs.lemmas.Option.none-some, turn_rule.specs.Trace.called, turn_tests.specs.declared.counter.Stage.Stage}
use Rattle.{turn_tests.specs.declared.counter.Counter.Counter, turn_tests.proofs.Scores.Raises, turn_tests.proofs.Scores.AllScore}
use mathlib.Core.Logic.{dite}
use native.Mathlib.Decide.{ℕ_discrete}

-- a step is on word 0, and raises the word and the wins by one, or neither
step_counts : (s : Stage) (w : ℕ) (op : WordOp) → next_at s ≡ Some op → (at left found : ℕ) → at ≡ place_in op → left ≡ left_by op found
    → (at ≡ 0) × Raises found left w (after_at s w (told_by op found)).wins
step_counts Idle w op next at left found place leaves = absurd (none-some op next)
step_counts (Looks k) w op next at left found place leaves =
    let is : op ≡ Load 0 = cc in (place ∙ ap place_in is, inl (leaves ∙ ap (λ o. left_by o found) is, refl))
step_counts (Tries seen k) w op next at left found place leaves =
    let more : ℕ → ℕ = λ n. (n + 1) % 2 ^ 64 in
    let is : op ≡ Compare 0 seen (more seen) = cc in
    let leaves_it : left ≡ (if found == seen then more seen else found) = leaves ∙ ap (λ o. left_by o found) is in
    let told : told_by op found ≡ found = ap (λ o. told_by o found) is in
    let wins = ap (λ (n : ℕ). (after_at (Tries seen k) w n).wins) told in
    let tried : Bool → ℕ = λ b. (if b then counter Idle (more w) else counter (lost found k) w).wins in (
      place ∙ ap place_in is,
      dite (ℕ_discrete found seen)
          (λ (same : found ≡ seen).
          let won = eq-eqb found seen same in
          inr (1, leaves_it ∙ ap (λ b. if b then more seen else found) won ∙ ap more (sym same), wins ∙ ap tried won))
          (λ (other : found ≢ seen).
          let lost_it = ne_eqb found seen other in
          inl (leaves_it ∙ ap (λ b. if b then more seen else found) lost_it, wins ∙ ap tried lost_it)),
    )

called_wins : (p : Counter) (call : Option ℕ) → (called counter_steps p call).wins ≡ p.wins
called_wins p None = refl
called_wins p (Some n) = refl

pub wins_score : AllScore counter_steps (λ p. p.wins)
wins_score p e s =
    let q : Counter = called counter_steps p e.call in
    let won : ℕ = (after_at q.stage q.wins (told_by s.op e.found)).wins in
    let step = step_counts q.stage q.wins s.op s.next e.at e.left e.found s.place s.left in
    inr (step.0, subst (λ (n : ℕ). Raises e.found e.left n won) (called_wins p e.call) step.1)
