use Rattle.plain_kernel.specs.seq_state.proofs.{◌∙◌, refl, false≢true, true≢false, state_of, same_by}
use Rattle.call_judge.proofs.deciding.carry_out_acting.Goals as goal

pub returns-then-not-acts-clause-exact : goal.returns-then-not-acts-clause-exact
returns-then-not-acts-clause-exact c = λ ranges calm. (
  λ may. absurd (false≢true (c.if-not-acts.ensures ∙ may)),
  λ none. (refl, same_by (state_of c.args.k.now) (state_of c.args.k.now) refl),
)

pub returns-clause-exact : goal.returns-clause-exact
returns-clause-exact c = λ ranges calm. (
  λ may. c.in_ok-carried.ensures.exact ranges calm,
  λ none. absurd (true≢false (c.if-not-acts.ensures ∙ none)),
)
