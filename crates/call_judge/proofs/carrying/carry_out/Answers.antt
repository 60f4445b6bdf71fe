use Rattle.plain_kernel.specs.seq_state.proofs.{sym, refl, state_of, same_by}
use Rattle.call_judge.proofs.CarriedOut.{other_result}
use Rattle.call_judge.proofs.carrying.carry_out.Goals as goal

pub returns-else-is_nothing-clause-exact : goal.returns-else-is_nothing-clause-exact
returns-else-is_nothing-clause-exact c = λ ranges calm. (
  other_result (state_of c.args.k.now) c.args.core c.args.call.now c.args.value.now (sym c.if-answers_value.ensures)
      c.if-is_nothing.ensures calm,
  same_by (state_of c.args.k.now) (state_of c.args.k.now) refl,
)
