use Rattle.{seq_state.specs.state_of, seq_state.specs.grace_from, std.proofs.Common.◌∙◌, std.proofs.Common.ap}
use Rattle.seq_state.proofs.kernel.SeqKernel.pending.Goals as goal

pub returns-clause-waits : goal.returns-clause-waits
unfolding state_of
returns-clause-waits c =
    c.part.ensures.waits ∙ ap (λ p. (grace_from c.args.self.now p).waits c.args.core) c.period.ensures

pub returns-clause-not_passed : goal.returns-clause-not_passed
unfolding state_of
returns-clause-not_passed c =
    c.part.ensures.not_passed ∙ ap (λ p. (grace_from c.args.self.now p).not_passed c.args.core) c.period.ensures

pub returns-clause-unflushed : goal.returns-clause-unflushed
unfolding state_of
returns-clause-unflushed c =
    c.part.ensures.unflushed ∙ ap (λ p. (grace_from c.args.self.now p).unflushed c.args.core) c.period.ensures

pub returns-clause-flush_unknown : goal.returns-clause-flush_unknown
unfolding state_of
returns-clause-flush_unknown c =
    c.part.ensures.flush_unknown ∙ ap (λ p. (grace_from c.args.self.now p).flush_unknown c.args.core) c.period.ensures
