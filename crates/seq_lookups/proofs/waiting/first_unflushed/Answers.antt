use Rattle.{seq_state.specs.thing_of, seq_state.specs.state_of, seq_state.specs.kernel_rules.proofs.◌∙◌}
use Rattle.{seq_state.specs.kernel_rules.proofs.has_core, seq_lookups.proofs.Lowest.lowest_alike}
use Rattle.seq_lookups.proofs.waiting.first_unflushed.Goals as goal

pub returns : goal.returns
returns c =
    c.lowest.ensures.first
    ∙ lowest_alike (state_of c.args.k.now) (has_core c.unflushed.result)
    ((state_of c.args.k.now).grace (thing_of c.args.thing)).unflushed c.unflushed.ensures
