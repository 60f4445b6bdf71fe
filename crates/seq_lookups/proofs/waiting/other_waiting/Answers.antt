use Rattle.seq_state.proofs.{not, ◌&&◌, ◌==◌, ◌∙◌, arith, state_of}
use Rattle.seq_lookups.proofs.Lowest.{lowest_alike, without}
use Rattle.{seq_state.specs.spk_nums.specs.CoreSets.has_core, seq_state.specs.Parts.thing_of}
use Rattle.seq_lookups.proofs.waiting.other_waiting.Goals as goal

pub returns : goal.returns
returns c =
    c.lowest.ensures.first
    ∙ lowest_alike (state_of c.args.k.now) (has_core c.without.result)
    (λ e. ((state_of c.args.k.now).grace (thing_of c.args.thing)).waits e && not (e == c.args.core)) (λ e below.
    let most = c.lowest.ensures.most in
    without c.args.core e (has_core c.without.result e) (has_core c.waits.result e)
    (((state_of c.args.k.now).grace (thing_of c.args.thing)).waits e)
    (c.without.ensures e (omega arith)) (c.waits.ensures e below))
