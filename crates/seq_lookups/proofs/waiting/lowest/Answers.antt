use Rattle.seq_state.proofs.{◌<◌, sym, ◌∙◌, ap, arith, state_of}
use Rattle.{seq_state.specs.spk_nums.specs.CoreSets.has_core, seq_lookups.proofs.Lowest.found_later}
use Rattle.seq_lookups.proofs.waiting.lowest.Goals as goal

pub each-preserved : goal.each-preserved
each-preserved c =
    let below : c.each.number < (state_of c.args.k.now).limits.cores = omega arith in
    c.each.invariant
    ∙ found_later (has_core c.args.set) c.each.number (state_of c.args.k.now).limits.cores below
    (ap (has_core c.args.set) (sym c.new-core.ensures) ∙ sym c.has.ensures ∙ c.if-has.false)
