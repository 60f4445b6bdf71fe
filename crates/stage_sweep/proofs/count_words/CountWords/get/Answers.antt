use Rattle.std.proofs.Common.{sym, ap, ◌∙◌, arith, slice_get}
use Rattle.stage_sweep.proofs.CountLemmas.{cell_fits, past_none}
use Rattle.stage_sweep.proofs.count_words.CountWords.get.Goals as goal

pub returns-then-at-from-clause-range : goal.returns-then-at-from-clause-range
returns-then-at-from-clause-range c =
    cell_fits c.self.inside c.args.at c.index-self-at.result (omega (arith, c.if-at-from.true, c.from.ensures)) c.self.invariant

pub returns-else-at-from-clause-item : goal.returns-else-at-from-clause-item
returns-else-at-from-clause-item c =
    sym (past_none c.self.inside c.args.at (omega (arith, c.if-at-from.false, c.from.ensures)) c.self.invariant)
    ∙ ap (λ xs. slice_get xs c.args.at) c.self.view_is
