use Rattle.std.proofs.Common.{inl, inr, sym, ◌∙◌, ap, arith, get_or-set_other, length-set}
use Rattle.seq_state.specs.{no_times, times_at, ranked}
use Rattle.std.proofs.{lemmas.Bool.cases_eq, lemmas.Grind.get_or-set_at}
use Rattle.seq_state.proofs.times.all_ranked.Goals as goal

pub each-preserved : goal.each-preserved
each-preserved c = record {
  done = λ d below. elim (cases_eq d c.each.core) [
    | inl e ↦
        let long = c.each.invariant.length in
        get_or-set_at c.each.new c.each.core d c.ranked.result no_times e (omega arith)
        ∙ c.ranked.ensures ∙ ap (λ i. ranked c.args.all.now (times_at c.args.all.now i)) (sym e)
    | inr ne ↦ get_or-set_other c.each.new c.each.core d c.ranked.result no_times ne ∙ c.each.invariant.done d (omega arith)
  ];
  length = length-set c.each.new c.each.core c.ranked.result ∙ c.each.invariant.length;
}
