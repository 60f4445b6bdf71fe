use Rattle.{seq_state.specs.◌≡◌, seq_state.specs.no_period, seq_state.proofs.StartLemmas.all_more}
use Rattle.seq_state.proofs.start.all_graces.Goals as goal

pub each-preserved : goal.each-preserved
each-preserved c = (
  all_more (λ k p. p ≡ no_period) c.each.map.items c.insert_at.new.map.items c.each.key c.none-none.result
      c.in_ok-insert_at.ensures.here c.in_ok-insert_at.ensures.others c.each.invariant.1 c.each.invariant.0,
  c.each.invariant.1,
  c.in_ok-insert_at.ensures.next,
)
