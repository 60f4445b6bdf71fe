use Rattle.{seq_state.specs.◌≡◌, seq_state.specs.refl, seq_state.proofs.StartLemmas.all_more}
use Rattle.seq_state.proofs.start.no_counts.Goals as goal

pub each-preserved : goal.each-preserved
each-preserved c = (
  all_more (λ k n. n ≡ 0) c.each.map.items c.insert_at.new.map.items c.each.key 0
      c.in_ok-insert_at.ensures.here c.in_ok-insert_at.ensures.others refl c.each.invariant.0,
  c.in_ok-insert_at.ensures.next,
)
