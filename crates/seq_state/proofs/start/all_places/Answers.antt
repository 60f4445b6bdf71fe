use Rattle.kernel_invariant.specs.kernel_rules.specs.{◌≡◌, ◌/◌, ◌%◌, start_place}
use Rattle.{seq_state.specs.Parts.place_held, seq_state.proofs.StartLemmas.all_more}
use Rattle.seq_state.proofs.start.all_places.Goals as goal

pub each-preserved : goal.each-preserved
each-preserved c = (
  all_more (λ k p. place_held p ≡ start_place c.args.setup.now (k / 64) (k % 64))
      c.each.map.items c.insert_at.new.map.items c.each.key c.place_at.result
      c.in_ok-insert_at.ensures.here c.in_ok-insert_at.ensures.others c.place_at.ensures c.each.invariant.0,
  c.in_ok-insert_at.ensures.next,
)
