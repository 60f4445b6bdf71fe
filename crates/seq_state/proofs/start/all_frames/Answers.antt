use Rattle.seq_state.specs.{◌≡◌, frame_of}
use Rattle.{kernel_invariant.specs.kernel_rules.specs.Start.start_frame, seq_state.proofs.StartLemmas.all_more}
use Rattle.seq_state.proofs.start.all_frames.Goals as goal

pub each-preserved : goal.each-preserved
each-preserved c = (
  all_more (λ k x. frame_of x ≡ start_frame c.args.setup.now k)
      c.each.map.items c.insert_at.new.map.items c.each.key c.frame_at.result
      c.in_ok-insert_at.ensures.here c.in_ok-insert_at.ensures.others c.frame_at.ensures c.each.invariant.0,
  c.in_ok-insert_at.ensures.next,
)
