use Rattle.{std.proofs.Common.refl, std.proofs.Common.arith, seq_state.proofs.StartLemmas.starts, seq_state.proofs.StartLemmas.whole_start}
use Rattle.seq_state.proofs.kernel.SeqKernel.start.Goals as goal

pub returns : goal.returns
returns c =
    starts _ c.args.setup.now
    (λ i. record {
      cores = c.cores.ensures.value i;
      frames = c.frames-3.ensures.value i;
      calls = c.calls.ensures.value i;
      epochs = c.epochs.ensures.value i;
    })
    c.in_ok-places.ensures c.in_ok-frames.ensures c.in_ok-numbers.ensures c.in_ok-cores.ensures
    (λ k below. c.in_ok-place_graces.ensures k (omega (arith, below, c.frames.ensures.value)))
    (λ k below. c.in_ok-frame_graces.ensures k (omega (arith, below, c.frames-2.ensures.value)))
    c.in_ok-number_graces.ensures

pub invariant_of-result : goal.invariant_of-result
invariant_of-result c =
    whole_start _ c.args.setup.now c.none.result c.frames.ensures.limits
    (λ i. record {
      cores = c.cores.ensures.value i;
      frames = c.frames-3.ensures.value i;
      calls = c.calls.ensures.value i;
      epochs = c.epochs.ensures.value i;
    })
    c.in_ok-places.ensures c.in_ok-frames.ensures c.in_ok-numbers.ensures c.in_ok-cores.ensures
    (λ k below. c.in_ok-place_graces.ensures k (omega (arith, below, c.frames.ensures.value)))
    (λ k below. c.in_ok-frame_graces.ensures k (omega (arith, below, c.frames-2.ensures.value)))
    c.in_ok-number_graces.ensures c.none.ensures refl c.in_ok-counts.ensures
