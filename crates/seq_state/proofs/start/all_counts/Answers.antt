use Rattle.std.proofs.Common.{◌*◌, ◌∙◌, ap, arith}
use Rattle.seq_state.proofs.StartLemmas.{zero_at, counted_by}
use Rattle.seq_state.proofs.start.all_counts.Goals as goal

pub count_places-requires : goal.count_places-requires
count_places-requires c = record {
  room = λ f below.
      let all = c.in_ok-counts.ensures.all in
      let none = zero_at c.in_ok-counts.counts.items f (c.in_ok-counts.ensures.zeros f (omega (arith, all, below))) in
      omega (arith, none);
}

pub count_frames-requires : goal.count_frames-requires
count_frames-requires c = record {
  room = λ f below.
      let all = c.in_ok-counts.ensures.all in
      let same = c.count_places.ensures.all in
      let none = zero_at c.in_ok-counts.counts.items f (c.in_ok-counts.ensures.zeros f (omega (arith, all, same, below))) in
      let most = c.count_places.ensures.most f (omega (arith, same, below)) in
      omega (arith, none, most, c.frames.ensures.value, c.frames.ensures.limits.most_frames);
}

pub count_cores-requires-clause-room : goal.count_cores-requires-clause-room
count_cores-requires-clause-room c = λ f below.
    let all = c.in_ok-counts.ensures.all in
    let same = c.count_places.ensures.all in
    let same2 = c.count_frames.ensures.all in
    let none = zero_at c.in_ok-counts.counts.items f (c.in_ok-counts.ensures.zeros f (omega (arith, all, same, same2, below))) in
    let most = c.count_places.ensures.most f (omega (arith, same, same2, below)) in
    let most2 = c.count_frames.ensures.most f (omega (arith, same2, below)) in
    omega (arith, none, most, most2, c.frames.ensures.value, c.frames.ensures.limits.most_frames, c.frames-2.ensures.value)

pub count_numbers-requires : goal.count_numbers-requires
count_numbers-requires c = record {
  room = λ f below.
      let all = c.in_ok-counts.ensures.all in
      let same = c.count_places.ensures.all in
      let same2 = c.count_frames.ensures.all in
      let same3 = c.count_cores.ensures.all in
      let none = zero_at c.in_ok-counts.counts.items f (c.in_ok-counts.ensures.zeros f (omega (arith, all, same, same2, same3, below))) in
      let most = c.count_places.ensures.most f (omega (arith, same, same2, same3, below)) in
      let most2 = c.count_frames.ensures.most f (omega (arith, same2, same3, below)) in
      let most3 = c.count_cores.ensures.most f (omega (arith, same3, below)) in
      omega (
        arith,
        none,
        most,
        most2,
        most3,
        c.frames.ensures.value,
        c.frames.ensures.limits.most_frames,
        c.frames-2.ensures.value,
        c.from.ensures,
        c.cores.ensures.value,
        c.cores.ensures.limits.most_cores,
      );
}

pub returns : goal.returns
returns c =
    let all = c.in_ok-counts.ensures.all in
    let same = c.count_places.ensures.all in
    let same2 = c.count_frames.ensures.all in
    let same3 = c.count_cores.ensures.all in
    record {
      all = c.count_numbers.ensures.all ∙ same3 ∙ same2 ∙ same ∙ all;
      counts = λ f below. counted_by c.args.setup.now.frames c.args.setup.now.cores _ _ _ c.args.places.now.items c.args.frames.now.items
          c.args.numbers.now.items c.args.cores.now.items f _ _ _ _ _
          (zero_at c.in_ok-counts.counts.items f (c.in_ok-counts.ensures.zeros f below))
          (ap (λ n. 64 * n) c.frames.ensures.value) c.frames-2.ensures.value (c.from.ensures ∙ c.cores.ensures.value)
          (c.count_places.ensures.counts f (omega (arith, all, below)))
          (c.count_frames.ensures.counts f (omega (arith, all, same, below)))
          (c.count_cores.ensures.counts f (omega (arith, all, same, same2, below)))
          (c.count_numbers.ensures.counts f (omega (arith, all, same, same2, same3, below)));
    }
