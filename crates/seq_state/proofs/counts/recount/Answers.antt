use Rattle.std.proofs.Common.{arith}
use Rattle.seq_state.proofs.counts.recount.Goals as goal

pub gain-requires : goal.gain-requires
gain-requires c = record {
  room = λ f below.
      let all = c.lose.ensures.all in
      let less = c.lose.ensures.counts f (omega arith) in
      let room = c.requires.room f (omega arith) in
      omega (arith, less, room);
}

pub returns-clause-counts : goal.returns-clause-counts
returns-clause-counts c = λ f below.
    let all = c.lose.ensures.all in
    let less = c.lose.ensures.counts f below in
    let more = c.gain.ensures.counts f (omega (arith, all, below)) in
    omega (arith, less, more)
