use Rattle.std.proofs.Common.{refl, sym, ◌∙◌, arith}
use Rattle.seq_state.proofs.CountLemmas.{times_most, times_taken, times_none}
use Rattle.seq_state.proofs.counts.gain.Goals as goal

pub each-init : goal.each-init
each-init c = record { all = refl; counts = λ f _. refl }

pub count_up-requires : goal.count_up-requires
count_up-requires c = record {
  room = λ below.
      let all = c.each.invariant.all in
      let before = c.each.invariant.counts c.in-Some.frame (omega (arith, all, below)) in
      let room = c.requires.room c.in-Some.frame (omega (arith, all, below)) in
      let few = times_most c.in-Some.frame c.args.names in
      let most = c.len-most.ensures.most in
      omega (arith, before, room, few, most);
}

pub each-preserved : goal.each-preserved
each-preserved c =
    let all = c.each.invariant.all in
    record {
      all = c.count_up.ensures.all ∙ all;
      counts = λ f below.
          let before = c.each.invariant.counts f below in
          let up = c.count_up.ensures.counts f (omega (arith, all, below)) in
          let taken = times_taken f c.each.rest c.pop.new.self c.in-Some.frame (sym c.in-Some.ensures) c.pop.ensures in
          omega (arith, before, up, taken);
    }

pub returns-clause-counts : goal.returns-clause-counts
returns-clause-counts c = λ f below.
    let after = c.each.invariant.counts f below in
    let none = times_none f c.each.rest (sym c.top.ensures ∙ c.in_default.is) in
    omega (arith, after, none)

pub returns-clause-all : goal.returns-clause-all
returns-clause-all c = c.each.invariant.all

pub returns-clause-most : goal.returns-clause-most
returns-clause-most c = λ f below.
    let after = c.each.invariant.counts f below in
    let few = times_most f c.args.names in
    let most = c.len-most.ensures.most in
    omega (arith, after, few, most)
