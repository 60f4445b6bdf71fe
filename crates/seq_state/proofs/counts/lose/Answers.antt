use Rattle.std.proofs.Common.{refl, sym, ◌∙◌, arith}
use Rattle.seq_state.proofs.CountLemmas.{times_taken, times_none, once_named}
use Rattle.seq_state.proofs.counts.lose.Goals as goal

pub each-init : goal.each-init
each-init c = record { all = refl; counts = λ f _. refl }

pub count_down-requires : goal.count_down-requires
count_down-requires c = record {
  some = λ below.
      let all = c.each.invariant.all in
      let before = c.each.invariant.counts c.in-Some.frame (omega (arith, all, below)) in
      let some = c.requires.some c.in-Some.frame (omega (arith, all, below)) in
      let once = once_named c.each.rest c.in-Some.frame (sym c.in-Some.ensures) in
      omega (arith, before, some, once);
}

pub each-preserved : goal.each-preserved
each-preserved c =
    let all = c.each.invariant.all in
    record {
      all = c.count_down.ensures.all ∙ all;
      counts = λ f below.
          let before = c.each.invariant.counts f below in
          let down = c.count_down.ensures.counts f (omega (arith, all, below)) in
          let taken = times_taken f c.each.rest c.pop.new.self c.in-Some.frame (sym c.in-Some.ensures) c.pop.ensures in
          omega (arith, before, down, taken);
    }

pub returns-clause-counts : goal.returns-clause-counts
returns-clause-counts c = λ f below.
    let after = c.each.invariant.counts f below in
    let none = times_none f c.each.rest (sym c.top.ensures ∙ c.in_default.is) in
    omega (arith, after, none)

pub returns-clause-all : goal.returns-clause-all
returns-clause-all c = c.each.invariant.all
