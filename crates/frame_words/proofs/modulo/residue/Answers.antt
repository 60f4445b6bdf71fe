use Rattle.std.proofs.{Common.arith, lemmas.Int.ints}
use Rattle.frame_words.proofs.ResidueLemmas.{euclid_is, residue_small}
use Rattle.frame_words.proofs.modulo.residue.Goals as goal

pub rem_euclid-requires-clause-nonzero : goal.rem_euclid-requires-clause-nonzero
rem_euclid-requires-clause-nonzero c = omega arith

pub rem_euclid-requires-clause-no_overflow : goal.rem_euclid-requires-clause-no_overflow
rem_euclid-requires-clause-no_overflow c = λ e f. omega (arith, e)

pub overflow_cast-result : goal.overflow_cast-result
overflow_cast-result c =
    let is = euclid_is _ c.args.number _ c.rem_euclid.result c.rem_euclid.ensures.value (omega (arith, ints)) (omega (arith, ints)) in
    let small = residue_small c.args.number in
    (grind (arith, ints, is, small), omega (arith, ints, is, small))

pub returns : goal.returns
returns c =
    let is = euclid_is _ c.args.number _ c.rem_euclid.result c.rem_euclid.ensures.value (omega (arith, ints)) (omega (arith, ints)) in
    let small = residue_small c.args.number in
    omega (arith, ints, is, small)
