use Rattle.std.proofs.Common.{◌-◌, refl, arith, length-take, length-drop, drop, length}
use Rattle.whole_ends.proofs.Pieces.{adds_piece}
use Rattle.whole_ends.proofs.ends.write_all.Goals as goal

pub writing-preserved : goal.writing-preserved
writing-preserved g c =
    let i = c.writing.invariant in
    let e = c.in_ok-written.ensures in
    let within = i.within in
    let f = e.fits in
    let n = i.steady in
    let m = e.steady in
    record {
      within = omega (
        arith,
        f,
        length-take (length c.args.text.now - c.writing.at) (drop c.writing.at c.args.text.now),
        length-drop c.writing.at c.args.text.now,
      );
      adds = adds_piece c.writing.at c.in_ok-written.written c.args.text.now _ _ _ _ within refl i.adds e.added;
      steady = omega arith;
    }
