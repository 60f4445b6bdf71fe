use Rattle.std.proofs.Common.{◌≡◌, ◌<◌, ◌++◌, ◌≤◌, take, drop, length, sym, subst, arith, length-append, length-take, length-drop}
use Rattle.whole_ends.proofs.Pieces.{Reads, reads_given, reads_more, reads_lost, reads_end}
use Rattle.{std.proofs.lemmas.List.take-append-le, whole_ends.specs.Ends.Gives}
use Rattle.whole_ends.proofs.ends.read_all.Goals as goal

pub returns-then-taken-eq0-clause-all : goal.returns-then-taken-eq0-clause-all
returns-then-taken-eq0-clause-all g c =
    let b : length c.reading.buf ≡ 16384 = c.reading.invariant.buf in
    let m = c.min-room.ensures in
    let n = c.len-in-reading.ensures in
    let k = c.len.ensures in
    let t = c.reading-test.true in
    let room : 0 < length (take c.min-room.result c.reading.buf) = omega (arith, length-take c.min-room.result c.reading.buf) in
    reads_end c.reading.bytes.items _ _ _ _ _ _ c.reading.invariant.reads c.in-Ok.ensures.taken c.if-taken-eq0.true room

pub reading-preserved : goal.reading-preserved
reading-preserved g c =
    let i = c.reading.invariant in
    let b : length c.reading.buf ≡ 16384 = i.buf in
    let e = c.in-Ok.ensures in
    let kept = c.read.auto.buf in
    let m = c.min-room.ensures in
    let n = c.len-in-reading.ensures in
    let k = c.len.ensures in
    let t = c.reading-test.true in
    let fits : c.in-Ok.taken ≤ length c.read.new.buf = let f = e.fits in omega arith in
    let piece = take-append-le c.in-Ok.taken c.read.new.buf (drop c.min-room.result c.reading.buf) fits in
    let len = c.in_ok-extend_from_slice.ensures.len in
    let same = e.steady in
    let had = i.steady in
    record {
      size = omega (
        arith,
        length-take c.in-Ok.taken (c.read.new.buf ++ drop c.min-room.result c.reading.buf),
        len,
        e.fits,
        length-take c.min-room.result c.reading.buf,
      );
      buf = omega (
        arith,
        length-append c.read.new.buf (drop c.min-room.result c.reading.buf),
        length-take c.min-room.result c.reading.buf,
        length-drop c.min-room.result c.reading.buf,
      );
      reads = subst (λ x. Reads x (g.S.Source.left c.args.source.now) (g.S.Source.left c.read.new.self))
          (sym c.in_ok-extend_from_slice.ensures.items)
          (reads_more c.reading.bytes.items _ _ _ _ _ _ _ i.reads e.taken piece);
      steady = omega arith;
    }

pub returns-in_err-extend_from_slice-clause-most : goal.returns-in_err-extend_from_slice-clause-most
returns-in_err-extend_from_slice-clause-most g c =
    let i = c.reading.invariant in
    let e = c.in-Ok.ensures in
    let m = c.min-room.ensures in
    let n = c.len-in-reading.ensures in
    let k = c.len.ensures in
    let t = c.reading-test.true in
    let f = e.fits in
    let size = i.size in
    let ok = c.reading.bytes.ok in
    reads_lost c.reading.bytes.items _ c.read.new.buf _ _ _ c.in-Ok.taken 1048577 i.reads e.taken
    (omega (arith, length-take c.in-Ok.taken c.read.new.buf, length-take c.min-room.result c.reading.buf))

pub returns-clause-long : goal.returns-clause-long
returns-clause-long g c _ =
    let i = c.reading.invariant in
    let size = i.size in
    let k = c.len.ensures in
    let t = c.reading-test.false in
    let n : length c.reading.bytes.items ≡ 1048577 = omega arith in
    subst (λ n. Gives n (g.S.Source.left c.args.source.now) (g.S.Source.left c.reading.source)) n
    (reads_given c.reading.bytes.items _ _ i.reads)
