use Rattle.std.proofs.Common.{◌≡◌, ◌+◌, refl, true, false, slice_index_or, arith, slice_get}
use Rattle.script_tokens.specs.Bytes.{is_allowed}
use Rattle.fault_texts.proofs.BadBytes.{bad_more, bad_here, bad_none, column_up}
use Rattle.fault_texts.proofs.bytes.bad_byte.Goals as goal

pub returns-then-not-is_allowed : goal.returns-then-not-is_allowed
returns-then-not-is_allowed c =
    let source = c.args.source.now in
    let b = slice_index_or source c.bytes.at 0 in
    let bad : is_allowed b (slice_get source (c.bytes.at + 1)) ≡ false = cc in
    bad_here source c.bytes.at c.bytes.column b c.bytes-test.true refl bad c.bytes.invariant.value

pub bytes-preserved : goal.bytes-preserved
bytes-preserved c =
    let source = c.args.source.now in
    let b = slice_index_or source c.bytes.at 0 in
    let fine : is_allowed b (slice_get source (c.bytes.at + 1)) ≡ true = cc in
    let up = column_up b c.bytes.column in
    rw c.column_after-column.ensures record {
      value = bad_more source c.bytes.at c.bytes.column b c.bytes-test.true refl fine c.bytes.invariant.value;
      within = omega (arith, up, c.bytes.invariant.within);
    }

pub returns : goal.returns
returns c = bad_none c.args.source.now c.bytes.at c.bytes.column c.bytes-test.false c.bytes.invariant.value
