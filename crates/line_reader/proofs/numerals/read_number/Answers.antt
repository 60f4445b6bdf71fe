use Rattle.std.proofs.Common.{◌≡◌, ◌+◌, ◌-◌, ◌*◌, ◌≤◌, ◌^◌, ◌∙◌, refl, sym, length, slice_index_or, arith, eqb-true, le-ltb}
use Rattle.std.proofs.lemmas.Bool.{eqb-false, and_left}
use Rattle.line_reader.proofs.Digits.{number_none, reads_none, reads_past, reads_all}
use Rattle.line_reader.proofs.numerals.read_number.Goals as goal

pub returns-then-is_empty : goal.returns-then-is_empty
returns-then-is_empty c =
    let none : length c.args.word.now ≡ 0 = eqb-true _ _ (sym c.is_empty.ensures ∙ c.if-is_empty.true) in
    number_none c.args.word.now (and_left _ _ (le-ltb 0 (length c.args.word.now) (omega arith)))

pub returns-then-not-is_digit : goal.returns-then-not-is_digit
returns-then-not-is_digit c = reads_none c.args.word.now c.digits.byte-index c.digits.number (slice_index_or c.args.word.now
    c.digits.byte-index 0) c.digits-test.true refl (sym c.is_digit.ensures ∙ c.if-not-is_digit.true) c.digits.invariant

pub returns-in_err-checked_mul : goal.returns-in_err-checked_mul
returns-in_err-checked_mul c =
    let b = slice_index_or c.args.word.now c.digits.byte-index 0 in
    let past : 2 ^ 64 ≤ 10 * c.digits.number + (b - 48) = omega (arith, c.in_err-checked_mul.ensures) in
    c.from_residual.ensures
    ∙ reads_past c.args.word.now c.digits.byte-index c.digits.number b c.digits-test.true refl past c.digits.invariant

pub returns-in_err-number : goal.returns-in_err-number
returns-in_err-number c =
    let b = slice_index_or c.args.word.now c.digits.byte-index 0 in
    let past : 2 ^ 64 ≤ 10 * c.digits.number + (b - 48) = omega (arith, c.in_ok-checked_mul.ensures, c.in_err-number.ensures) in
    c.from_residual-in_err-number.ensures
    ∙ reads_past c.args.word.now c.digits.byte-index c.digits.number b c.digits-test.true refl past c.digits.invariant

pub returns : goal.returns
returns c =
    let some : ¬ (length c.args.word.now ≡ 0) = eqb-false _ _ (sym c.is_empty.ensures ∙ c.if-is_empty.false) in
    reads_all c.args.word.now c.digits.byte-index c.digits.number c.digits-test.false (omega arith) c.digits.invariant
