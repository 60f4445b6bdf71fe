-- What the comments of a trace tell: each byte of a step is a printed character or a space, so that no line ends in a comment.
use Rattle.marked_laws.specs.kernel_history.proofs.{◌≡◌, ℕ, zero, suc, ◌+◌, ◌%◌, ◌/◌, ◌<◌, ◌≤◌, Bool, true, false, cond, ltb, List, []}
use Rattle.marked_laws.specs.kernel_history.proofs.{◌∷◌, ◌++◌, refl, arith, codes, ◌==◌, and_from, le-leb, Word, EntryAt, FrameAt}
use Rattle.marked_laws.specs.kernel_history.proofs.{CountAt, CoreAt, FlushAt, LiveAt, ClockAt, Move, LoadOf}
use Rattle.marked_laws.specs.kernel_history.proofs.{word_of, left_of, Step}
use Rattle.marked_laws.specs.kernel_history.specs.{decimal, with_one}
use Rattle.trace_lines.specs.script_printer.proofs.{both_left, both_right, Spans.is_printed, Spans.are_printed}
use Rattle.std.specs.Fmt.{digits, digits_onto, digit_glyph}
use Rattle.trace_lines.specs.Steps.{value_text, word_text, move_text, left_text, step_text}
use Rattle.{std.proofs.Math.Nat.mod-lt, marked_laws.specs.spk_nums.specs.Texts.with_two}

pub printed_append : (xs ys : List ℕ) → are_printed xs ≡ true → are_printed ys ≡ true → are_printed (xs ++ ys) ≡ true
printed_append [] ys h k = k
printed_append (b ∷ bs) ys h k = and_from _ _ (both_left _ _ h) (printed_append bs ys (both_right _ _ h) k)

-- ---- numbers

glyph_printed : (d : ℕ) → d < 16 → is_printed (digit_glyph false d) ≡ true
glyph_printed d small = by (ltb d 10)
  where
    by : (few : Bool) → is_printed (cond few (48 + d) (87 + d)) ≡ true
    by true = and_from _ _ (le-leb 32 (48 + d) (omega arith)) (le-leb (48 + d) 126 (omega arith))
    by false = and_from _ _ (le-leb 32 (87 + d) (omega arith)) (le-leb (87 + d) 126 (omega arith))

either_printed : (b : Bool) (xs ys : List ℕ) → are_printed xs ≡ true → are_printed ys ≡ true → are_printed (cond b xs ys) ≡ true
either_printed true xs ys h k = h
either_printed false xs ys h k = k

onto_printed : (k base n : ℕ) (acc : List ℕ) → 2 ≤ base → base ≤ 16 → are_printed acc ≡ true
    → are_printed (digits_onto k base false n acc) ≡ true
onto_printed zero base n acc low high h = h
onto_printed (suc k) base n acc low high h =
    let some : 0 < base = omega arith in
    let small : n % base < 16 = omega (arith, mod-lt n some) in
    let more : are_printed (digit_glyph false (n % base) ∷ acc) ≡ true = and_from _ _ (glyph_printed (n % base) small) h in
    either_printed (n / base == 0) (digit_glyph false (n % base) ∷ acc)
    (digits_onto k base false (n / base) (digit_glyph false (n % base) ∷ acc)) more
    (onto_printed k base (n / base) (digit_glyph false (n % base) ∷ acc) low high more)

digits_printed : (base n : ℕ) → 2 ≤ base → base ≤ 16 → are_printed (digits base false n) ≡ true
unfolding digits
digits_printed base n low high = onto_printed 64 base n [] low high refl

decimal_printed : (n : ℕ) → are_printed (decimal n) ≡ true
decimal_printed n = digits_printed 10 n (omega arith) (omega arith)

value_printed : (n : ℕ) → are_printed (value_text n) ≡ true
value_printed n = digits_printed 16 n (omega arith) (omega arith)

-- ---- steps

one_printed : (w : List ℕ) (n : ℕ) → are_printed w ≡ true → are_printed (with_one w n) ≡ true
one_printed w n h = printed_append (w ++ codes " ") (decimal n) (printed_append w (codes " ") h refl) (decimal_printed n)

two_printed : (w : List ℕ) (m n : ℕ) → are_printed w ≡ true → are_printed (with_two w m n) ≡ true
two_printed w m n h = printed_append (with_one w m ++ codes " ") (decimal n)
    (printed_append (with_one w m) (codes " ") (one_printed w m h) refl) (decimal_printed n)

word_printed : (w : Word) → are_printed (word_text w) ≡ true
word_printed (EntryAt f i) = two_printed (codes "entry") f i refl
word_printed (FrameAt f) = one_printed (codes "frame") f refl
word_printed (CountAt f c) = two_printed (codes "count") f c refl
word_printed (CoreAt c) = one_printed (codes "core") c refl
word_printed (FlushAt c) = one_printed (codes "flush") c refl
word_printed (LiveAt l) = one_printed (codes "live") l refl
word_printed ClockAt = refl

move_printed : (m : Move) → are_printed (move_text m) ≡ true
move_printed (LoadOf w) = refl
move_printed _ = refl

left_printed : (found left : ℕ) → are_printed (left_text found left) ≡ true
left_printed found left = either_printed (found == left) [] (codes " > " ++ value_text left) refl
    (printed_append (codes " > ") (value_text left) refl (value_printed left))

-- the text of a step
pub step_printed : (e : Step) → are_printed (step_text e) ≡ true
step_printed e =
    let core = decimal e.core in
    let op = move_text e.move in
    let word = word_text (word_of e.move) in
    let found = value_text e.found in
    let left = left_text e.found (left_of e.move e.found) in
    printed_append (core ++ op ++ word ++ codes ": " ++ found) left
    (printed_append (core ++ op ++ word ++ codes ": ") found
    (printed_append (core ++ op ++ word) (codes ": ")
    (printed_append (core ++ op) word (printed_append core op (decimal_printed e.core) (move_printed e.move))
    (word_printed (word_of e.move))) refl) (value_printed e.found)) (left_printed e.found (left_of e.move e.found))
