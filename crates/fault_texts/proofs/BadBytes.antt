-- The first byte that may not stand in a text is found byte by byte.
use Rattle.std.proofs.Common.{◌≡◌, ℕ, zero, suc, ◌+◌, ◌<◌, ◌≤◌, Bool, true, false, List, [], ◌∷◌, Some, None, length, drop, get_or, refl}
use Rattle.std.proofs.Common.{sym, ◌∙◌, ap, arith, if◌then◌else◌, slice_get}
use Rattle.fault_texts.specs.Bytes.{column_after, bad_from, bad_byte}
use Rattle.{std.proofs.lemmas.List.drop_more, std.proofs.lemmas.List.drop_all, script_tokens.specs.is_feed, script_tokens.specs.is_allowed}

next_get : (xs : List ℕ) (i : ℕ) → slice_get (drop i xs) 0 ≡ slice_get xs i
next_get xs zero = refl
next_get [] (suc i) = refl
next_get (x ∷ xs) (suc i) = next_get xs i

here : (source : List ℕ) (at b : ℕ) → at < length source → b ≡ get_or source at 0 → drop at source ≡ b ∷ drop (at + 1) source
here source at b low is = drop_more source at 0 low ∙ ap (λ (x : ℕ). x ∷ drop (at + 1) source) (sym is)

pub bad_more : (source : List ℕ) (at column b : ℕ) → at < length source → b ≡ get_or source at 0
    → is_allowed b (slice_get source (at + 1)) ≡ true → bad_from column (drop at source) ≡ bad_byte source
    → bad_from (column_after b column) (drop (at + 1) source) ≡ bad_byte source
bad_more source at column b low is fine before =
    let step : bad_from column (drop at source) ≡ bad_from (column_after b column) (drop (at + 1) source) =
    ap (bad_from column) (here source at b low is) ∙ rw (next_get source (at + 1), fine) refl in
    sym step ∙ before

pub bad_here : (source : List ℕ) (at column b : ℕ) → at < length source → b ≡ get_or source at 0
    → is_allowed b (slice_get source (at + 1)) ≡ false → bad_from column (drop at source) ≡ bad_byte source
    → Some (record { byte = b; column = column }) ≡ bad_byte source
bad_here source at column b low is bad before =
    let step : bad_from column (drop at source) ≡ Some (record { byte = b; column = column }) =
    ap (bad_from column) (here source at b low is) ∙ rw (next_get source (at + 1), bad) refl in
    sym step ∙ before

pub bad_none : (source : List ℕ) (at column : ℕ) → length source ≤ at → bad_from column (drop at source) ≡ bad_byte source
    → None ≡ bad_byte source
bad_none source at column past before = sym (ap (bad_from column) (drop_all at source past)) ∙ before

pub column_up : (b column : ℕ) → column_after b column ≤ column + 1
column_up b column = by_feed (is_feed b)
  where
    by_feed : (feed : Bool) → (if feed then 1 else column + 1) ≤ column + 1
    by_feed true = omega arith
    by_feed false = omega arith
