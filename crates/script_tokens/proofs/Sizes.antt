-- How many lines and words a source has at most.
use Rattle.std.proofs.Common.{◌≡◌, ℕ, suc, ◌+◌, ◌-◌, ◌≤◌, Bool, true, false, cond, eqb, ltb, List, [], ◌∷◌, length, Option, Some, None}
use Rattle.std.proofs.Common.{refl, sym, ap, ◌∙◌, arith, inl, inr, count_by, slice_get, ◌||◌, ltb-false}
use Rattle.script_tokens.specs.{is_feed, is_hash, is_word_byte, is_allowed, Span, joined, spans, spans_of, first_fault, line_count}
use Rattle.script_tokens.specs.{ending_from, ending_of, before_fault, views, word_at, words_of}
use Rattle.std.proofs.{lemmas.Bool.cases_Bool, lemmas.List.length-map, lemmas.List.Sums.sum_by-cons, lemmas.List.Sums.length-filter}
use Rattle.std.proofs.{lemmas.List.Sums.count_by-le-length}
use Rattle.script_tokens.specs.{declared.scanning.ByteFault.ByteFault, declared.scanning.Ending.Ending}
use Rattle.script_tokens.specs.{declared.scanning.Ending.TheVariants.Whole, declared.scanning.Ending.TheVariants.Fault}
use Rattle.script_tokens.specs.{declared.token.Token.Token, Words.ends_open, Words.view, Words.line_of_fault, Words.FewLines}

-- 1 where the last byte is no line feed
abbrev open_lines : List ℕ → ℕ
open_lines bs = cond (ends_open (slice_get bs (length bs - 1))) 1 0

last_is : (b c : ℕ) (bs : List ℕ) → open_lines (b ∷ c ∷ bs) ≡ open_lines (c ∷ bs)
last_is b c bs = ap (λ o. cond (ends_open o) 1 0) (ap (slice_get (b ∷ c ∷ bs)) one)
  where
    one : length (b ∷ c ∷ bs) - 1 ≡ suc (length (c ∷ bs) - 1)
    one = omega arith

no_more : (line b : ℕ) (bs : List ℕ) → first_fault line (b ∷ bs) ≡ None
    → (line ≤ 20000) × (first_fault (cond (is_feed b) (line + 1) line) bs ≡ None)
no_more line b bs e =
    elim (cases_Bool (ltb 20000 line)) [
      | inl past ↦ absurd (none_some _ (rw past at e))
      | inr within ↦ elim (cases_Bool (is_allowed b (slice_get bs 0))) [
        | inl good ↦ (ltb-false 20000 line within, rw (within, good) at e)
        | inr bad ↦ absurd (none_some _ (rw (within, bad) at e))
      ]
    ]
  where
    none_some : (f : ByteFault) → Some f ≡ None → ⊥
    none_some f h = cc

feed_one : (b : ℕ) → is_feed b ≡ true → cond {A = ℕ} (is_feed b) 1 0 ≡ 1
feed_one b f = rw f refl

feed_none : (b : ℕ) → is_feed b ≡ false → cond {A = ℕ} (is_feed b) 1 0 ≡ 0
feed_none b f = rw f refl

lines_from : (line : ℕ) (bs : List ℕ) → line ≤ 20001 → first_fault line bs ≡ None → line + (count_by is_feed bs + open_lines bs) ≤ 20001
lines_from line [] le e = omega arith
lines_from line (b ∷ []) le e =
    let h = no_more line b [] e in
    let within : line ≤ 20000 = h.0 in
    elim (cases_Bool (is_feed b)) [ inl f ↦ rw f (omega arith) | inr f ↦ rw f (omega arith) ]
lines_from line (b ∷ c ∷ bs) le e =
    let h = no_more line b (c ∷ bs) e in
    let within : line ≤ 20000 = h.0 in
    let one : count_by is_feed (b ∷ c ∷ bs) ≡ cond (is_feed b) 1 0 + count_by is_feed (c ∷ bs) =
    sum_by-cons (λ x. cond (is_feed x) 1 0) b (c ∷ bs) in
    let same = last_is b c bs in
    elim (cases_Bool (is_feed b)) [
      | inl f ↦
          let more : line + 1 + (count_by is_feed (c ∷ bs) + open_lines (c ∷ bs)) ≤ 20001 =
          lines_from (line + 1) (c ∷ bs) (omega arith) (rw f at h.1) in
          omega (arith, feed_one b f, one, same, more)
      | inr f ↦
          let more : line + (count_by is_feed (c ∷ bs) + open_lines (c ∷ bs)) ≤ 20001 = lines_from line (c ∷ bs) le (rw f at h.1) in
          omega (arith, feed_none b f, one, same, more)
    ]

few_from : (source : List ℕ) (o : Option ByteFault) → first_fault 1 source ≡ o → FewLines (ending_from o (line_count source))
few_from source None e = let n : 1 + (count_by is_feed source + open_lines source) ≤ 20001 = lines_from 1 source (omega arith) e in
    omega arith
few_from source (Some f) e = tt

pub few_lines : (source : List ℕ) → FewLines (ending_of source)
few_lines source = few_from source (first_fault 1 source) refl

-- a byte makes one word more, at most
joined_few : (line start here : ℕ) (ws : List Span) → length (joined line start here ws) ≤ suc (length ws)
joined_few line start here [] = omega arith
joined_few line start here (w ∷ ws) = elim (cases_Bool (eqb w.start here)) [ inl e ↦ rw e (omega arith) | inr e ↦ rw e (omega arith) ]

spans_few : (line here : ℕ) (comment : Bool) (bs : List ℕ) → length (spans line here comment bs) ≤ length bs
spans_few line here comment [] = omega arith
spans_few line here comment (b ∷ bs) =
    elim (cases_Bool (is_feed b)) [
      | inl e ↦ let h = spans_few (line + 1) (here + 1) false bs in rw e (omega (arith, h))
      | inr e ↦ elim (cases_Bool (comment || is_hash b)) [
        | inl k ↦ let h = spans_few line (here + 1) true bs in rw (e, k) (omega (arith, h))
        | inr k ↦ elim (cases_Bool (is_word_byte b)) [
          | inl w ↦ let h = spans_few line (here + 1) false bs in
              rw (e, k, w) (omega (arith, h, joined_few line here (here + 1) (spans line (here + 1) false bs)))
          | inr w ↦ let h = spans_few line (here + 1) false bs in rw (e, k, w) (omega (arith, h))
        ]
      ]
    ]

before_few : (e : Ending) (ws : List Span) → length (before_fault e ws) ≤ length ws
before_few (Whole lines) ws = omega arith
before_few (Fault f) ws = let test = λ (w : Span). ltb w.line (line_of_fault f) in
    omega (arith, length-filter test ws, count_by-le-length test ws)

pub few_words : (source : List ℕ) (ts : List Token) → views ts ≡ words_of source → length ts ≤ length source
few_words source ts e =
    let long : length ts ≡ length (spans_of source) = sym (length-map ts view) ∙ ap length e
    ∙ length-map (spans_of source) (word_at source) in
    omega (arith, before_few (ending_of source) (spans 1 0 false source), spans_few 1 0 false source)
