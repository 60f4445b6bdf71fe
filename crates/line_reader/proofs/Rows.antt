-- Lines, from the words that they have.
use Rattle.std.proofs.Common.{◌≡◌, ℕ, zero, suc, ◌+◌, ◌-◌, ◌<◌, ◌≤◌, true, false, eqb, List, [], ◌∷◌, length, get_or, take, drop, map, refl}
use Rattle.std.proofs.Common.{sym, ap, ◌∙◌, arith, add-one, inl, inr, eqb-true, eq-eqb, ne_eqb, drop-drop, length-drop}
use Rattle.line_reader.specs.{texts, Row, with_word, rows_of}
use Rattle.std.proofs.lemmas.List.{drop_more, drop_all, take_rest}
use Rattle.script_tokens.specs.{Word, views, declared.token.Token.Token, Words.view}
use Rattle.{std.proofs.lemmas.Bool.cases_Bool, std.proofs.lemmas.Bool.eqb-false, line_reader.specs.Lines.words_in}

-- the texts of words
abbrev texts_of : List Word → List (List ℕ)
texts_of ws = map (λ (w : Word). w.text) ws

-- the line of the first word has the words at the front that stand in it
rows_run : (w : Word) (ws : List Word) → rows_of (w ∷ ws)
    ≡ record { number = w.line; words = w.text ∷ texts_of (take (words_in w.line ws) ws) } ∷ rows_of (drop (words_in w.line ws) ws)
rows_run w [] = refl
rows_run w (v ∷ vs) =
    elim (cases_Bool (eqb v.line w.line)) [
      | inl e ↦
          let same : v.line ≡ w.line = eqb-true v.line w.line e in
          let ahead : with_word w (rows_of (v ∷ vs)) ≡ with_word w (record {
            number = v.line;
            words =
                v.text ∷ texts_of (take (words_in v.line vs) vs);
          } ∷ rows_of (drop (words_in v.line vs) vs)) =
          ap (with_word w) (rows_run v vs) in
          let joins : eqb w.line v.line ≡ true = eq-eqb w.line v.line (sym same) in
          ahead ∙ rw (joins, e, same) (rw add-one refl)
      | inr e ↦
          let other : ¬ (v.line ≡ w.line) = eqb-false v.line w.line e in
          let ahead : with_word w (rows_of (v ∷ vs)) ≡ with_word w (record {
            number = v.line;
            words =
                v.text ∷ texts_of (take (words_in v.line vs) vs);
          } ∷ rows_of (drop (words_in v.line vs) vs)) =
          ap (with_word w) (rows_run v vs) in
          let apart : eqb w.line v.line ≡ false = ne_eqb w.line v.line (λ h. other (sym h)) in
          ahead ∙ rw (apart, e) (ap (λ (rows : List Row). record { number = w.line; words = w.text ∷ [] } ∷ rows) (sym (rows_run v vs)))
    ]

texts_views : (ts : List Token) (n : ℕ) → texts_of (take n (views ts)) ≡ texts (take n ts)
texts_views ts zero = refl
texts_views [] (suc n) = refl
texts_views (t ∷ ts) (suc n) = ap (λ (ws : List (List ℕ)). t.text.now ∷ ws) (texts_views ts n)

drop_views : (ts : List Token) (n : ℕ) → drop n (views ts) ≡ views (drop n ts)
drop_views ts zero = refl
drop_views [] (suc n) = refl
drop_views (t ∷ ts) (suc n) = drop_views ts n

-- the lines of tokens: the first, and those after it
rows_front : (t : Token) (ts : List Token) (n : ℕ) → n ≡ words_in t.line (views (t ∷ ts))
    → rows_of (views (t ∷ ts)) ≡ record { number = t.line; words = texts (take n (t ∷ ts)) } ∷ rows_of (views (drop n (t ∷ ts)))
rows_front t ts n e =
    let m = words_in t.line (views ts) in
    let one : n ≡ suc m = e ∙ rw (eq-eqb t.line t.line refl) (add-one m) in
    rows_run (view t) (views ts)
    ∙ ap (λ (ws : List (List ℕ)). record { number = t.line; words = t.text.now ∷ ws } ∷ rows_of (drop m (views ts))) (texts_views ts m)
    ∙ ap (λ (ws : List Word). record { number = t.line; words = t.text.now ∷ texts (take m ts) } ∷ rows_of ws) (drop_views ts m)
    ∙ ap (λ k. record { number = t.line; words = texts (take k (t ∷ ts)) } ∷ rows_of (views (drop k (t ∷ ts)))) (sym one)

pub rows_cut : (tokens : List Token) (at n : ℕ) (d : Token) → at < length tokens
    → n ≡ words_in (get_or tokens at d).line (views (drop at tokens))
    → rows_of (views (drop at tokens)) ≡ record { number = (get_or tokens at d).line; words = texts (take n (drop at tokens)) }
    ∷ rows_of (views (drop (at + n) tokens))
rows_cut tokens at n d lt e =
    let t = get_or tokens at d in
    let rest = drop (at + 1) tokens in
    let cut : drop at tokens ≡ t ∷ rest = drop_more tokens at d lt in
    let front = rows_front t rest n (e ∙ ap (λ (ts : List Token). words_in t.line (views ts)) cut) in
    ap (λ (ts : List Token). rows_of (views ts)) cut ∙ front
    ∙ ap (λ (ts : List Token). record { number = t.line; words = texts (take n ts) } ∷ rows_of (views (drop n ts))) (sym cut)
    ∙ ap (λ (ts : List Token). record { number = t.line; words = texts (take n (drop at tokens)) } ∷ rows_of (views ts))
    (drop-drop n at tokens)

-- the words of the line at a place, as the code cuts them
abbrev pub line_words : List Token → ℕ → ℕ → List (List ℕ)
line_words tokens at n = texts (take ((at + n) - at) (drop at tokens))

-- n words stand in the line at a place
abbrev pub Stands : List Token → ℕ → ℕ → Token → Type 0
Stands tokens at n d = n ≡ words_in (get_or tokens at d).line (views (take (length tokens - at) (drop at tokens)))

pub stands : (tokens : List Token) (at n : ℕ) (d : Token) → Stands tokens at n d
    → n ≡ words_in (get_or tokens at d).line (views (drop at tokens))
stands tokens at n d e = e ∙ ap (λ (ts : List Token). words_in (get_or tokens at d).line (views ts)) (take_rest tokens at)

pub line_words_are : (tokens : List Token) (at n : ℕ) → line_words tokens at n ≡ texts (take n (drop at tokens))
line_words_are tokens at n = let k : (at + n) - at ≡ n = omega arith in ap (λ i. texts (take i (drop at tokens))) k

pub some_words : (tokens : List Token) (at n : ℕ) (d : Token) → at < length tokens → Stands tokens at n d → 0 < n
some_words tokens at n d lt e =
    let t = get_or tokens at d in
    let one : n ≡ words_in t.line (views (drop (at + 1) tokens)) + 1 = stands tokens at n d e
    ∙ ap (λ (ts : List Token). words_in t.line (views ts)) (drop_more tokens at d lt) ∙ rw (eq-eqb t.line t.line refl) refl in
    omega arith

pub within_line : (tokens : List Token) (at n : ℕ) → at < length tokens
    → n ≤ length (take (length tokens - at) (drop at tokens)) → at + n ≤ length tokens
within_line tokens at n lt le = omega (arith, ap length (take_rest tokens at), length-drop at tokens)

-- ---- the words of a line

-- the words of the line so far, and those that follow
pub record Counts (tokens : List Token) (line i n : ℕ) : Type 0 where
  pub so_far : n ≡ i
  pub value : n + words_in line (views (drop i tokens)) ≡ words_in line (views tokens)

cut : (tokens : List Token) (i : ℕ) (d : Token) → i < length tokens
    → views (drop i tokens) ≡ view (get_or tokens i d) ∷ views (drop (i + 1) tokens)
cut tokens i d lt = ap views (drop_more tokens i d lt)

pub counts_more : (tokens : List Token) (line i n : ℕ) (d : Token) → i < length tokens
    → (get_or tokens i d).line ≡ line → Counts tokens line i n → Counts tokens line (i + 1) (n + 1)
counts_more tokens line i n d lt e c =
    let step : words_in line (views (drop i tokens)) ≡ words_in line (views (drop (i + 1) tokens)) + 1 =
    ap (words_in line) (cut tokens i d lt) ∙ rw (eq-eqb _ _ e) refl in
    record { so_far = omega (arith, c.so_far); value = omega (arith, step, c.value) }

pub counts_end : (tokens : List Token) (line i n : ℕ) (d : Token) → i < length tokens
    → ¬ ((get_or tokens i d).line ≡ line) → Counts tokens line i n → n ≡ words_in line (views tokens)
counts_end tokens line i n d lt e c =
    let step : words_in line (views (drop i tokens)) ≡ 0 = ap (words_in line) (cut tokens i d lt) ∙ rw (ne_eqb _ _ e) refl in
    omega (arith, step, c.value)

pub counts_all : (tokens : List Token) (line i n : ℕ) → length tokens ≤ i → Counts tokens line i n → n ≡ words_in line (views tokens)
counts_all tokens line i n le c =
    let step : words_in line (views (drop i tokens)) ≡ 0 = ap (λ ts. words_in line (views ts)) (drop_all i tokens le) in
    omega (arith, step, c.value)

-- there are no more lines than words
pub few_rows : (ws : List Word) → length (rows_of ws) ≤ length ws
few_rows [] = omega arith
few_rows (w ∷ ws) = let h = few_rows ws in omega (arith, one_more w (rows_of ws), h)
  where
    one_more : (w : Word) (rows : List Row) → length (with_word w rows) ≤ suc (length rows)
    one_more w [] = omega arith
    one_more w (row ∷ rows) = elim (cases_Bool (eqb w.line row.number)) [ inl e ↦ rw e (omega arith) | inr e ↦ rw e (omega arith) ]
