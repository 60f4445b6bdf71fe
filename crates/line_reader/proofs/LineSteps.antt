-- What lines say, line by line.
use Rattle.std.proofs.Common.{◌≡◌, ℕ, suc, ◌+◌, ◌<◌, ◌≤◌, List, [], ◌∷◌, length, get_or, take, drop, Result, Ok, Err, refl, sym, ap, subst}
use Rattle.line_reader.specs.{texts, Row, rows_of, First_fault, and_then, Step, lines_from, Fails}
use Rattle.line_reader.proofs.Rows.{rows_cut, stands, line_words, line_words_are, Stands}
use Rattle.{std.proofs.Common.◌∙◌, std.proofs.Common.arith, std.proofs.lemmas.List.drop_all, script_tokens.specs.declared.token.Token.Token}
use Rattle.{script_tokens.specs.Words.views, line_reader.specs.declared.cause.ReadFault.ReadFault}

-- what the lines so far say, and what the lines that follow still make of it
pub record Goes {A : Type 0} (step : Step A) (Kept : A → Type 0) (old : A) (tokens : List Token) (at : ℕ) (d : A) : Type 0 where
  pub value : lines_from step d (rows_of (views (drop at tokens))) ≡ lines_from step old (rows_of (views tokens))
  pub kept : Kept d
  pub within : at ≤ length tokens

module _ (A : Type 0) (step : Step A) (Kept : A → Type 0) (old d : A) (tokens : List Token) (at : ℕ) where
  -- a line that is refused
  pub goes_fault : (n : ℕ) (t : Token) (e : ReadFault) → Goes step Kept old tokens at d → at < length tokens → Stands tokens at n t
      → Fails e (step d (get_or tokens at t).line (line_words tokens at n)) → Fails e (lines_from step old (rows_of (views tokens)))
  goes_fault n t ReadFault.Memory g lt s taken = tt
  goes_fault n t (ReadFault.Script line c) g lt s taken =
      let refused : step d (get_or tokens at t).line (texts (take n (drop at tokens))) ≡ Err (record { line = line; cause = c }) =
      ap (step d (get_or tokens at t).line) (sym (line_words_are tokens at n)) ∙ taken in
      sym g.value ∙ ap (lines_from step d) (rows_cut tokens at n t lt (stands tokens at n t s)) ∙ rw refused refl

  -- a line that is taken
  pub goes_more : (new : A) (n : ℕ) (t : Token) → Goes step Kept old tokens at d → at < length tokens → Stands tokens at n t
      → step d (get_or tokens at t).line (line_words tokens at n) ≡ Ok new → Kept new → at + n ≤ length tokens
      → Goes step Kept old tokens (at + n) new
  goes_more new n t g lt s taken kept within =
      let more : step d (get_or tokens at t).line (texts (take n (drop at tokens))) ≡ Ok new =
      ap (step d (get_or tokens at t).line) (sym (line_words_are tokens at n)) ∙ taken in
      let go : lines_from step d (rows_of (views (drop at tokens))) ≡ lines_from step new (rows_of (views (drop (at + n) tokens))) =
      ap (lines_from step d) (rows_cut tokens at n t lt (stands tokens at n t s)) ∙ rw more refl in
      record { value = sym go ∙ g.value; kept = kept; within = within }

  -- the end of the lines
  pub goes_all : Goes step Kept old tokens at d → length tokens ≤ at → lines_from step old (rows_of (views tokens)) ≡ Ok d
  goes_all g le = sym g.value ∙ ap (λ (ts : List Token). lines_from step d (rows_of (views ts))) (drop_all at tokens le)

-- ---- lines that are all taken

abbrev said : {A : Type 0} → A → Result A First_fault
said x = Ok x

said_is : {A : Type 0} (x y : A) → said x ≡ said y → x ≡ y
said_is x y e = cc

-- what holds after n lines, and goes on with each line that is taken, holds after all of them
pub lines_keep : {A : Type 0} (step : Step A) (P : ℕ → A → Type 0)
    → ((n : ℕ) (d e : A) (number : ℕ) (words : List (List ℕ)) → step d number words ≡ Ok e → P n d → P (n + 1) e)
    → (n : ℕ) (d e : A) (rows : List Row) → lines_from step d rows ≡ Ok e → P n d → P (n + length rows) e
lines_keep {A} step P goes n d e [] is h =
    let none : n ≡ n + 0 = omega arith in subst (λ k. P k e) none (subst (P n) (said_is d e is) h)
lines_keep {A} step P goes n d e (row ∷ rows) is h =
    first (step d row.number row.words) refl is (λ more. lines_keep step P goes (n + 1) more e rows)
  where
    first : (r : Result A First_fault) → step d row.number row.words ≡ r → and_then r (λ more. lines_from step more rows) ≡ Ok e
        → ((more : A) → lines_from step more rows ≡ Ok e → P (n + 1) more → P (n + 1 + length rows) e)
        → P (n + suc (length rows)) e
    first (Ok more) taken rest go =
        let one : n + 1 + length rows ≡ n + suc (length rows) = omega arith in
        subst (λ k. P k e) one (go more rest (goes n d more row.number row.words taken h))
    first (Err f) taken rest go = absurd cc
