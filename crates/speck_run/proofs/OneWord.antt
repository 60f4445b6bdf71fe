-- Words that are one command alone, or one and its number.
use Rattle.trace_run.specs.lone_kernel.specs.kernel_history.proofs.{◌≡◌, ℕ, List, [], ◌∷◌, length, get_or, map, eqb, Bool, true, refl, sym}
use Rattle.trace_run.specs.lone_kernel.specs.kernel_history.proofs.{◌∙◌, ap, arith, and_from, eqb-true, eq-eqb, false≢true}
use Rattle.std.proofs.lemmas.Bool.{and_parts}
use lib.Pointwise.{pointwise}

-- bytes that compare alike are the same
bytes_same : (xs ys : List ℕ) → pointwise eqb xs ys ≡ true → xs ≡ ys
bytes_same [] [] h = refl
bytes_same [] (y ∷ ys) h = absurd (false≢true h)
bytes_same (x ∷ xs) [] h = absurd (false≢true h)
bytes_same (x ∷ xs) (y ∷ ys) h =
    let parts = and_parts (eqb x y) (pointwise eqb xs ys) h in
    ap (λ (n : ℕ). n ∷ xs) (eqb-true x y parts.0) ∙ ap (λ l. y ∷ l) (bytes_same xs ys parts.1)

bytes_own : (xs : List ℕ) → pointwise eqb xs xs ≡ true
bytes_own [] = refl
bytes_own (x ∷ xs) = and_from (eqb x x) (pointwise eqb xs xs) (eq-eqb x x refl) (bytes_own xs)

pub same_bytes : (xs ys : List ℕ) (b : Bool) → b ≡ pointwise eqb xs ys → (b ≡ true → xs ≡ ys) × (xs ≡ ys → b ≡ true)
same_bytes xs ys b test = (λ t. bytes_same xs ys (sym test ∙ t), λ same. test ∙ ap (pointwise eqb xs) (sym same) ∙ bytes_own xs)

head_inj : (x y : List ℕ) (xs ys : List (List ℕ)) → x ∷ xs ≡ y ∷ ys → x ≡ y
head_inj x y xs ys h = cc

pub one_word : {S : Type 0} (bytes : S → List ℕ) (ws : List S) (w : S) (text : List ℕ) (b : Bool)
    → length ws ≡ 1 → w ≡ get_or ws 0 w → b ≡ pointwise eqb (bytes w) text →
    (b ≡ true → map bytes ws ≡ text ∷ []) × (map bytes ws ≡ text ∷ [] → b ≡ true)
one_word bytes [] w text b one is test = absurd (omega arith)
one_word bytes (x ∷ []) w text b one is test = (
  λ t. ap (λ l. l ∷ []) (ap bytes (sym is) ∙ bytes_same (bytes w) text (sym test ∙ t)),
  λ same. test ∙ ap (λ l. pointwise eqb l text) (ap bytes is ∙ head_inj (bytes x) text [] [] same) ∙ bytes_own text,
)
one_word bytes (x ∷ y ∷ ws) w text b one is test = absurd (omega arith)

pub two_words : {S : Type 0} (bytes : S → List ℕ) (ws : List S) (w v : S) (text : List ℕ) → length ws ≡ 2
    → w ≡ get_or ws 0 w → v ≡ get_or ws 1 v → true ≡ pointwise eqb (bytes w) text → map bytes ws ≡ text ∷ bytes v ∷ []
two_words bytes [] w v text two is other test = absurd (omega arith)
two_words bytes (x ∷ []) w v text two is other test = absurd (omega arith)
two_words bytes (x ∷ y ∷ []) w v text two is other test =
    ap (λ l. l ∷ bytes y ∷ []) (ap bytes (sym is) ∙ bytes_same (bytes w) text (sym test))
    ∙ ap (λ l. text ∷ l ∷ []) (ap bytes (sym other))
two_words bytes (x ∷ y ∷ z ∷ ws) w v text two is other test = absurd (omega arith)

-- the first word of such words is that text
pub first_word : {S : Type 0} (bytes : S → List ℕ) (ws : List S) (w : S) (text digits : List ℕ)
    → w ≡ get_or ws 0 w → map bytes ws ≡ text ∷ digits ∷ [] → pointwise eqb (bytes w) text ≡ true
first_word bytes [] w text digits is same = cc
first_word bytes (x ∷ ws) w text digits is same =
    ap (λ l. pointwise eqb l text) (ap bytes is ∙ head_inj (bytes x) text (map bytes ws) (digits ∷ []) same) ∙ bytes_own text
