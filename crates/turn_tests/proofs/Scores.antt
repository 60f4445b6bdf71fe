-- A word that is the sum of the cores' scores.
use Rattle.std.proofs.Common.{◌≡◌, ◌≢◌, ◌⊎◌, ℕ, zero, suc, ◌+◌, ◌<◌, ◌%◌, ◌^◌, List, [], ◌∷◌, length, slice_get, sum_by, Option, Some, None}
use Rattle.std.proofs.Common.{inl, inr, ⊎_elim, refl, sym, ap, ◌∙◌, arith}
use Rattle.turn_rule.specs.{called, word_after, program_after, IsStep, IsSound, MayFollow}
use Rattle.turn_rule.proofs.{kept_along, word_here, word_elsewhere, program_here, program_elsewhere, core_inside}
use Rattle.turn_rule.specs.{declared.view.Entry.Entry, declared.view.Start.Start, Steps.Steps}
use Rattle.{std.proofs.lemmas.List.Sums.sum_by-cons, spk_nums.specs.WordSteps.told_by}

-- the first n values, added up
abbrev total : (ℕ → ℕ) → ℕ → ℕ
total f zero = 0
total f (suc n) = f 0 + total (λ c. f (suc c)) n

total_same : (n : ℕ) (f g : ℕ → ℕ) → ((c : ℕ) → g c ≡ f c) → total g n ≡ total f n
total_same zero f g h = refl
total_same (suc n) f g h = let first = h 0 in let rest = total_same n (λ c. f (suc c)) (λ c. g (suc c)) (λ c. h (suc c)) in omega arith

-- where one of them changes
total_changed : (n k : ℕ) (f g : ℕ → ℕ) → k < n → ((c : ℕ) → c ≢ k → g c ≡ f c) → total g n + f k ≡ total f n + g k
total_changed zero k f g lt h = absurd (omega arith)
total_changed (suc n) zero f g lt h =
    let rest = total_same n (λ c. f (suc c)) (λ c. g (suc c)) (λ c. h (suc c) (λ e. omega arith)) in omega arith
total_changed (suc n) (suc k) f g lt h =
    let first = h 0 (λ e. omega arith) in
    let rest : total (λ c. g (suc c)) n + f (suc k) ≡ total (λ c. f (suc c)) n + g (suc k) =
    total_changed n k (λ c. f (suc c)) (λ c. g (suc c)) (omega arith) (λ c ne. h (suc c) (λ e. ne (omega arith))) in
    omega arith

-- a number goes up with another one, or both stay
abbrev pub Raises : ℕ → ℕ → ℕ → ℕ → Type 0
Raises found left before after = ((left ≡ found) × (after ≡ before))
    ⊎ ((k : ℕ) × (left ≡ (found + k) % 2 ^ 64) × (after ≡ (before + k) % 2 ^ 64))

raised : (found left before after was now : ℕ) → found ≡ was % 2 ^ 64 → now + before ≡ was + after
    → Raises found left before after → left ≡ now % 2 ^ 64
raised found left before after was now is sums (inl same) = let stays = same.0 in let score = same.1 in omega arith
raised found left before after was now is sums (inr more) = let word = more.1 in let score = more.2 in omega arith

module _ {P C : Type 0} (T : Steps P C) (score : P → ℕ) where
  abbrev score_of : Option P → ℕ
  score_of None = 0
  score_of (Some p) = score p

  total_of_all : (l : List P) (f : ℕ → Option P) → ((c : ℕ) → slice_get l c ≡ f c) → total (λ c. score_of (f c)) (length l) ≡ sum_by score l
  total_of_all [] f h = refl
  total_of_all (p ∷ l) f h =
      let first : score p ≡ score_of (f 0) = ap score_of (h 0) in
      let rest = total_of_all l (λ c. f (suc c)) (λ c. h (suc c)) in
      sym (sum_by-cons score p l ∙ (let both = rest in let one = first in omega arith))

  -- the step of p, which is q then, raises word 0 with the score, and keeps the score elsewhere
  abbrev pub Scores : P → Entry C → P → Type 0
  Scores p e q = ((e.at ≢ 0) × (score q ≡ score p)) ⊎ ((e.at ≡ 0) × Raises e.found e.left (score p) (score q))

  abbrev pub AllScore : Type 0
  AllScore = (p : P) (e : Entry C) (s : IsStep T p e) → Scores p e (T.after (called T p e.call) (told_by s.op e.found))

  module _ (each : AllScore) (start : Start P) where
    abbrev scores_after : List (Entry C) → ℕ → ℕ
    scores_after t c = score_of (program_after T start t c)

    abbrev sum_after : List (Entry C) → ℕ
    sum_after t = total (scores_after t) (length start.programs)

    abbrev Counts : List (Entry C) → Type 0
    Counts t = word_after start t 0 ≡ sum_after t % 2 ^ 64

    keeps : (t : List (Entry C)) (e : Entry C) → IsSound T start t → MayFollow T start t e → Counts t → Counts (e ∷ t)
    keeps t e sound m counts =
        let p : P = m.program in
        let q : P = T.after (called T p e.call) (told_by m.step.op e.found) in
        let was : scores_after t e.core ≡ score p = ap score_of m.runs in
        let now : scores_after (e ∷ t) e.core ≡ score q = ap score_of (program_here T start e t e.core p refl m.runs m.step) in
        let inside = core_inside T start t e.core p m.runs in
        let all = total_changed (length start.programs) e.core (scores_after t) (scores_after (e ∷ t)) inside
        (λ c other. ap score_of (program_elsewhere T start e t c (λ same. other (sym same)))) in
        let sums : sum_after (e ∷ t) + score p ≡ sum_after t + score q = omega arith in
        ⊎_elim (λ (z : (e.at ≢ 0) × (score q ≡ score p)). let word = word_elsewhere start e t 0 z.0 in let same = z.1 in omega arith)
        (λ (z : (e.at ≡ 0) × Raises e.found e.left (score p) (score q)).
        let found = m.found ∙ ap (word_after start t) z.0 ∙ counts in
        word_here start e t 0 z.0 ∙ raised e.found e.left (score p) (score q) (sum_after t) (sum_after (e ∷ t)) found sums z.1)
        (each p e m.step)

    pub counts_scores : (t : List (Entry C)) → IsSound T start t → word_after {C = C} start [] 0 ≡ sum_by score start.programs % 2 ^ 64
        → (w : ℕ) → w ≡ word_after start t 0
        → (programs : List P) → ((c : ℕ) → slice_get programs c ≡ program_after T start t c) → length programs ≡ length start.programs
        → w ≡ sum_by score programs % 2 ^ 64
    counts_scores t sound first w is programs are count =
        let sum : ℕ → ℕ = λ n. n % 2 ^ 64 in
        let at_first : Counts [] = first ∙ ap sum (sym (total_of_all start.programs (slice_get start.programs) (λ c. refl))) in
        let at_last = ap sum (total_of_all programs (program_after T start t) are) in
        is ∙ kept_along T start Counts at_first keeps t sound ∙ ap (λ (n : ℕ). sum (total (scores_after t) n)) (sym count) ∙ at_last
