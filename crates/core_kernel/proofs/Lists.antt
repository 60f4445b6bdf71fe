-- Traces that go on: what more steps add to a core's calls and replies.
use Rattle.flight_laws.specs.flight.specs.step_ways.proofs.{◌≡◌, ◌≢◌, inl, inr, ℕ, ◌≤◌, suc, List, [], ◌∷◌, ◌++◌, length, option_to_list}
use Rattle.flight_laws.specs.flight.specs.step_ways.proofs.{refl, sym, ◌∙◌, ap, arith, append_assoc, append-nil, eq-eqb, ne_eqb, Call}
use Rattle.flight_laws.specs.flight.specs.step_ways.proofs.{Setting, IsLegal, Step, Trace, calls_of, calls_of-own, calls_of-other}
use Rattle.core_kernel.specs.{step_by, trace_of, replies_of, AreOfOthers}
use Rattle.{std.proofs.lemmas.Bool.cases_eq, std.proofs.lemmas.List.Elements.All-cons, turn_rule.specs.declared.view.Entry.Entry}
use Rattle.turn_rule.specs.Trace as table

module _ (c : ℕ) (e : Step) (t : Trace) where
  pub replies_of-own : c ≡ e.core → replies_of (e ∷ t) c ≡ replies_of t c ++ option_to_list e.decides
  replies_of-own own = rw (eq-eqb c e.core own)

  pub replies_of-other : c ≢ e.core → replies_of (e ∷ t) c ≡ replies_of t c
  replies_of-other other = rw (ne_eqb c e.core other)

-- the calls and the replies of a trace that goes on
pub calls_of-append : (c : ℕ) (s t : Trace) → calls_of (s ++ t) c ≡ calls_of t c ++ calls_of s c
calls_of-append c [] t = sym (append-nil (calls_of t c))
calls_of-append c (e ∷ s) t = elim (cases_eq c e.core) [
  | inl own ↦
      calls_of-own c e (s ++ t) own ∙ ap (λ l. l ++ option_to_list e.enters) (calls_of-append c s t)
      ∙ append_assoc (calls_of t c) (calls_of s c) (option_to_list e.enters) ∙ ap (λ l. calls_of t c ++ l) (sym (calls_of-own c e s own))
  | inr other ↦
      calls_of-other c e (s ++ t) other ∙ calls_of-append c s t ∙ ap (λ l. calls_of t c ++ l) (sym (calls_of-other c e s other))
]

pub replies_of-append : (c : ℕ) (s t : Trace) → replies_of (s ++ t) c ≡ replies_of t c ++ replies_of s c
replies_of-append c [] t = sym (append-nil (replies_of t c))
replies_of-append c (e ∷ s) t = elim (cases_eq c e.core) [
  | inl own ↦
      replies_of-own c e (s ++ t) own ∙ ap (λ l. l ++ option_to_list e.decides) (replies_of-append c s t)
      ∙ append_assoc (replies_of t c) (replies_of s c) (option_to_list e.decides)
      ∙ ap (λ l. replies_of t c ++ l) (sym (replies_of-own c e s own))
  | inr other ↦
      replies_of-other c e (s ++ t) other ∙ replies_of-append c s t ∙ ap (λ l. replies_of t c ++ l) (sym (replies_of-other c e s other))
]

-- steps of other cores have no call of core c
pub calls_of-others : (c : ℕ) (s : Trace) → AreOfOthers c s → calls_of s c ≡ []
calls_of-others c [] h = refl
calls_of-others c (e ∷ s) h =
    calls_of-other c e s (λ own. h 0 e (omega arith) (sym own))
    ∙ calls_of-others c s (λ k d lt. h (suc k) d (omega arith))

pub replies_of-others : (c : ℕ) (s : Trace) → AreOfOthers c s → replies_of s c ≡ []
replies_of-others c [] h = refl
replies_of-others c (e ∷ s) h =
    replies_of-other c e s (λ own. h 0 e (omega arith) (sym own))
    ∙ replies_of-others c s (λ k d lt. h (suc k) d (omega arith))

-- a core that is none of the machine's has no call
pub calls_of-past : (setup : Setting) (c : ℕ) (t : Trace) → setup.cores ≤ c → IsLegal setup t → calls_of t c ≡ []
calls_of-past setup c [] past legal = refl
calls_of-past setup c (e ∷ t) past legal = calls_of-other c e t (λ own. let here = legal.1.is_core in omega arith)
    ∙ calls_of-past setup c t past legal.0

module _ (setup : Setting) where
  -- the steps of the entries since older ones
  abbrev pub steps_since : List (Entry Call) → List (Entry Call) → Trace
  steps_since [] t = []
  steps_since (e ∷ since) t = step_by setup (trace_of setup (since ++ t)) e ∷ steps_since since t

  pub trace_of-append : (since t : List (Entry Call)) → trace_of setup (since ++ t) ≡ steps_since since t ++ trace_of setup t
  trace_of-append [] t = refl
  trace_of-append (e ∷ since) t = ap (λ l. step_by setup (trace_of setup (since ++ t)) e ∷ l) (trace_of-append since t)

  pub others_since : (c : ℕ) (since t : List (Entry Call)) → table.AreOfOthers c since → AreOfOthers c (steps_since since t)
  others_since c [] t h = λ k d lt. absurd (omega arith)
  others_since c (e ∷ since) t h =
      All-cons (λ x. x.core ≢ c) (step_by setup (trace_of setup (since ++ t)) e) (steps_since since t) h.0 (others_since c since t h.1)

-- the last elements of equal lists are equal
abbrev last_or : {A : Type 0} → A → List A → A
last_or d [] = d
last_or d (x ∷ xs) = last_or x xs

last-snoc : {A : Type 0} (d : A) (xs : List A) (y : A) → last_or d (xs ++ y ∷ []) ≡ y
last-snoc d [] y = refl
last-snoc d (x ∷ xs) y = last-snoc x xs y

pub same_last : {A : Type 0} (xs ys : List A) (x y : A) → xs ++ x ∷ [] ≡ ys ++ y ∷ [] → x ≡ y
same_last xs ys x y is = sym (last-snoc x xs x) ∙ ap (last_or x) is ∙ last-snoc x ys y

-- a list of one
pub one_of : {A : Type 0} (xs : List A) → length xs ≡ 1 → (x : A) × (xs ≡ x ∷ [])
one_of [] one = absurd (omega arith)
one_of (x ∷ []) one = (x, refl)
one_of (x ∷ (y ∷ xs)) one = absurd (omega arith)
