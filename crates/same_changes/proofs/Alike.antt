-- Two rules come to the same on a region where what they look up is the same, and so are their causes, their values and their edits.
use Rattle.kernel_laws.specs.kernel_rules.proofs as low
use low.{◌≡◌, ℕ, Bool, true, false, refl, sym, ◌∙◌, ap, subst, if◌then◌else◌, List, [], ◌∷◌, Option, Some, None, Capability, Call, Reply}
use low.{Thing, Limits, Slot, found, begun, Change, does, Cause, When, WaitedFor, Unflushed, Rule, Name, Vacant, Held, Mapped, Does, Judged}
use low.{Refused, Found, and_then, unless, named, vacant, held, mapped, first_of, refusal_of, first_cause, outcome, IfFound}
use Rattle.same_changes.specs.{SameOutcome, whole, IsIn, AgreeOn, AgreeOutcome}
use Rattle.seq_lookups.specs.seq_state.specs.{State, SameState}
use Rattle.kernel_laws.specs.kernel_invariant.proofs.{Facts.EditsFrom, Edited.Edits}
use Rattle.same_changes.specs.Region.{Region, AgreeChange}
use Rattle.same_changes.proofs.Agreeing.{on_whole, from_whole, agree_begun}
use Rattle.same_changes.proofs.EditsAgree.{EditsIn, does_agree}
use Rattle.same_changes.proofs.Reaching.{TwinsOn, RootIn, named_agree, vacant_agree, held_agree, mapped_agree, waits_agree, flushes_agree}

-- Two causes are one: one condition with one reply, or one thing of a region.
abbrev pub SameCause : Region → Cause → Cause → Type 0
SameCause w (When b r) (When d q) = (b ≡ d) × (b ≡ true → r ≡ q)
SameCause w (WaitedFor x) (WaitedFor y) = (x ≡ y) × IsIn w y
SameCause w (Unflushed x) (Unflushed y) = (x ≡ y) × IsIn w y
SameCause w _ _ = ⊥

-- Two lists of causes are one in step, as far as none stands.
abbrev pub SameCauses : Region → State → ℕ → List Cause → List Cause → Type 0
SameCauses w s c [] [] = Unit {0}
SameCauses w s c (x ∷ xs) (y ∷ ys) = SameCause w x y × (refusal_of s c y ≡ None → SameCauses w s c xs ys)
SameCauses w s c _ _ = ⊥

-- Two rules are one in step on a region: what they name, where they look, their causes, and where no cause stands their values and
-- their edits, which look up what is there.
abbrev pub SameRule : Region → State → ℕ → Rule → Rule → Type 0
SameRule w s c (Name n p rest) (Name m q other) = (n ≡ m) × (p ≡ q)
    × ((k : Capability) → named s c m q ≡ Found k → SameRule w s c (rest (found k)) (other (found k)))
SameRule w s c (Vacant x rest) (Vacant y other) = (x ≡ y) × RootIn w y
    × ((at : Slot) → vacant s c y ≡ Found at → SameRule w s c (rest at) (other at))
SameRule w s c (Held x rest) (Held y other) = (x ≡ y) × RootIn w y
    × ((at : Slot) (k : Capability) → held s c y ≡ Found (at, k) → SameRule w s c (rest at k) (other at k))
SameRule w s c (Mapped a v rest) (Mapped b u other) = (a ≡ b) × (v ≡ u) × (w.frame b ≡ true)
    × ((k : Capability) → mapped s c b u ≡ Found k → SameRule w s c (rest k) (other k))
SameRule w s c (Does xs v a) (Does ys u b) = SameCauses w s c xs ys × (first_cause s c ys ≡ None → (v ≡ u) × (a ≡ b) × EditsIn w b)
SameRule w s c _ _ = ⊥

-- What comes after a refusal is the same, as far as there is none.
behind : (r p q : Option Reply) → (r ≡ None → p ≡ q) → first_of r p ≡ first_of r q
behind None p q same = same refl
behind (Some r) p q same = refl

then_alike : (w : Region) {A : Type 0} (x y : Judged A) (f g : A → Judged Change) → x ≡ y
    → ((a : A) → y ≡ Found a → AgreeOutcome w (f a) (g a)) → AgreeOutcome w (and_then x f) (and_then y g)
then_alike w {A} x y f g e same = subst (λ j. AgreeOutcome w (and_then j f) (and_then y g)) (sym e) (by_judged y refl)
  where
    by_judged : (z : Judged A) → y ≡ z → AgreeOutcome w (and_then z f) (and_then z g)
    by_judged (Refused r) is = refl
    by_judged (Found a) is = same a is

unless_alike : (w : Region) (p q : Option Reply) (a b : Change) → p ≡ q → (q ≡ None → AgreeChange w a b)
    → AgreeOutcome w (unless p a) (unless q b)
unless_alike w p q a b e same = subst (λ r. AgreeOutcome w (unless r a) (unless q b)) (sym e) (by_cause q refl)
  where
    by_cause : (r : Option Reply) → q ≡ r → AgreeOutcome w (unless r a) (unless r b)
    by_cause None is = same is
    by_cause (Some r) is = refl

module _ {r : Region} {t s : State} {o : ℕ → Bool} {c : ℕ} (w : TwinsOn r t s o c) where
  -- ---- causes

  refusal_same : (x y : Cause) → SameCause r x y → refusal_of t c x ≡ refusal_of s c y
  refusal_same (When b p) (When d q) h = by_test b d h.0 h.1
    where
      by_test : (b d : Bool) → b ≡ d → (b ≡ true → p ≡ q) → (if b then Some p else None) ≡ (if d then Some q else None)
      by_test true true e same = ap Some (same refl)
      by_test false false e same = refl
      by_test true false e same = absurd (cc)
      by_test false true e same = absurd (cc)
  refusal_same (WaitedFor x) (WaitedFor y) h = ap (refusal_of t c) (ap WaitedFor h.0) ∙ waits_agree w y h.1
  refusal_same (Unflushed x) (Unflushed y) h = ap (refusal_of t c) (ap Unflushed h.0) ∙ flushes_agree w y h.1
  refusal_same x y h = absurd h

  causes_same : (xs ys : List Cause) → SameCauses r s c xs ys → first_cause t c xs ≡ first_cause s c ys
  causes_same [] [] h = refl
  causes_same (x ∷ xs) (y ∷ ys) h =
      ap (λ p. first_of p (first_cause t c xs)) (refusal_same x y h.0)
      ∙ behind (refusal_of s c y) (first_cause t c xs) (first_cause s c ys) (λ calm. causes_same xs ys (h.1 calm))
  causes_same [] (y ∷ ys) h = absurd h
  causes_same (x ∷ xs) [] h = absurd h

  -- ---- outcomes

  pub outcome_same : (call : Call) (x y : Rule) → SameRule r s c x y → EditsFrom (λ v es. Edits call c s es) s c y
      → AgreeOutcome r (outcome t c x) (outcome s c y)
  outcome_same call (Name n p rest) (Name m q other) h known =
      then_alike r (named t c n p) (named s c m q) _ _ ((λ i. named t c (h.0 i) (h.1 i)) ∙ named_agree w m q)
      (λ k is. outcome_same call (rest (found k)) (other (found k)) (h.2 k is) (known k is))
  outcome_same call (Vacant x rest) (Vacant y other) h known =
      then_alike r (vacant t c x) (vacant s c y) _ _ (ap (vacant t c) h.0 ∙ vacant_agree w y h.1)
      (λ at is. outcome_same call (rest at) (other at) (h.2 at is) (known at is))
  outcome_same call (Held x rest) (Held y other) h known =
      then_alike r (held t c x) (held s c y) _ _ (ap (held t c) h.0 ∙ held_agree w y h.1)
      (λ p is. outcome_same call (rest p.0 p.1) (other p.0 p.1) (h.2 p.0 p.1 is) (known p.0 p.1 is))
  outcome_same call (Mapped a v rest) (Mapped b u other) h known =
      then_alike r (mapped t c a v) (mapped s c b u) _ _ ((λ i. mapped t c (h.0 i) (h.1 i)) ∙ mapped_agree w b u h.2)
      (λ k is. outcome_same call (rest k) (other k) (h.3 k is) (known k is))
  outcome_same call (Does xs v a) (Does ys u b) h known =
      unless_alike r (first_cause t c xs) (first_cause s c ys) (does c t v a) (does c s u b) (causes_same xs ys h.0) λ calm.
      let is = h.1 calm in
      subst (λ v. AgreeChange r (does c t v a) (does c s u b)) (sym is.0)
      (subst (λ a. AgreeChange r (does c t u a) (does c s u b)) (sym is.1) (does_agree w call u b (known calm) is.2))
  outcome_same call x y h known = absurd h

-- ---- the whole machine

-- The grace periods that a change begins, begun in two states that are one for the machine.
pub begun_same : (t s t' s' : State) (xs : List Thing) → SameState t s → SameState t' s' → s'.limits ≡ s.limits
    → SameState (begun t xs t') (begun s xs s')
begun_same t s t' s' xs e e' limits = from_whole s.limits (begun t xs t') (begun s xs s') limits
    (agree_begun t s t' s' xs (on_whole t s e) (subst (λ l. AgreeOn (whole l) t' s') limits (on_whole t' s' e')) limits)

-- Outcomes that are one on the whole of the machine are one for the machine.
pub same_outcome : (limits : Limits) (x y : Judged Change) → IfFound y (λ change. change.next.limits ≡ limits)
    → AgreeOutcome (whole limits) x y → SameOutcome x y
same_outcome limits (Refused p) (Refused q) stay same = same
same_outcome limits (Found x) (Found y) stay same = record {
  value = same.value;
  next = from_whole limits x.next y.next stay same.next;
  begins = same.begins;
}
same_outcome limits (Refused p) (Found y) stay same = absurd same
same_outcome limits (Found x) (Refused q) stay same = absurd same
