-- The sets of each grace period lie within the wider ones, and the cores that wait are in a call.
use Rattle.kernel_rules.specs.{◌≡◌, ◌≢◌, ℕ, Bool, true, false, refl, if◌then◌else◌, IsTrue, [], ◌∷◌, Call, Tick, Reply, Grace, Thing}
use Rattle.kernel_rules.specs.{FrameOf, put, no_grace, same_thing, new_grace, passed, Edit, Node, Untype, is_place_of, edited, Change}
use Rattle.kernel_rules.specs.{Judged, Refused, Found, rule_of, change_of, changed, owed_by, state_by, Enters, Decides, Returns, after}
use Rattle.std.proofs.Common.{inl, inr, sym, ◌∙◌, ap, subst, eq-eqb, ne_eqb}
use Rattle.kernel_rules.specs.{State.State, Edits.Flush, Laws.IsWithin, Laws.WaitsWithin}
use Rattle.kernel_rules.proofs.Changes.{IfFound, outcome_all, all_edits, each_edit}
use Rattle.{std.proofs.lemmas.Bool.cases_eq, std.proofs.lemmas.Bool.false≢true, std.specs.List.list_any}

-- A value of `put`, by whether the number is the one put.
pub put_same : {A : Type 0} (f : ℕ → A) (i : ℕ) (x : A) (j : ℕ) → j ≡ i → put f i x j ≡ x
put_same f i x j e = rw (eq-eqb j i e)

pub put_other : {A : Type 0} (f : ℕ → A) (i : ℕ) (x : A) (j : ℕ) → j ≢ i → put f i x j ≡ f j
put_other f i x j e = rw (ne_eqb j i e)

-- A choice by a test has what both choices have.
pub either : {A : Type 0} (P : A → Type 0) (b : Bool) (x y : A) → P x → P y → P (if b then x else y)
either P true x y hx hy = hx
either P false x y hx hy = hy

none_within : (c : ℕ) → IsWithin no_grace c
none_within c = record { waits = λ h. h; flushes = λ h. h }

new_within : (s : State) (x : Thing) (c : ℕ) → IsWithin (new_grace s x) c
new_within s x c = record { waits = λ h. refl; flushes = λ h. h }

passed_waits : (f g : ℕ → Bool) (c d : ℕ) (b : Bool) → f c ≡ b → (IsTrue (f d) → IsTrue (g d))
    → IsTrue (put f c false d) → IsTrue ((if b then g else put g c false) d)
passed_waits f g c d b is within h = elim (cases_eq d c) [
  | inl same ↦ absurd (false≢true (sym (put_same f c false d same) ∙ h))
  | inr other ↦ either (λ k. IsTrue (k d)) b g (put g c false)
      (within (sym (put_other f c false d other) ∙ h))
      (put_other g c false d other ∙ within (sym (put_other f c false d other) ∙ h))
]

passed_flushes : (f g : ℕ → Bool) (c d : ℕ) (b : Bool) → f c ≡ b → (IsTrue (f d) → IsTrue (g d))
    → IsTrue (f d) → IsTrue ((if b then g else put g c false) d)
passed_flushes f g c d true is within h = within h
passed_flushes f g c d false is within h = elim (cases_eq d c) [
  | inl same ↦ absurd (false≢true (sym is ∙ sym (ap f same) ∙ h))
  | inr other ↦ put_other g c false d other ∙ within h
]

passed_within : (g : Grace) (c d : ℕ) → IsWithin g d → IsWithin (passed c g) d
passed_within g c d h = record {
  waits = passed_waits g.waits g.not_passed c d (g.waits c) refl h.waits;
  flushes = passed_flushes g.unflushed g.flush_unknown c d (g.unflushed c) refl h.flushes;
}

-- A flush leaves fewer cores unflushed.
flushed_within : (g : Grace) (c d : ℕ) → IsWithin g d → IsWithin (record g { unflushed = put g.unflushed c false }) d
flushed_within g c d h = record {
  waits = h.waits;
  flushes = λ k. elim (cases_eq d c) [
    | inl same ↦ absurd (false≢true (sym (put_same g.unflushed c false d same) ∙ k))
    | inr other ↦ h.flushes (sym (put_other g.unflushed c false d other) ∙ k)
  ];
}

-- An edit keeps every grace period within its wider sets.
abbrev Keeps : State → State → Type 0
Keeps s new = (x : Thing) (c : ℕ) → IsWithin (s.grace x) c → IsWithin (new.grace x) c

edit_keeps : (c : ℕ) (s : State) (e : Edit) → Keeps s (edited c s e)
edit_keeps c s (Node f object) x d h = either (λ g. IsWithin g d) (is_place_of f x) no_grace (s.grace x) (none_within d) h
edit_keeps c s (Untype f) x d h = either (λ g. IsWithin g d) (same_thing x (FrameOf f)) no_grace (s.grace x) (none_within d) h
edit_keeps c s Flush x d h = flushed_within (s.grace x) c d h
edit_keeps c s _ x d h = h

found_keeps : (s : State) (c : ℕ) (call : Call) → IfFound (change_of s c call) (λ change. Keeps s change.next)
found_keeps s c call = outcome_all (λ change. Keeps s change.next) s c (rule_of s c call)
    (all_edits (λ change. Keeps s change.next) s c (λ v es. each_edit Keeps c (λ s x d h. h)
    (λ s t u first next x d h. next x d (first x d h)) (edit_keeps c) s es) (rule_of s c call))

changed_within : (s : State) (found : Judged Change) → IfFound found (λ change. Keeps s change.next)
    → ((x : Thing) (c : ℕ) → IsWithin (s.grace x) c) → (x : Thing) (c : ℕ) → IsWithin ((changed s found).grace x) c
changed_within s (Refused r) keeps within x c = within x c
changed_within s (Found change) keeps within x c =
    either (λ g. IsWithin g c) (list_any (same_thing x) change.begins) (new_grace s x) (change.next.grace x)
    (new_within s x c) (keeps x c (within x c))

owed_grace : (s : State) (c : ℕ) (call : Call) → (owed_by s c call).grace ≡ s.grace
owed_grace s c (Tick n) = refl
owed_grace s c _ = refl

owed_within : (s : State) (c : ℕ) (call : Call) (x : Thing) (d : ℕ) → IsWithin (s.grace x) d → IsWithin ((owed_by s c call).grace x) d
owed_within s c call x d h = subst (λ g. IsWithin (g x) d) (sym (owed_grace s c call)) h

decided_within : (s : State) (c : ℕ) (call : Call) (r : Reply) → ((x : Thing) (d : ℕ) → IsWithin (s.grace x) d)
    → (x : Thing) (d : ℕ) → IsWithin ((state_by s c call r).grace x) d
decided_within s c call (Reply.Ok v) within x d =
    changed_within s (change_of s c call) (found_keeps s c call) within x d
decided_within s c call Reply.Raced within x d = owed_within s c call x d (within x d)
decided_within s c call (Reply.Busy e) within x d = owed_within s c call x d (within x d)
decided_within s c call _ within x d = within x d

pub waits_within : WaitsWithin
waits_within setting [] x d = none_within d
waits_within setting (Enters c call ∷ events) x d = waits_within setting events x d
waits_within setting (Returns c ∷ events) x d = passed_within ((after setting events).grace x) c d (waits_within setting events x d)
waits_within setting (Decides c call r ∷ events) x d = decided_within (after setting events) c call r (waits_within setting events) x d
