-- The ways of a call by its plan.
use Rattle.kernel_history.proofs.{◌≡◌, ℕ, Bool, true, false, IsTrue, ◌||◌, ◌==◌, ◌&&◌, List, [], ◌++◌, refl, sym, ◌∙◌, ap, subst, IsSome}
use Rattle.kernel_history.proofs.{EntryAt, own_left, Reply, State, Slot, found, own, reached, Target as place, Rule, Vacant as vacant_rule}
use Rattle.kernel_history.proofs.{Does, and_then, named, vacant, outcome, way_to, ways, wide_way_to, wide_ways, target_of, asked_of}
use Rattle.call_plans.specs.{OwnPages, rule_after, LeadsIn, NextName, NextFree, NextHeld, NextOwn, NextNothing, next_of}
use Rattle.kernel_history.specs.kernel_rules.specs.{IsFalse, Name as name_rule, Held as held_rule, Mapped as mapped_rule, Refused, name_of}
use Rattle.call_plans.proofs.{before, Begins, left_begins, outcome_left}
use Rattle.plan_ways.specs.{NextPlace, IsTargetOf, NextRefused}
use Rattle.std.proofs.{lemmas.List.Folds.list_any-append, lemmas.List.Elements.All-append, Math.Bool.or-true}
use Rattle.plan_ways.specs.Laws.{NextOnWay, TargetIsNext, AskedIsLeft, NextIsFirst, AllWays}
use Rattle.{kernel_history.proofs.is_slot_in, kernel_history.proofs.HasReached, kernel_history.specs.kernel_rules.specs.held}
use Rattle.{kernel_history.specs.kernel_rules.specs.mapped, call_plans.specs.After.Next}

slot_left : (xs ys : List Slot) (f i : ℕ) → is_slot_in xs f i ≡ true → is_slot_in (xs ++ ys) f i ≡ true
slot_left xs ys f i h = list_any-append (λ at. at.node == f && at.index == i) xs ys ∙ ap (λ b. b || is_slot_in ys f i) h

slot_right : (xs ys : List Slot) (f i : ℕ) → is_slot_in ys f i ≡ true → is_slot_in (xs ++ ys) f i ≡ true
slot_right xs ys f i h = list_any-append (λ at. at.node == f && at.index == i) xs ys
    ∙ ap (λ b. is_slot_in xs f i || b) h ∙ or-true (is_slot_in xs f i)

first_on_way : (s : State) (c : ℕ) (pages : OwnPages) (next : Next) (rule : Rule) (target : place) (f i : ℕ)
    → Begins pages next rule → NextPlace s c next target
    → is_slot_in (wide_way_to s target) f i ≡ true → is_slot_in (wide_ways s c rule) f i ≡ true
first_on_way s c pages (NextName n wanted) (name_rule m w rest) target f i is at h =
    slot_left (wide_way_to s (own s c m)) (wide_ways s c (rest (name_of (named s c m w)))) f i
    (subst (λ (x : place). is_slot_in (wide_way_to s x) f i ≡ true) (at ∙ ap (own s c) (sym is.0)) h)
first_on_way s c pages (NextFree t) (vacant_rule u rest) target f i is at h =
    subst (λ (x : place). is_slot_in (wide_way_to s x) f i ≡ true) (at ∙ sym is) h
first_on_way s c pages (NextHeld t) (held_rule u rest) target f i is at h =
    subst (λ (x : place). is_slot_in (wide_way_to s x) f i ≡ true) (at ∙ sym is) h
first_on_way s c pages (NextOwn v) rule target f i is at h = absurd at
first_on_way s c pages NextNothing rule target f i is at h = absurd at
first_on_way s c pages (NextName n wanted) _ target f i is at h = absurd is
first_on_way s c pages (NextFree t) _ target f i is at h = absurd is
first_on_way s c pages (NextHeld t) _ target f i is at h = absurd is

first_target : (s : State) (c : ℕ) (pages : OwnPages) (next : Next) (rule : Rule)
    → Begins pages next rule → IsTargetOf s c next (target_of s c rule)
first_target s c pages (NextName n wanted) rule is = tt
first_target s c pages (NextFree t) (vacant_rule u rest) is = ap (reached s c) is
first_target s c pages (NextHeld t) (held_rule u rest) is = ap (reached s c) is
first_target s c pages (NextOwn v) (mapped_rule table n rest) is = refl
first_target s c pages (NextOwn v) (Does causes value edits) is = refl
first_target s c pages NextNothing (Does causes value edits) is = refl
first_target s c pages (NextFree t) _ is = absurd is
first_target s c pages (NextHeld t) _ is = absurd is
first_target s c pages (NextOwn v) _ is = absurd is
first_target s c pages NextNothing _ is = absurd is

pub next_on_way : NextOnWay
next_on_way s c pages plan rule ks goes leads target f i at h =
    before (LeadsIn s c) (λ x. is_slot_in (wide_ways s c x) f i ≡ true)
    (λ n wanted rest k is h. slot_right (wide_way_to s (own s c n)) (wide_ways s c (rest (name_of (named s c n wanted)))) f i
    (subst (λ x. is_slot_in (wide_ways s c (rest (name_of x))) f i ≡ true) (sym is) h))
    pages plan.names plan.target [] rule ks goes leads
    (first_on_way s c pages (next_of plan ks) (rule_after rule ks) target f i (left_begins s c pages plan rule ks goes leads) at h)

pub target_is : TargetIsNext
target_is s c pages plan rule ks goes leads =
    before (LeadsIn s c) (λ x. IsTargetOf s c (next_of plan ks) (target_of s c x))
    (λ n wanted rest k is h. subst (λ x. IsTargetOf s c (next_of plan ks) (target_of s c (rest (name_of x)))) (sym is) h)
    pages plan.names plan.target [] rule ks goes leads
    (first_target s c pages (next_of plan ks) (rule_after rule ks) (left_begins s c pages plan rule ks goes leads))

pub asked_left : AskedIsLeft
asked_left s c pages plan rule ks goes leads of_cause =
    before (LeadsIn s c) (λ x. asked_of of_cause s c x ≡ asked_of of_cause s c (rule_after rule ks))
    (λ n wanted rest k is h. ap (λ x. asked_of of_cause s c (rest (name_of x))) is ∙ h)
    pages plan.names plan.target [] rule ks goes leads refl

-- a rule that begins with this look-up is refused where that is
both : (b : Bool) → IsTrue b → IsFalse b → ⊥
both true is other = cc
both false is other = cc

first_refused : (s : State) (c : ℕ) (pages : OwnPages) (next : Next) (rule : Rule) (r : Reply)
    → Begins pages next rule → NextRefused s c pages next r → outcome s c rule ≡ Refused r
first_refused s c pages (NextName n wanted) (name_rule m w rest) r is refused =
    ap (λ x. and_then x λ k. outcome s c (rest (found k))) (ap (λ m. named s c m w) is.0 ∙ ap (named s c n) is.1 ∙ refused)
first_refused s c pages (NextFree t) (vacant_rule u rest) r is refused =
    ap (λ x. and_then x λ at. outcome s c (rest at)) (ap (vacant s c) is ∙ refused)
first_refused s c pages (NextHeld t) (held_rule u rest) r is refused =
    ap (λ x. and_then x λ p. outcome s c (rest p.0 p.1)) (ap (held s c) is ∙ refused)
first_refused s c pages (NextOwn v) (mapped_rule table n rest) r is refused =
    ap (λ x. and_then x λ k. outcome s c (rest k)) (ap (λ t. mapped s c t n) is.0 ∙ ap (mapped s c pages.table) is.1 ∙ refused.1)
first_refused s c pages (NextOwn v) (Does causes value edits) r is refused = absurd (both (pages.cached v) is refused.0)
first_refused s c pages (NextOwn v) _ r is refused = absurd is
first_refused s c pages NextNothing rule r is refused = absurd refused
first_refused s c pages (NextName n wanted) _ r is refused = absurd is
first_refused s c pages (NextFree t) _ r is refused = absurd is
first_refused s c pages (NextHeld t) _ r is refused = absurd is

pub next_first : NextIsFirst
next_first s c pages plan rule ks goes leads r refused =
    outcome_left s c pages plan rule ks goes leads
    ∙ first_refused s c pages (next_of plan ks) (rule_after rule ks) r (left_begins s c pages plan rule ks goes leads) refused

pub all_ways : AllWays
all_ways s c pages t plan rule ks goes leads gone =
    before (λ n wanted k. LeadsIn s c n wanted k × HasReached t c (way_to s c (own s c n))) (λ x. HasReached t c (ways s c x))
    (λ n wanted rest k is h. All-append (λ (at : Slot). IsSome (own_left t c (EntryAt at.node at.index)))
    (way_to s c (own s c n)) (ways s c (rest (name_of (named s c n wanted)))) is.1
    (subst (λ x. HasReached t c (ways s c (rest (name_of x)))) (sym is.0) h))
    pages plan.names plan.target [] rule ks goes leads gone
