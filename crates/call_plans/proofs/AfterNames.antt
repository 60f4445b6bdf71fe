-- What is left of a rule and of its plan after the names that have led to capabilities.
use Rattle.kernel_invariant.specs.kernel_rules.proofs.{◌≡◌, inl, inr, ℕ, Bool, true, false, IsTrue, IsFalse, List, [], ◌∷◌, ◌++◌, refl, sym}
use Rattle.kernel_invariant.specs.kernel_rules.proofs.{◌∙◌, ap, subst, Capability, Reply, Named, found, Want, Rule, Name as name_rule}
use Rattle.kernel_invariant.specs.kernel_rules.proofs.{Vacant as vacant_rule, Held as held_rule, Mapped as mapped_rule, Does, and_then}
use Rattle.kernel_invariant.specs.kernel_rules.proofs.{name_of, outcome, NameMay, VacantMay, HeldMay, MappedMay, RuleMay}
use Rattle.call_plans.specs.{OwnPages, GoesOn, want_of, rule_after, with_found, names_after, Leads, LeadsIn, NextName, NextFree, NextHeld}
use Rattle.call_plans.specs.{NextOwn, NextNothing, next_target, next_in, next_of, NextMay}
use Rattle.kernel_invariant.specs.kernel_rules.specs.State.{State}
use Rattle.call_plans.specs.{declared.plans.Name.Name, declared.plans.Target.Target, declared.plans.Target.TheVariants.Nowhere}
use Rattle.call_plans.specs.{declared.plans.Target.TheVariants.Free, declared.plans.Target.TheVariants.Held}
use Rattle.call_plans.specs.{declared.plans.Target.TheVariants.Own, declared.plans.Plan.Plan, GoesBy.GoesBy, After.Next, Laws.LeftGoesBy}
use Rattle.call_plans.specs.{Laws.OutcomeIsLeft, Laws.LeftMayRefuse, Laws.NextMayRefuse, Laws.NextLeads, Laws.LeadsMore}

-- What is true of a rule whose first name leads on to a rule of which it is true, is true of the rule before the names that lead.
pub before : (P : ℕ → Want → Capability → Type 0) (Q : Rule → Type 0)
    → ((n : ℕ) (want : Want) (rest : Named → Rule) (k : Capability) → P n want k → Q (rest (found k))
    → Q (name_rule n want rest))
    → (pages : OwnPages) (names : List Name) (target : Target) (caps : List Named) (rule : Rule) (ks : List Capability)
    → GoesOn pages names target caps rule → Leads P names caps ks → Q (rule_after rule ks) → Q rule
before P Q on pages names target caps rule [] goes leads h = h
before P Q on pages [] target caps rule (k ∷ ks) goes leads h = absurd leads
before P Q on pages (name ∷ names) target caps (name_rule n want rest) (k ∷ ks) goes leads h =
    on n want rest k (subst (λ m. P m want k) (sym goes.0) (subst (λ w. P name.number w k) (sym goes.1) leads.0))
    (before P Q on pages names target (caps ++ found k ∷ []) (rest (found k)) ks (goes.2 (found k)) leads.1 h)
before P Q on pages (name ∷ names) target caps (vacant_rule t rest) (k ∷ ks) goes leads h = absurd goes
before P Q on pages (name ∷ names) target caps (held_rule t rest) (k ∷ ks) goes leads h = absurd goes
before P Q on pages (name ∷ names) target caps (mapped_rule t v rest) (k ∷ ks) goes leads h = absurd goes
before P Q on pages (name ∷ names) target caps (Does causes value edits) (k ∷ ks) goes leads h = absurd goes

-- what is left goes by what is left of the plan
goes_left : (P : ℕ → Want → Capability → Type 0) (pages : OwnPages) (names : List Name) (target : Target) (caps : List Named)
    (rule : Rule) (ks : List Capability)
    → GoesOn pages names target caps rule → Leads P names caps ks
    → GoesOn pages (names_after names ks) target (with_found caps ks) (rule_after rule ks)
goes_left P pages names target caps rule [] goes leads = goes
goes_left P pages [] target caps rule (k ∷ ks) goes leads = absurd leads
goes_left P pages (name ∷ names) target caps (name_rule n want rest) (k ∷ ks) goes leads =
    goes_left P pages names target (caps ++ found k ∷ []) (rest (found k)) ks (goes.2 (found k)) leads.1
goes_left P pages (name ∷ names) target caps (vacant_rule t rest) (k ∷ ks) goes leads = absurd goes
goes_left P pages (name ∷ names) target caps (held_rule t rest) (k ∷ ks) goes leads = absurd goes
goes_left P pages (name ∷ names) target caps (mapped_rule t v rest) (k ∷ ks) goes leads = absurd goes
goes_left P pages (name ∷ names) target caps (Does causes value edits) (k ∷ ks) goes leads = absurd goes

-- What leads by one way leads by another.
pub leads_by : (P Q : ℕ → Want → Capability → Type 0)
    → ((n : ℕ) (want : Want) (k : Capability) → P n want k → Q n want k)
    → (names : List Name) (caps : List Named) (ks : List Capability) → Leads P names caps ks → Leads Q names caps ks
leads_by P Q on names caps [] leads = tt
leads_by P Q on [] caps (k ∷ ks) leads = absurd leads
leads_by P Q on (name ∷ names) caps (k ∷ ks) leads =
    (on name.number (want_of caps name) k leads.0, leads_by P Q on names (caps ++ found k ∷ []) ks leads.1)

-- The next look-up is that of a name, which leads to a capability.
abbrev pub NextBy : (ℕ → Want → Capability → Type 0) → Next → Capability → Type 0
NextBy P (NextName n want) k = P n want k
NextBy P (NextFree t) k = ⊥
NextBy P (NextHeld t) k = ⊥
NextBy P (NextOwn v) k = ⊥
NextBy P NextNothing k = ⊥

none_leads : (P : ℕ → Want → Capability → Type 0) (caps : List Named) (target : Target) (j : Capability)
    → NextBy P (next_target caps target) j → ⊥
none_leads P caps Nowhere j next = next
none_leads P caps _ j next = next

-- One name more leads to a capability.
pub one_more : (P : ℕ → Want → Capability → Type 0) (names : List Name) (target : Target) (caps : List Named)
    (ks : List Capability) (j : Capability)
    → Leads P names caps ks → NextBy P (next_in (with_found caps ks) (names_after names ks) target) j → Leads P names caps (ks ++ j ∷ [])
one_more P [] target caps [] j leads next = none_leads P caps target j next
one_more P (name ∷ names) target caps [] j leads next = (next, tt)
one_more P [] target caps (k ∷ ks) j leads next = absurd leads
one_more P (name ∷ names) target caps (k ∷ ks) j leads next = (leads.0, one_more P names target (caps ++ found k ∷ []) ks j leads.1 next)

same_next : (s : State) (c : ℕ) (next : Next) (k : Capability) → NextLeads s c next k → NextBy (LeadsIn s c) next k
same_next s c (NextName n want) k leads = leads
same_next s c _ k leads = leads

-- What a rule does that looks this up next.
abbrev pub Begins : OwnPages → Next → Rule → Type 0
Begins pages (NextName n want) (name_rule m w rest) = (m ≡ n) × (w ≡ want)
Begins pages (NextFree target) (vacant_rule t rest) = t ≡ target
Begins pages (NextHeld target) (held_rule t rest) = t ≡ target
Begins pages (NextOwn v) (mapped_rule table n rest) = (table ≡ pages.table) × (n ≡ v)
Begins pages (NextOwn v) (Does causes value edits) = IsTrue (pages.cached v)
Begins pages NextNothing (Does causes value edits) = Unit {0}
Begins pages _ _ = ⊥

begins : (pages : OwnPages) (names : List Name) (target : Target) (caps : List Named) (rule : Rule) → GoesOn pages names target caps rule
    → Begins pages (next_in caps names target) rule
begins pages (name ∷ names) target caps (name_rule n want rest) goes = (goes.0, goes.1)
begins pages (name ∷ names) target caps (vacant_rule t rest) goes = absurd goes
begins pages (name ∷ names) target caps (held_rule t rest) goes = absurd goes
begins pages (name ∷ names) target caps (mapped_rule t v rest) goes = absurd goes
begins pages (name ∷ names) target caps (Does causes value edits) goes = absurd goes
begins pages [] Nowhere caps (Does causes value edits) goes = tt
begins pages [] Nowhere caps _ goes = absurd goes
begins pages [] (Free spot) caps (vacant_rule t rest) goes = goes.0
begins pages [] (Free spot) caps _ goes = absurd goes
begins pages [] (Held spot) caps (held_rule t rest) goes = goes.0
begins pages [] (Held spot) caps _ goes = absurd goes
begins pages [] (Own v) caps (mapped_rule table n rest) goes = (goes.0, goes.1)
begins pages [] (Own v) caps (Does causes value edits) goes = goes
begins pages [] (Own v) caps _ goes = absurd goes

both : (b : Bool) → IsTrue b → IsFalse b → ⊥
both true is other = cc
both false is other = cc

-- a rule that begins with this look-up may be refused as that
first_may : (s : State) (c : ℕ) (pages : OwnPages) (next : Next) (rule : Rule) (r : Reply) → Begins pages next rule
    → NextMay s c pages next r → RuleMay s c rule r
first_may s c pages (NextName n want) (name_rule m w rest) r is may =
    inl (subst (λ m. NameMay s c m w r) (sym is.0) (subst (λ w. NameMay s c n w r) (sym is.1) may))
first_may s c pages (NextFree target) (vacant_rule t rest) r is may = inl (subst (λ t. VacantMay s c t r) (sym is) may)
first_may s c pages (NextHeld target) (held_rule t rest) r is may = inl (subst (λ t. HeldMay s c t r) (sym is) may)
first_may s c pages (NextOwn v) (mapped_rule table n rest) r is may =
    inl (subst (λ t. MappedMay s c t n r) (sym is.0) (subst (λ n. MappedMay s c pages.table n r) (sym is.1) may.1))
first_may s c pages (NextOwn v) (Does causes value edits) r is may = absurd (both (pages.cached v) is may.0)
first_may s c pages (NextOwn v) _ r is may = absurd is
first_may s c pages NextNothing rule r is may = absurd may
first_may s c pages (NextName n want) _ r is may = absurd is
first_may s c pages (NextFree target) _ r is may = absurd is
first_may s c pages (NextHeld target) _ r is may = absurd is

-- the laws
pub left_goes : LeftGoesBy
left_goes s c pages plan rule ks goes leads = goes_left (LeadsIn s c) pages plan.names plan.target [] rule ks goes leads

pub outcome_left : OutcomeIsLeft
outcome_left s c pages plan rule ks goes leads =
    before (LeadsIn s c) (λ x. outcome s c x ≡ outcome s c (rule_after rule ks))
    (λ n want rest k is h. ap (λ x. and_then x λ k. outcome s c (rest (found k))) is ∙ h)
    pages plan.names plan.target [] rule ks goes leads refl

pub left_may : LeftMayRefuse
left_may s c pages plan rule ks goes leads r may =
    before (LeadsIn s c) (λ x. RuleMay s c x r)
    (λ n want rest k is h. inr (subst (λ x. RuleMay s c (rest (name_of x)) r) (sym is) h))
    pages plan.names plan.target [] rule ks goes leads may

pub left_begins : (s : State) (c : ℕ) (pages : OwnPages) (plan : Plan) (rule : Rule) (ks : List Capability) → GoesBy pages plan rule
    → Leads (LeadsIn s c) plan.names [] ks
    → Begins pages (next_of plan ks) (rule_after rule ks)
left_begins s c pages plan rule ks goes leads =
    begins pages (names_after plan.names ks) plan.target (with_found [] ks) (rule_after rule ks)
    (left_goes s c pages plan rule ks goes leads)

pub next_may : NextMayRefuse
next_may s c pages plan rule ks goes leads r may =
    left_may s c pages plan rule ks goes leads r
    (first_may s c pages (next_of plan ks) (rule_after rule ks) r (left_begins s c pages plan rule ks goes leads) may)

pub leads_more : LeadsMore
leads_more s c plan ks k leads next =
    one_more (LeadsIn s c) plan.names plan.target [] ks k leads (same_next s c (next_of plan ks) k next)
