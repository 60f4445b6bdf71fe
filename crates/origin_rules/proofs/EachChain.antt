-- Each capability that a place holds after a run has the chain of that place.
use Rattle.kernel_invariant.specs.kernel_rules.proofs as low
use low.{◌≡◌, ◌⊎◌, inl, inr, ℕ, ◌+◌, Bool, true, false, ◌&&◌, ◌==◌, refl, sym, ◌∙◌, ap, subst, List, [], ◌∷◌, Option, Some, None}
use low.{if◌then◌else◌, false≢true, eqb-true, eq-eqb, Capability, Setting, Call, Value, Reply, Place, Free, Holds, Quiescing, start_cap}
use low.{start_place, place_with, Slot, usable, usable_in, place_at, Change, Judged, Refused, Found, IsFoundAnd, MayReply, change_of}
use low.{changed, owed_by, state_by, rule_of, Event, Enters, Decides, Returns, after, IsRun, IfFound, PlaceOf, Kind}
use Rattle.origin_rules.specs.{Origin, Put, puts, puts_by, decided, origin_of, is_own, HasChain}
use Rattle.kernel_invariant.proofs.{outcome_from, none_some, some_inj}
use Rattle.origin_rules.specs.{declared.chains.Step.Step, declared.chains.Step.TheVariants.Copied, declared.chains.Step.TheVariants.Made}
use Rattle.origin_rules.specs.{declared.chains.Step.TheVariants.Gated, declared.chains.Step.TheVariants.Parted}
use Rattle.origin_rules.specs.{declared.chains.ChainLink.ChainLink, Chains.with_put, Derived.Falls, Derived.ChainsAreReal}
use Rattle.origin_rules.proofs.{Placed.shown, Placed.Placed, Placed.IsNew, Placed.IsKept, Placed.call_placed, Falling.rights_only_fall}
use Rattle.{std.proofs.lemmas.Bool.and_parts, kernel_invariant.specs.kernel_rules.specs.State.State}

-- ---- a chain stays while the run goes on

pub chain_stays : (setting : Setting) (xs : List ChainLink) (start : ℕ) (e : Event) (events : List Event) (k : Capability)
    → HasChain setting xs start events k → HasChain setting xs start (e ∷ events) k
chain_stays setting [] start e events k h = h
chain_stays setting (x ∷ xs) start e events k h = record {
  before = h.before;
  later = e ∷ h.later;
  core = h.core;
  call = h.call;
  value = h.value;
  is_part = ap (λ es. e ∷ es) h.is_part;
  number = h.number;
  parent = h.parent;
  gives = h.gives;
  chain = h.chain;
}

-- ---- the places after a decision

owed_place : (s : State) (c : ℕ) (call : Call) → (owed_by s c call).place ≡ s.place
owed_place s c (Call.Tick n) = refl
owed_place s c call = refl

-- After a call that is carried out, what each place shows was put or kept.
ok_placed : (s : State) (c : ℕ) (call : Call) (v : Value) → IsFoundAnd (change_of s c call) (λ change. change.value ≡ v)
    → (f i : ℕ) (k : Capability) → shown ((changed s (change_of s c call)).place f i) ≡ Some k → is_own k.kind ≡ true
    → IsNew s c call f i k ⊎ IsKept s c call f i k
ok_placed s c call v ok = by_outcome (change_of s c call) ok (outcome_from (Placed s c call) s c (rule_of s c call) (call_placed s c call))
  where
    by_outcome : (x : Judged Change) → IsFoundAnd x (λ change. change.value ≡ v) → IfFound x (Placed s c call)
        → (f i : ℕ) (k : Capability) → shown ((changed s x).place f i) ≡ Some k → is_own k.kind ≡ true
        → IsNew s c call f i k ⊎ IsKept s c call f i k
    by_outcome (Refused r) ok placed = absurd ok
    by_outcome (Found change) ok placed = placed.shows

-- ---- the origin of what was put, and of what was kept

eq_self : (n : ℕ) → (n == n) ≡ true
eq_self n = eq-eqb n n refl

-- At the slot of what is put.
pub put_origin : (d : ℕ) (p : Put) (origin : ℕ → ℕ → Origin) (f i : ℕ) → f ≡ p.at.node → i ≡ p.at.index
    → with_put d (Some p) origin f i ≡ record {
      links = record { decision = d; what = p.what } ∷ (origin p.parent.node p.parent.index).links;
      start = (origin p.parent.node p.parent.index).start;
    }
put_origin d p origin f i here on =
    ap (λ b. if b then record {
      links = record { decision = d; what = p.what } ∷ (origin p.parent.node p.parent.index).links;
      start = (origin p.parent.node p.parent.index).start;
    } else origin f i) (ap (λ b. b && i == p.at.index) (eq-eqb f p.at.node here) ∙ eq-eqb i p.at.index on)

-- Elsewhere.
pub kept_origin : (d : ℕ) (o : Option Put) (origin : ℕ → ℕ → Origin) (f i : ℕ)
    → ((p : Put) → o ≡ Some p → f ≡ p.at.node → i ≡ p.at.index → ⊥) → with_put d o origin f i ≡ origin f i
kept_origin d None origin f i apart = refl
kept_origin d (Some p) origin f i apart = by_test (f == p.at.node && i == p.at.index) refl
  where
    by_test : (b : Bool) → (f == p.at.node && i == p.at.index) ≡ b → (if b then record {
      links = record { decision = d; what = p.what } ∷ (origin p.parent.node p.parent.index).links;
      start = (origin p.parent.node p.parent.index).start;
    } else origin f i) ≡ origin f i
    by_test true e =
        let both = and_parts (f == p.at.node) (i == p.at.index) e in
        absurd (apart p refl (eqb-true f p.at.node both.0) (eqb-true i p.at.index both.1))
    by_test false e = refl

-- ---- the law

-- What a core may use at a slot is shown there.
usable_shown : (s : State) (c : ℕ) (at : Slot) (k : Capability) → usable s c at ≡ Some k → shown (place_at s at) ≡ Some k
usable_shown s c at k = by_place (place_at s at) ((s.grace (PlaceOf at.node at.index)).waits c)
  where
    by_place : (p : Place) (b : Bool) → usable_in p b ≡ Some k → shown p ≡ Some k
    by_place Free b e = e
    by_place (Holds j) b e = e
    by_place (Quiescing j) true e = e
    by_place (Quiescing j) false e = absurd (none_some k e)

-- The parent of what cores can name is one that they can name.
parent_own : (what : Step) (parent k : Capability) → is_own k.kind ≡ true → Falls what parent k → is_own parent.kind ≡ true
parent_own Copied parent k own falls = ap is_own (sym falls.kind) ∙ own
parent_own Made parent k own falls = ap is_own falls.kind
parent_own Gated parent k own falls = ap is_own falls.kind
parent_own Parted parent k own falls = ap is_own falls.parent_kind

abbrev pub EachHas : Setting → List Event → Type 0
EachHas setting events = (f i : ℕ) (k : Capability) → shown ((after setting events).place f i) ≡ Some k → is_own k.kind ≡ true
    → HasChain setting (origin_of setting events f i).links (origin_of setting events f i).start events k

start_has : (setting : Setting) → EachHas setting []
start_has setting f i k = by_node (f == 0) (i == 0) (f == 1)
  where
    with_cap : (o : Option Capability) → shown (place_with o) ≡ Some k → o ≡ Some k
    with_cap None e = e
    with_cap (Some j) e = e

    by_node : (a b d : Bool)
        → shown (if a then (if b then Holds (Rattle.kernel_invariant.specs.kernel_rules.specs.Start.plain_cap Kind.Link 1) else Free)
        else (if d then place_with (start_cap setting i) else Free)) ≡ Some k
        → is_own k.kind ≡ true → start_cap setting i ≡ Some k
    by_node true true d e own = absurd (false≢true (ap (λ (j : Capability). is_own j.kind) (some_inj _ _ e) ∙ own))
    by_node true false d e own = absurd (none_some k e)
    by_node false b true e own = with_cap (start_cap setting i) e
    by_node false b false e own = absurd (none_some k e)

module _ (setting : Setting) (c : ℕ) (call : Call) (events : List Event) (each : EachHas setting events) where
  -- nothing is put, and the places stay
  kept_has : (r : Reply) → puts_by (after setting events) c call r ≡ None
      → (state_by (after setting events) c call r).place ≡ (after setting events).place → EachHas setting (Decides c call r ∷ events)
  kept_has r none same f i k is own =
      let was : shown ((after setting events).place f i) ≡ Some k =
      ap (λ (places : ℕ → ℕ → Place). shown (places f i)) (sym same) ∙ is in
      let one : origin_of setting (Decides c call r ∷ events) f i ≡ origin_of setting events f i =
      kept_origin (decided events + 1) (puts_by (after setting events) c call r) (origin_of setting events) f i
      (λ p e a b. none_some p (sym none ∙ e)) in
      subst (λ (o : Origin). HasChain setting o.links o.start (Decides c call r ∷ events) k) (sym one)
      (chain_stays setting _ _ (Decides c call r) events k (each f i k was own))

  ok_has : (v : Value) → MayReply (after setting events) c call (Reply.Ok v) → EachHas setting (Decides c call (Reply.Ok v) ∷ events)
  ok_has v may f i k is own = elim (ok_placed (after setting events) c call v may.1.1 f i k is own) [
    | inl new ↦
        let p = new.put in
        let falls = rights_only_fall (after setting events) c call p.what new.parent k new.gives in
        let own_parent = parent_own p.what new.parent k own falls in
        let shows = usable_shown (after setting events) c p.parent new.parent new.from in
        let one : origin_of setting (Decides c call (Reply.Ok v) ∷ events) f i ≡ _ =
        ap (λ o. with_put (decided events + 1) o (origin_of setting events) f i) new.is
        ∙ put_origin (decided events + 1) p (origin_of setting events) f i new.node new.index in
        subst (λ (o : Origin). HasChain setting o.links o.start (Decides c call (Reply.Ok v) ∷ events) k) (sym one)
        (record {
          before = events;
          later = [];
          core = c;
          call = call;
          value = v;
          is_part = refl;
          number = refl;
          parent = new.parent;
          gives = new.gives;
          chain = each p.parent.node p.parent.index new.parent shows own_parent;
        })
    | inr old ↦
        let one : origin_of setting (Decides c call (Reply.Ok v) ∷ events) f i ≡ origin_of setting events f i =
        kept_origin (decided events + 1) (puts (after setting events) c call) (origin_of setting events) f i old.apart in
        subst (λ (o : Origin). HasChain setting o.links o.start (Decides c call (Reply.Ok v) ∷ events) k) (sym one)
        (chain_stays setting _ _ (Decides c call (Reply.Ok v)) events k (each f i k old.was own))
  ]

  decides_has : (r : Reply) → MayReply (after setting events) c call r → EachHas setting (Decides c call r ∷ events)
  decides_has (Reply.Ok v) may = ok_has v may
  decides_has Reply.CallsSpent may = kept_has Reply.CallsSpent refl refl
  decides_has Reply.Raced may = kept_has Reply.Raced refl (owed_place (after setting events) c call)
  decides_has (Reply.Busy d) may = kept_has (Reply.Busy d) refl (owed_place (after setting events) c call)
  decides_has r may = kept_has r refl refl

pub each_has : (setting : Setting) (events : List Event) → IsRun setting events → EachHas setting events
each_has setting [] run = start_has setting
each_has setting (Enters c call ∷ events) run = λ f i k is own.
    chain_stays setting _ _ (Enters c call) events k (each_has setting events run.0 f i k is own)
each_has setting (Decides c call r ∷ events) run = decides_has setting c call events (each_has setting events run.0) r run.1.permitted
each_has setting (Returns c ∷ events) run = λ f i k is own.
    chain_stays setting _ _ (Returns c) events k (each_has setting events run.0 f i k is own)

pub chains_are_real : ChainsAreReal
chains_are_real setting lim events run f i k is own = each_has setting events run f i k (ap shown is) own
