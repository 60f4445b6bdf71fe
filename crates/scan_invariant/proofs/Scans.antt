-- The scan for a place that is quiescing: a step of it is refused by a core that may still use what was removed, or goes on to the next
-- core, or to the counts of the act.
use Rattle.place_invariant.specs.core_invariant.proofs.{AtCore, AtFlush, Quiet, ◌≡◌, ◌≢◌, ◌⊎◌, ℕ, ◌+◌, ◌<◌, ◌≤◌, ◌==◌, ltb as nat_lt}
use Rattle.place_invariant.specs.core_invariant.proofs.{if◌then◌else◌, Bool, true, false, Option, Some, None, inl, inr, arith, refl, sym}
use Rattle.place_invariant.specs.core_invariant.proofs.{◌∙◌, ap, ◌&&◌, ◌++◌, subst, IsTrue, List, eq-eqb, eqb-true, ltb-false, Entry, Place}
use Rattle.place_invariant.specs.core_invariant.proofs.{Free, Holds, Quiescing, Thing, PlaceOf, State, core_scan, quiet_scan, Setting, Slot}
use Rattle.place_invariant.specs.core_invariant.proofs.{Target, reached, same_thing, Rule, Cause, Trace, NextFree, stamp_shown, PlaceIs}
use Rattle.place_invariant.specs.core_invariant.proofs.{IsScanned, MayFill, ◌||◌}
use Rattle.place_invariant.specs.act_states.specs.{next_other, first_other}
use Rattle.place_invariant.specs.kernel_history.specs.{Ways.asked_of, Ways.thing_at, Justified.IsRemovedPlace}
use Rattle.{std.proofs.lemmas.Bool.cases_eq, std.specs.List.list_any, place_invariant.specs.call_plans.specs.GoesBy.OwnPages}
use Rattle.{place_invariant.specs.call_plans.proofs.AfterNames.Begins}
use Rattle.place_invariant.specs.kernel_rules.specs.Rules as rules

-- The cores before the first of a scan, and before the next: all but the one that scans are passed.
pub before_first : (c d : ℕ) → d < first_other c → d ≢ c → ⊥
before_first c d below other = by (c == 0) refl below
  where
    by : (b : Bool) → (c == 0) ≡ b → d < (if b then 1 else 0) → ⊥
    by true is low = let a : c ≡ 0 = eqb-true c 0 is in other (omega arith)
    by false is low = omega arith

pub before_next : (c at d : ℕ) → d < next_other c at → d ≢ c → (d < at) ⊎ (d ≡ at)
before_next c at d below other = elim (cases_eq d at) [
  | inl same ↦ inr same
  | inr apart ↦ inl (by (at + 1 == c) refl below apart)
]
  where
    by : (b : Bool) → (at + 1 == c) ≡ b → d < (if b then at + 2 else at + 1) → d ≢ at → d < at
    by true is low apart = let a : at + 1 ≡ c = eqb-true (at + 1) c is in
        elim (cases_eq d (at + 1)) [
          | inl same ↦ absurd (other (omega arith))
          | inr there ↦ omega arith
        ]
    by false is low apart = omega arith

-- Where a scan begins: before the first other core, below which none is to be scanned; or before the first flush word, where there is no
-- other core.
pub data ScanBegins (x core cores : ℕ) (page : Bool) (q : Quiet) : Type 0 where
  AtCores : (upto : ℕ) → q ≡ AtCore x core upto page → ((d : ℕ) → d < upto → d ≢ core → ⊥) → ScanBegins x core cores page q
  AtFlushes : page ≡ true → q ≡ AtFlush x 0 → ((d : ℕ) → d < cores → d ≢ core → ⊥) → ScanBegins x core cores page q

some_quiet : (p r : Quiet) → Some p ≡ Some r → p ≡ r
some_quiet p r h = cc

none_quiet : (p : Quiet) → None ≡ Some p → ⊥
none_quiet p h = cc

none_other : (core cores : ℕ) → nat_lt (first_other core) cores ≡ false → (d : ℕ) → d < cores → d ≢ core → ⊥
none_other core cores past d below other =
    before_first core d (let more = ltb-false (first_other core) cores past in omega arith) other

pub scan_begins : (x core cores : ℕ) (page : Bool) → 1 ≤ x → (q : Quiet) → quiet_scan x core cores page ≡ Some q
    → ScanBegins x core cores page q
scan_begins x core cores page some q is = by (nat_lt (first_other core) cores) refl page
    (ap (λ b. if b then None else core_scan (nat_lt (first_other core) cores) x core (first_other core) page) (sym not_zero) ∙ is)
  where
    not_zero : (x == 0) ≡ false
    not_zero = Rattle.std.proofs.lemmas.Bool.ne_eqb x 0 (omega arith)

    by : (there : Bool) → nat_lt (first_other core) cores ≡ there → (page : Bool) → core_scan there x core (first_other core) page ≡ Some q
        → ScanBegins x core cores page q
    by true below page is = AtCores (first_other core) (sym (some_quiet _ q is)) (before_first core)
    by false past true is = AtFlushes refl (sym (some_quiet _ q is)) (none_other core cores past)
    by false past false is = absurd (none_quiet q is)

-- Where none is made, there is no other core, and no flush is awaited.
pub scan_none : (x core cores : ℕ) (page : Bool) → 1 ≤ x → quiet_scan x core cores page ≡ None
    → (page ≡ false) × ((d : ℕ) → d < cores → d ≢ core → ⊥)
scan_none x core cores page some is = by (nat_lt (first_other core) cores) refl page
    (ap (λ b. if b then None else core_scan (nat_lt (first_other core) cores) x core (first_other core) page) (sym not_zero) ∙ is)
  where
    not_zero : (x == 0) ≡ false
    not_zero = Rattle.std.proofs.lemmas.Bool.ne_eqb x 0 (omega arith)

    by : (there : Bool) → nat_lt (first_other core) cores ≡ there → (page : Bool) → core_scan there x core (first_other core) page ≡ None
        → (page ≡ false) × ((d : ℕ) → d < cores → d ≢ core → ⊥)
    by true low page is = absurd (cc)
    by false past true is = absurd (cc)
    by false past false is = (refl, none_other core cores past)

-- The stamp since which the word of a place shows that it is quiescing.
pub record ShowsSince (p : Place) (since x : ℕ) : Type 0 where
  pub removed : IsRemovedPlace p
  pub drawn : 1 ≤ x
  pub same : since ≡ x

pub since_is : (n : ℕ) (p : Place) (r x : ℕ) (o : Option Entry) → PlaceIs n p r o → o ≡ Some (Entry.Quiescing x) → ShowsSince p r x
since_is n Free r x o is shows = absurd (not_free (sym is ∙ shows))
  where
    not_free : Some Entry.Free ≡ Some (Entry.Quiescing x) → ⊥
    not_free h = cc
since_is n (Holds k) r x o is shows = absurd (not_held (sym is.0 ∙ shows))
  where
    not_held : Some (Entry.Held k) ≡ Some (Entry.Quiescing x) → ⊥
    not_held h = cc
since_is n (Quiescing k) r x o is shows =
    let same : r ≡ x = stamp_same (sym is.says ∙ shows) in record { removed = tt; drawn = (let d = is.drawn in omega arith); same = same }
  where
    stamp_same : Some (Entry.Quiescing r) ≡ Some (Entry.Quiescing x) → r ≡ x
    stamp_same h = cc

-- A word that may be filled, and since whose stamp is scanned, says that it is quiescing since then.
pub record IsScanFor (setup : Setting) (t : Trace) (c : ℕ) (thing : Thing) (x upto : ℕ) (o : Option Entry) : Type 0 where
  pub shows : o ≡ Some (Entry.Quiescing x)
  pub scanned : IsScanned setup t c thing x upto

pub scan_for : (setup : Setting) (t : Trace) (c : ℕ) (thing : Thing) (x upto : ℕ) (o : Option Entry) → stamp_shown o ≡ x → 1 ≤ x
    → MayFill setup t c thing upto o
    → IsScanFor setup t c thing x upto o
scan_for setup t c thing x upto None is some may = absurd may
scan_for setup t c thing x upto (Some Entry.Free) is some may = absurd (omega arith)
scan_for setup t c thing x upto (Some (Entry.Held k)) is some may = absurd may
scan_for setup t c thing x upto (Some (Entry.Closing by)) is some may = absurd may
scan_for setup t c thing x upto (Some (Entry.Quiescing y)) is some may =
    record { shows = ap (λ (n : ℕ). Some (Entry.Quiescing n)) is; scanned = subst (λ (n : ℕ). IsScanned setup t c thing n upto) is may }

-- A rule whose target is to be free asks for the grace period of the target's place.
pub asks_for : (of_cause : Cause → List Thing) (s : State) (c : ℕ) (pages : OwnPages) (target : Target) (rule : Rule) (at : Slot)
    → Begins pages (NextFree target) rule → reached s c target ≡ Some at
    → IsTrue (list_any (same_thing (PlaceOf at.node at.index)) (asked_of of_cause s c rule))
asks_for of_cause s c pages target (rules.Vacant u rest) at is way =
    subst (λ o. IsTrue (list_any (same_thing (PlaceOf at.node at.index)) (thing_at o ++ asked_of of_cause s c (rest (rules.slot_of o)))))
    (sym (ap (reached s c) is ∙ way)) (same (list_any (same_thing (PlaceOf at.node at.index)) (asked_of of_cause s c (rest at))))
  where
    same : (later : Bool) → IsTrue ((at.node == at.node && at.index == at.index) || later)
    same later = ap (λ b. (b && at.index == at.index) || later) (eq-eqb at.node at.node refl) ∙ ap (λ b. b || later)
        (eq-eqb at.index at.index refl)
asks_for of_cause s c pages target _ at is way = absurd is
