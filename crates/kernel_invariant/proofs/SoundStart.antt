-- The start state is sound.
use Rattle.kernel_rules.proofs.{◌≡◌, ℕ, ◌+◌, ◌-◌, ◌*◌, ◌<◌, ◌≤◌, Bool, true, false, refl, sym, ◌∙◌, ap, subst, arith, ◌==◌, ltb as nat_lt}
use Rattle.kernel_rules.proofs.{if◌then◌else◌, IsTrue, [], ◌∷◌, Option, Some, None, slice_get, false≢true, ne_eqb, eqb-true, ltb-true}
use Rattle.kernel_rules.proofs.{ltb-false, lt-ltb, Capability, Setting, IsSetting, Place, Holds, Quiescing, Frame, Untyped, Kernel, Thread}
use Rattle.kernel_rules.proofs.{Tcap, Unused, Live, start, start_place, start_frame, start_cap, core_cap, start_number, granted, plain_cap}
use Rattle.kernel_rules.proofs.{place_with, fits, IsGood, is_node, Kind}
use Rattle.kernel_invariant.proofs.SoundSteps.{free_holds, free_quiescing, holds_quiescing, holds_inj}
use Rattle.kernel_invariant.proofs.Sound.{IsObjectGood, IsSound}

-- A choice has what each of its cases has.
pub choose : {A : Type 0} (P : A → Type 0) (b : Bool) (x y : A) → (b ≡ true → P x) → (b ≡ false → P y) → P (if b then x else y)
choose P true x y hx hy = hx refl
choose P false x y hx hy = hy refl

pub if_not : {A : Type 0} (b : Bool) (x y : A) → b ≡ false → (if b then x else y) ≡ y
if_not b x y e = ap (λ b. if b then x else y) e

pub not_below : (a b : ℕ) → b ≤ a → nat_lt a b ≡ false
not_below a b h = tested (nat_lt a b) refl
  where
    tested : (t : Bool) → nat_lt a b ≡ t → t ≡ false
    tested true e = absurd (let p = ltb-true a b e in omega (arith, p, h))
    tested false e = refl

abbrev pub rest_of : Setting → ℕ → Frame
rest_of setting f =
    if nat_lt f (4 + setting.cores) then Kernel (Thread (record { stack = 3 ∷ []; runs_on = Some (f - 4) }))
    else (if nat_lt f (4 + 2 * setting.cores) then Kernel (Tcap (granted (slice_get setting.grants (f - 4 - setting.cores))))
    else Untyped)

pub past_three : (setting : Setting) (f : ℕ) → 4 ≤ f → start_frame setting f ≡ rest_of setting f
past_three setting f past =
    if_not (f == 0) _ _ (ne_eqb f 0 (λ e. omega (arith, past, e)))
    ∙ if_not (f == 1) _ _ (ne_eqb f 1 (λ e. omega (arith, past, e)))
    ∙ if_not (f == 2) _ _ (ne_eqb f 2 (λ e. omega (arith, past, e)))
    ∙ if_not (f == 3) _ _ (ne_eqb f 3 (λ e. omega (arith, past, e)))

thread_frame : (setting : Setting) (f : ℕ) → 4 ≤ f → f < 4 + setting.cores → IsTrue (fits Kind.Thread (start_frame setting f))
thread_frame setting f past below = subst (λ x. IsTrue (fits Kind.Thread x)) (sym (past_three setting f past))
    (choose (λ x. IsTrue (fits Kind.Thread x)) (nat_lt f (4 + setting.cores)) _ _
    (λ e. refl) (λ e. absurd (false≢true (sym e ∙ lt-ltb f (4 + setting.cores) below))))

tcap_frame : (setting : Setting) (f : ℕ) → 4 + setting.cores ≤ f
    → f < 4 + 2 * setting.cores → IsTrue (fits Kind.Tcap (start_frame setting f))
tcap_frame setting f past below = subst (λ x. IsTrue (fits Kind.Tcap x)) (sym (past_three setting f (omega (arith, past))))
    (choose (λ x. IsTrue (fits Kind.Tcap x)) (nat_lt f (4 + setting.cores)) _ _
    (λ e. absurd (false≢true (sym (not_below f (4 + setting.cores) past) ∙ e)))
    (λ e. choose (λ x. IsTrue (fits Kind.Tcap x)) (nat_lt f (4 + 2 * setting.cores)) _ _
    (λ e. refl) (λ e. absurd (false≢true (sym e ∙ lt-ltb f (4 + 2 * setting.cores) below)))))

untyped_frame : (setting : Setting) (f : ℕ) → 4 + 2 * setting.cores ≤ f → start_frame setting f ≡ Untyped
untyped_frame setting f past =
    past_three setting f (omega (arith, past))
    ∙ if_not (nat_lt f (4 + setting.cores)) _ _ (not_below f (4 + setting.cores) (omega (arith, past)))
    ∙ if_not (nat_lt f (4 + 2 * setting.cores)) _ _ (not_below f (4 + 2 * setting.cores) past)

-- A capability of the start is good, and its number is small.
abbrev CapGood : Setting → ℕ → Option Capability → Type 0
CapGood setting i None = Unit {0}
CapGood setting i (Some k) = IsGood (start setting) k × (i < 64)

core_good : (setting : Setting) → IsSetting setting → (i : ℕ) → CapGood setting i (core_cap setting i)
core_good setting lim i =
    choose (CapGood setting i) (nat_lt i 4) _ _ (λ e. tt) λ past.
    choose (CapGood setting i) (nat_lt i (4 + setting.cores)) _ _
    (λ e.
    let low : 4 ≤ i = ltb-false i 4 past in
    let high : i < 4 + setting.cores = ltb-true i (4 + setting.cores) e in
    let n = lim.most_cores in
    (record { fit = thread_frame setting i low high; within = tt }, omega (arith, high, n)))
    λ e1. choose (CapGood setting i) (nat_lt i 12) _ _ (λ e. tt) λ past2.
    choose (CapGood setting i) (nat_lt i (12 + setting.cores)) _ _
    (λ e.
    let low : 12 ≤ i = ltb-false i 12 past2 in
    let high : i < 12 + setting.cores = ltb-true i (12 + setting.cores) e in
    let n = lim.most_cores in (
      record { fit = tcap_frame setting (4 + setting.cores + (i - 12)) (omega arith) (omega (arith, low, high)); within = tt },
      omega (arith, high, n),
    ))
    λ e2. tt

range_within : (n frames : ℕ) → 4 + 2 * n ≤ frames → (4 + 2 * n) + (frames - 4 - 2 * n) ≤ frames
range_within n frames h = omega (arith, h)

cap_good : (setting : Setting) → IsSetting setting → (i : ℕ) → CapGood setting i (start_cap setting i)
cap_good setting lim i =
    choose (CapGood setting i) (i == 0) _ _
    (λ e. let p = eqb-true i 0 e in
    (record { fit = refl; within = range_within setting.cores setting.frames lim.least_frames }, omega (arith, p)))
    λ e. choose (CapGood setting i) (i == 1) _ _
    (λ e. let p = eqb-true i 1 e in (record { fit = refl; within = tt }, omega (arith, p)))
    λ e. choose (CapGood setting i) (i == 2) _ _
    (λ e. let p = eqb-true i 2 e in (record { fit = refl; within = tt }, omega (arith, p)))
    λ e. choose (CapGood setting i) (i == 3) _ _
    (λ e. let p = eqb-true i 3 e in (record { fit = refl; within = tt }, omega (arith, p)))
    λ e. core_good setting lim i

-- A place of the start that holds a capability is in a node, and the capability is good.
abbrev PlaceGood : Setting → ℕ → ℕ → Place → Type 0
PlaceGood setting f i p = (k : Capability) → p ≡ Holds k → IsGood (start setting) k × IsTrue (is_node (start_frame setting f)) × (i < 64)

with_good : (setting : Setting) (f i : ℕ) (o : Option Capability) → f ≡ 1 → CapGood setting i o → PlaceGood setting f i (place_with o)
with_good setting f i None is good k e = absurd (free_holds k e)
with_good setting f i (Some j) is good k e =
    (subst (IsGood (start setting)) (holds_inj j k e) good.0, subst (λ n. IsTrue (is_node (start_frame setting n))) (sym is) refl, good.1)

place_good : (setting : Setting) → IsSetting setting → (f i : ℕ) → PlaceGood setting f i (start_place setting f i)
place_good setting lim f i =
    choose (PlaceGood setting f i) (f == 0) _ _
    (λ e. choose (PlaceGood setting f i) (i == 0) _ _
    (λ q k is. (
      subst (IsGood (start setting)) (holds_inj (plain_cap Kind.Link 1) k is) (record { fit = refl; within = tt }),
      subst (λ n. IsTrue (is_node (start_frame setting n))) (sym (eqb-true f 0 e)) refl,
      (let p = eqb-true i 0 q in omega (arith, p)),
    ))
    (λ q k is. absurd (free_holds k is)))
    λ e. choose (PlaceGood setting f i) (f == 1) _ _
    (λ q. with_good setting f i (start_cap setting i) (eqb-true f 1 q) (cap_good setting lim i))
    (λ q k is. absurd (free_holds k is))

not_quiescing : (setting : Setting) (f i : ℕ) (k : Capability) → start_place setting f i ≡ Quiescing k → ⊥
not_quiescing setting f i k =
    choose (λ p. p ≡ Quiescing k → ⊥) (f == 0) _ _
    (λ e. choose (λ p. p ≡ Quiescing k → ⊥) (i == 0) _ _
    (λ q is. holds_quiescing (plain_cap Kind.Link 1) k is) (λ q is. free_quiescing k is))
    λ e. choose (λ p. p ≡ Quiescing k → ⊥) (f == 1) _ _
    (λ q. cap_not (start_cap setting i)) (λ q is. free_quiescing k is)
  where
    cap_not : (o : Option Capability) → place_with o ≡ Quiescing k → ⊥
    cap_not None is = free_quiescing k is
    cap_not (Some j) is = holds_quiescing j k is

object_good : (setting : Setting) (f : ℕ) → IsObjectGood (start setting) (start_frame setting f)
object_good setting f =
    choose (IsObjectGood (start setting)) (f == 0) _ _ (λ e. tt) λ e.
    choose (IsObjectGood (start setting)) (f == 1) _ _ (λ e. tt) λ e.
    choose (IsObjectGood (start setting)) (f == 2) _ _ (λ e. tt) λ e.
    choose (IsObjectGood (start setting)) (f == 3) _ _ (λ e. (refl, refl)) λ e.
    choose (IsObjectGood (start setting)) (nat_lt f (4 + setting.cores)) _ _ (λ e. (refl, tt)) λ e.
    choose (IsObjectGood (start setting)) (nat_lt f (4 + 2 * setting.cores)) _ _ (λ e. tt) λ e. tt

number_good : (setting : Setting) (l e f : ℕ) → start_number l ≡ Live e f → IsTrue (fits Kind.Comp (start_frame setting f)) × (l < 64)
number_good setting l e f =
    choose (λ x. x ≡ Live e f → IsTrue (fits Kind.Comp (start_frame setting f)) × (l < 64)) (l == 0) _ _
    (λ q is. (
      subst (λ n. IsTrue (fits Kind.Comp (start_frame setting n))) (live_inj is) refl,
      (let p = eqb-true l 0 q in omega (arith, p)),
    ))
    (λ q is. absurd (unused_live is))
  where
    live_inj : Live 1 3 ≡ Live e f → 3 ≡ f
    live_inj q = cc

    unused_live : Unused ≡ Live e f → ⊥
    unused_live q = cc

pub start_sound : (setting : Setting) → IsSetting setting → IsSound (start setting) (λ c. false)
start_sound setting lim = record {
  held = λ f i k e. (place_good setting lim f i k e).0;
  waiting = λ f i k c e. absurd (not_quiescing setting f i k e);
  objects = object_good setting;
  cores = λ c m. (
    thread_frame setting (4 + c) (omega arith) (omega (arith, m)),
    tcap_frame setting (4 + setting.cores + c) (omega arith) (omega (arith, m)),
  );
  numbers = number_good setting;
  beyond = λ f past. let p = lim.least_frames in untyped_frame setting f (omega (arith, p, past));
  bare = λ f i k e. let p : IsGood (start setting) k × IsTrue (is_node (start_frame setting f)) × (i < 64) =
      place_good setting lim f i k e in (p.1, p.2);
  inside = λ c q. absurd (false≢true q);
}
