-- In every state that a run reaches, the numbers are in range.
use Rattle.found_stays.specs.kernel_rules.proofs.{◌≡◌, ◌≢◌, inl, inr, ℕ, zero, suc, ◌+◌, ◌*◌, ◌<◌, ◌≤◌, ◌-◌, ◌^◌, ◌==◌, Bool, true, false}
use Rattle.found_stays.specs.kernel_rules.proofs.{refl, sym, ◌∙◌, ap, subst, arith, leb as nat_le, ltb as nat_lt, List, [], ◌∷◌, length}
use Rattle.found_stays.specs.kernel_rules.proofs.{slice_get, fold, All, leb-false, ltb-true, ltb-false, Setting, IsSetting, InLimits, Grant}
use Rattle.found_stays.specs.kernel_rules.proofs.{Call, Tick, Value, Reply, Comp, Thread, Tcap, Frame, Kernel, Core, Limits, put, with_core}
use Rattle.found_stays.specs.kernel_rules.proofs.{tcap_in, outstanding, start, granted, sum_below, Change, Judged, Refused, Found}
use Rattle.found_stays.specs.kernel_rules.proofs.{IsFoundAnd, change_of, changed, counted, owed_by, state_by, MayReply, FrameInRange}
use Rattle.found_stays.specs.kernel_rules.proofs.{NumberInRange, Event, Enters, Decides, Returns, after, is_open, IsRun, ticks, IfFound}
use Rattle.found_stays.specs.kernel_rules.proofs.{put_same, put_other, decided_stays}
use Rattle.found_stays.specs.kernel_invariant.proofs.{IsSound, put_all, IsOpen, choose, opened, open_is, open_limits, runs_sound, found_by}
use Rattle.std.proofs.lemmas.Bool.{cases_eq, cases_lt}
use Rattle.found_stays.specs.kernel_rules.specs.{State.State, Ranges.budget_at}
use Rattle.kernel_laws.proofs.{TicksLaw.ticks_kept, Back.within_spent, Shapes.ListInRange, Shapes.FrameShape, Shapes.CoreShape}
use Rattle.kernel_laws.proofs.{Shapes.Shaped, Shapes.Grows, Shapes.ShapedBy, Shapes.shaped_by}
use Rattle.{found_stays.specs.spk_nums.specs.Setting.GrantFits, kernel_laws.specs.Laws.RangesHold}

-- the shape

-- Another core, with as many ticks, calls and translations, or one call more for at most 1,000,000 ticks more.
core_shape : (s : State) (c : ℕ) (k : Core) → CoreShape s.limits.calls k → ((d : ℕ) → CoreShape s.limits.calls (s.core d)) → (d : ℕ)
    → CoreShape s.limits.calls (put s.core c k d)
core_shape s c k new h d = put_all (λ d k. CoreShape s.limits.calls k) s.core c k d (λ same. new) (λ other. h d)

-- A call that is counted and whose calls were not spent.
counted_shape : (calls : ℕ) (k m : Core) → nat_le calls k.counted ≡ false → Grows k m → CoreShape calls k
    → CoreShape calls (record m { counted = m.counted + 1 })
counted_shape calls k m more grows h =
    let less : k.counted < calls = leb-false calls k.counted more in
    let a = grows.counted in
    let b = grows.charged in
    let d = h.charged in
    record { counted = omega (arith, less, a); charged = omega (arith, a, b, d); cached = grows.cached }

limited : (s t : State) → t.limits ≡ s.limits → ((f : ℕ) → FrameShape s.limits.epochs (t.frame f))
    → ((l : ℕ) → NumberInRange s.limits.epochs (t.number l))
    → ((c : ℕ) → CoreShape s.limits.calls (t.core c)) → Shaped t
limited s t e frames numbers cores = record {
  frames = λ f. subst (λ (l : Limits). FrameShape l.epochs (t.frame f)) (sym e) (frames f);
  numbers = λ n. subst (λ (l : Limits). NumberInRange l.epochs (t.number n)) (sym e) (numbers n);
  cores = λ c. subst (λ (l : Limits). CoreShape l.calls (t.core c)) (sym e) (cores c);
}

found_shape : (s : State) (c : ℕ) (v : Value) (x : Judged Change) → nat_le s.limits.calls (s.core c).counted ≡ false → Shaped s
    → IfFound x (ShapedBy s c) → IsFoundAnd x (λ k. k.value ≡ v)
    → (counted (changed s x) c).limits ≡ s.limits → Shaped (counted (changed s x) c)
found_shape s c v (Refused r) more h by ok e = absurd ok
found_shape s c v (Found change) more h by ok e = limited s (counted (changed s (Found change)) c) e by.frames by.numbers
    (λ d. put_all (λ d k. CoreShape s.limits.calls k) change.next.core c _ d
    (λ same. counted_shape s.limits.calls (s.core c) (change.next.core c) more by.own (h.cores c))
    (λ other. subst (CoreShape s.limits.calls) (sym (by.others d other)) (h.cores d)))

-- A refused call is counted, and owes at most its own ticks more.
refused_shape : (s : State) (c : ℕ) (k : Core) → nat_le s.limits.calls (s.core c).counted ≡ false → Grows (s.core c) k → Shaped s
    → Shaped (with_core s c (record k { counted = k.counted + 1 }))
refused_shape s c k more grows h = record {
  frames = h.frames;
  numbers = h.numbers;
  cores = core_shape s c _ (counted_shape s.limits.calls (s.core c) k more grows (h.cores c)) h.cores;
}

stays : (s : State) (c : ℕ) → Shaped s → Grows (s.core c) (s.core c)
stays s c h = record { counted = refl; charged = omega arith; cached = (h.cores c).cached }

twice : (s : State) (c : ℕ) (k : Core) → Shaped (with_core s c (record k { counted = k.counted + 1 }))
    → Shaped (counted (with_core s c k) c)
twice s c k h = record {
  frames = h.frames;
  numbers = h.numbers;
  cores = λ d. put_all (λ d k. CoreShape s.limits.calls k) (put s.core c k) c _ d
      (λ same. subst (λ (m : Core). CoreShape s.limits.calls (record m { counted = m.counted + 1 })) (sym (put_same s.core c k c refl))
      (subst (CoreShape s.limits.calls) (put_same s.core c (record k { counted = k.counted + 1 }) c refl) (h.cores c)))
      (λ other. subst (CoreShape s.limits.calls)
      (put_other s.core c (record k { counted = k.counted + 1 }) d other ∙ sym (put_other s.core c k d other)) (h.cores d));
}

owed_shape : (s : State) (c : ℕ) (call : Call) → InLimits call → nat_le s.limits.calls (s.core c).counted ≡ false → Shaped s
    → Shaped (counted (owed_by s c call) c)
owed_shape s c (Tick n) lim more h =
    twice s c (record (s.core c) { owed = (s.core c).owed + n })
    (refused_shape s c (record (s.core c) { owed = (s.core c).owed + n }) more
    (record { counted = refl; charged = omega (arith, lim); cached = (h.cores c).cached }) h)
owed_shape s c _ lim more h = refused_shape s c (s.core c) more (stays s c h) h

decided_shape : (s : State) (o : ℕ → Bool) (c : ℕ) (call : Call) (r : Reply) → IsOpen s o c → InLimits call → MayReply s c call r
    → Shaped s → Shaped (state_by s c call r)
decided_shape s o c call (Reply.Ok v) turn lim may h = found_shape s c v (change_of s c call) may.0 h
    (found_by s c call (ShapedBy s c) (shaped_by s o c turn h call lim))
    may.1.1 (decided_stays s c call (Reply.Ok v)).limits
decided_shape s o c call Reply.CallsSpent turn lim may h = h
decided_shape s o c call Reply.Raced turn lim may h = owed_shape s c call lim may.0 h
decided_shape s o c call (Reply.Busy e) turn lim may h = owed_shape s c call lim may.0 h
decided_shape s o c call _ turn lim may h = refused_shape s c (s.core c) may.0 (stays s c h) h

-- What holds of all of a list holds of its first, and of all others.
all_first : {A : Type 0} (P : A → Type 0) (x : A) (xs : List A) → All P (x ∷ xs) → P x
all_first P x xs h = h 0 x (omega arith)

all_rest : {A : Type 0} (P : A → Type 0) (x : A) (xs : List A) → All P (x ∷ xs) → All P xs
all_rest P x xs h = λ k d less. h (suc k) d (omega (arith, less))

-- The shape of the start.
grant_shape : (gs : List Grant) → All GrantFits gs → (i : ℕ) → i < length gs → ListInRange (granted (slice_get gs i)).qualities
grant_shape [] fits i less = absurd (omega (arith, less))
grant_shape (g ∷ gs) fits zero less =
    let f = all_first GrantFits g gs fits in
    record { least = omega arith; most = omega arith; pairs = ((f.1, f.2, f.3), tt, tt) }
grant_shape (g ∷ gs) fits (suc i) less = grant_shape gs (all_rest GrantFits g gs fits) i (omega (arith, less))

start_shape : (setting : Setting) → IsSetting setting → Shaped (start setting)
start_shape setting lim = record {
  frames = λ f.
      choose P (f == 0) _ _ (λ e. tt) λ e.
      choose P (f == 1) _ _ (λ e. tt) λ e.
      choose P (f == 2) _ _ (λ e. tt) λ e.
      choose P (f == 3) _ _ (λ e. record { number = omega arith; epoch = record { least = omega arith; most = lim.some_epoch } }) λ e.
      choose P (nat_lt f (4 + setting.cores)) _ _ (λ e. record { least = omega arith; most = omega arith }) λ a.
      choose P (nat_lt f (4 + 2 * setting.cores)) _ _
      (λ b. grant_shape setting.grants lim.grants_fit (f - 4 - setting.cores)
      (let low = ltb-false f (4 + setting.cores) a in let high = ltb-true f (4 + 2 * setting.cores) b in
      let n = lim.granted in omega (arith, low, high, n)))
      (λ b. tt);
  numbers = λ l. choose (NumberInRange setting.epochs) (l == 0) _ _ (λ e. record { least = omega arith; most = lim.some_epoch }) (λ e. tt);
  cores = λ c. record { counted = omega arith; charged = omega arith; cached = omega arith };
}
  where
    P : Frame → Type 0
    P x = FrameShape setting.epochs x

entered_shape : (s : State) (c : ℕ) (b : Bool) → Shaped s → Shaped (with_core s c (record (s.core c) { inside = b }))
entered_shape s c b h = record {
  frames = h.frames;
  numbers = h.numbers;
  cores = core_shape s c _ (record { counted = (h.cores c).counted; charged = (h.cores c).charged; cached = (h.cores c).cached }) h.cores;
}

pub runs_shape : (setting : Setting) → IsSetting setting → (events : List Event) → IsRun setting events → Shaped (after setting events)
runs_shape setting lim [] run = start_shape setting lim
runs_shape setting lim (Enters c call ∷ events) run = entered_shape (after setting events) c true (runs_shape setting lim events run.0)
runs_shape setting lim (Returns c ∷ events) run =
    returned_shape (entered_shape (after setting events) c false (runs_shape setting lim events run.0))
  where
    returned_shape : Shaped (with_core (after setting events) c (record ((after setting events).core c) { inside = false }))
        → Shaped (after setting (Returns c ∷ events))
    returned_shape h = record { frames = h.frames; numbers = h.numbers; cores = h.cores }
runs_shape setting lim (Decides c call r ∷ events) run =
    decided_shape (after setting events) (opened events) c call r (open_is setting lim events c run.0 (ap is_open run.1.is_open))
    (open_limits setting events c call run.0 run.1.is_open) run.1.permitted (runs_shape setting lim events run.0)

-- the sum of ticks

-- A term of a sum is no more than it, and two terms neither.
sum_term : (f : ℕ → ℕ) (n i : ℕ) → i < n → f i ≤ sum_below f n
unfolding sum_below
sum_term f zero i less = absurd (omega (arith, less))
sum_term f (suc n) i less = elim (cases_eq i n) [
  | inl same ↦ (let e = ap f same in omega (arith, e))
  | inr other ↦ (let a = sum_term f n i (omega (arith, less, other)) in omega (arith, a))
]

sum_two : (f : ℕ → ℕ) (n i j : ℕ) → i ≢ j → i < n → j < n → f i + f j ≤ sum_below f n
unfolding sum_below
sum_two f zero i j apart less low = absurd (omega (arith, less))
sum_two f (suc n) i j apart less low = elim (cases_eq i n) [
  | inl same ↦ (let e = ap f same in let a = sum_term f n j (omega (arith, low, same, apart)) in omega (arith, a, e))
  | inr other ↦ elim (cases_eq j n) [
    | inl same ↦ (let e = ap f same in let a = sum_term f n i (omega (arith, less, other)) in omega (arith, a, e))
    | inr past ↦ (let a = sum_two f n i j apart (omega (arith, less, other)) (omega (arith, low, past)) in omega (arith, a))
  ]
]

-- The grants of at most 8 cores, each at most 500,000,000 ticks.
grants_from : (gs : List Grant) (a : ℕ) → All GrantFits gs → fold (λ a g. a + g.budget) a gs ≤ a + 500000000 * length gs
grants_from [] a fits = omega arith
grants_from (g ∷ gs) a fits =
    let p = grants_from gs (a + g.budget) (all_rest GrantFits g gs fits) in let q = (all_first GrantFits g gs fits).0 in omega (arith, p, q)

few_ticks : (setting : Setting) → IsSetting setting → (events : List Event) → IsRun setting events
    → ticks (after setting events) ≤ 4000000000
few_ticks setting lim events run =
    let a = ticks_kept setting lim events run in
    let b = grants_from setting.grants 0 lim.grants_fit in
    let c = lim.granted in
    let d = lim.most_cores in
    omega (arith, a, b, c, d)

module _ (s : State) (o : ℕ → Bool) (h : IsSound s o) (few : ticks s ≤ 4000000000) where
  budget_past : (f : ℕ) → s.limits.frames ≤ f → budget_at s f ≡ 0
  budget_past f past = ap (λ x. (tcap_in x).budget) (h.beyond f past)

  budget_small : (f : ℕ) → budget_at s f < 2 ^ 32
  budget_small f = elim (cases_lt f s.limits.frames) [
    | inl below ↦ (let a = sum_term (budget_at s) s.limits.frames f below in omega (arith, a, few))
    | inr past ↦ (let a = budget_past f past in omega (arith, a))
  ]

  budgets_small : (f g : ℕ) → f ≢ g → budget_at s f + budget_at s g < 2 ^ 32
  budgets_small f g apart = elim (cases_lt f s.limits.frames) [
    | inr past ↦ (let a = budget_past f past in let b = budget_small g in omega (arith, a, b))
    | inl below ↦ elim (cases_lt g s.limits.frames) [
      | inr past ↦ (let a = budget_past g past in let b = budget_small f in omega (arith, a, b))
      | inl less ↦ (let a = sum_two (budget_at s) s.limits.frames f g apart below less in omega (arith, a, few))
    ]
  ]

  spending_small : (f c : ℕ) → c < s.limits.cores → budget_at s f + outstanding (s.core c) < 2 ^ 32
  spending_small f c core =
      let b = sum_term (λ d. outstanding (s.core d)) s.limits.cores c core in
      elim (cases_lt f s.limits.frames) [
        | inl below ↦ (let a = sum_term (budget_at s) s.limits.frames f below in omega (arith, a, b, few))
        | inr past ↦ (let a = budget_past f past in omega (arith, a, b, few))
      ]

in_frame : (epochs : ℕ) (x : Frame) → FrameShape epochs x → (tcap_in x).budget < 2 ^ 32 → FrameInRange epochs x
in_frame epochs (Kernel (Tcap q)) h small = record { least = h.least; most = h.most; pairs = h.pairs; budget = small }
in_frame epochs (Kernel (Comp k)) h small = h
in_frame epochs (Kernel (Thread t)) h small = h
in_frame epochs _ h small = tt

pub ranges_hold : RangesHold
ranges_hold setting lim events run = record {
  frames = λ f. in_frame s.limits.epochs (s.frame f) (shape.frames f) (budget_small s (opened events) sound few f);
  numbers = shape.numbers;
  cores = λ c core.
      let k : CoreShape s.limits.calls (s.core c) = shape.cores c in
      record { counted = k.counted; charged = k.charged; back = within_spent setting lim events run c; cached = k.cached };
  budgets = budgets_small s (opened events) sound few;
  spending = spending_small s (opened events) sound few;
}
  where
    s : State
    s = after setting events

    shape : Shaped s
    shape = runs_shape setting lim events run

    sound : IsSound s (opened events)
    sound = runs_sound setting lim events run

    few : ticks s ≤ 4000000000
    few = few_ticks setting lim events run
