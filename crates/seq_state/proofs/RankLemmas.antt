-- Where each time becomes its rank among what the cores did last, the state stays the same.
use Rattle.seq_state.specs.{◌≡◌, ℕ, zero, suc, ◌+◌, ◌*◌, ◌<◌, ◌≤◌, ◌&&◌, cond, ltb as nat_lt, refl, List, length, Option, Some, None}
use Rattle.seq_state.specs.{IsSomeAnd, PlaceOf, FrameOf, NumberOf, sum_below, times_at, TimesFit, before, ranked, at, HasBegun, IsWhole}
use Rattle.seq_state.specs.{state_of, period_or_none, is_inside, grace_from, period_of, IsThing, SameGrace, SameState}
use Rattle.kernel_invariant.specs.kernel_rules.proofs.{inl, inr, sym, ◌∙◌, ap, subst, arith, lt-ltb, le-ltb, Thing}
use Rattle.seq_state.specs.{declared.times.Times.Times, declared.times.Period.Period, Times.rank, Times.ranked_period, Maps.Maps}
use Rattle.seq_state.proofs.{CountLemmas.grace_counts, MapLemmas.at_place_is}
use Rattle.{std.proofs.lemmas.Bool.cases_lt, seq_state.specs.Passing.Becomes}

-- ---- sums

sum_at_most : (f g : ℕ → ℕ) (n : ℕ) → ((i : ℕ) → i < n → f i ≤ g i) → sum_below f n ≤ sum_below g n
unfolding sum_below
sum_at_most f g zero le = omega arith
sum_at_most f g (suc n) le = let a = sum_at_most f g n (λ i h. le i (omega arith)) in let b = le n (omega arith) in omega arith

sum_less : (f g : ℕ → ℕ) (n c : ℕ) → c < n → f c < g c → ((i : ℕ) → i < n → f i ≤ g i) → sum_below f n < sum_below g n
unfolding sum_below
sum_less f g zero c below lt le = absurd (omega arith)
sum_less f g (suc n) c below lt le = elim (cases_lt c n) [
  | inl less ↦ let a = sum_less f g n c less lt (λ i h. le i (omega arith)) in let b = le n (omega arith) in omega arith
  | inr last ↦
      let a = sum_at_most f g n (λ i h. le i (omega arith)) in
      let is : c ≡ n = omega arith in
      let b : f n < g n = subst (λ k. f k < g k) is lt in
      omega arith
]

sum_most : (f : ℕ → ℕ) (m n : ℕ) → ((i : ℕ) → f i ≤ m) → sum_below f n ≤ m * n
unfolding sum_below
sum_most f m zero le = omega arith
sum_most f m (suc n) le = let a = sum_most f m n le in let b = le n in omega arith

-- ---- what lies before

test_most : (a t : ℕ) → cond (nat_lt a t) 1 0 ≤ 1
test_most a t = elim (cases_lt a t) [
  | inl lt ↦ let e : cond {A = ℕ} (nat_lt a t) 1 0 ≡ 1 = ap (λ b. cond b 1 0) (lt-ltb a t lt) in omega arith
  | inr ge ↦ let e : cond {A = ℕ} (nat_lt a t) 1 0 ≡ 0 = ap (λ b. cond b 1 0) (le-ltb a t ge) in omega arith
]

test_grows : (a t u : ℕ) → t ≤ u → cond (nat_lt a t) 1 0 ≤ cond (nat_lt a u) 1 0
test_grows a t u le = elim (cases_lt a t) [
  | inl lt ↦
      let e : cond {A = ℕ} (nat_lt a t) 1 0 ≡ 1 = ap (λ b. cond b 1 0) (lt-ltb a t lt) in
      let f : cond {A = ℕ} (nat_lt a u) 1 0 ≡ 1 = ap (λ b. cond b 1 0) (lt-ltb a u (omega arith)) in
      omega arith
  | inr ge ↦ let e : cond {A = ℕ} (nat_lt a t) 1 0 ≡ 0 = ap (λ b. cond b 1 0) (le-ltb a t ge) in omega arith
]

test_less : (a u : ℕ) → a < u → cond (nat_lt a a) 1 0 < cond (nat_lt a u) 1 0
test_less a u lt =
    let e : cond {A = ℕ} (nat_lt a a) 1 0 ≡ 0 = ap (λ b. cond b 1 0) (le-ltb a a (omega arith)) in
    let f : cond {A = ℕ} (nat_lt a u) 1 0 ≡ 1 = ap (λ b. cond b 1 0) (lt-ltb a u lt) in
    omega arith

before_most : (x : Times) (t : ℕ) → before x t ≤ 4
before_most x t = omega (arith, test_most x.entered t, test_most x.passed t, test_most x.flushed t, test_most x.flush_known t)

before_grows : (x : Times) (t u : ℕ) → t ≤ u → before x t ≤ before x u
before_grows x t u le = omega (
  arith,
  test_grows x.entered t u le,
  test_grows x.passed t u le,
  test_grows x.flushed t u le,
  test_grows x.flush_known t u le,
)

entered_less : (x : Times) (u : ℕ) → x.entered < u → before x x.entered < before x u
entered_less x u lt = omega (
  arith,
  test_less x.entered u lt,
  test_grows x.passed x.entered u (omega arith),
  test_grows x.flushed x.entered u (omega arith),
  test_grows x.flush_known x.entered u (omega arith),
)

passed_less : (x : Times) (u : ℕ) → x.passed < u → before x x.passed < before x u
passed_less x u lt = omega (
  arith,
  test_less x.passed u lt,
  test_grows x.entered x.passed u (omega arith),
  test_grows x.flushed x.passed u (omega arith),
  test_grows x.flush_known x.passed u (omega arith),
)

flushed_less : (x : Times) (u : ℕ) → x.flushed < u → before x x.flushed < before x u
flushed_less x u lt = omega (
  arith,
  test_less x.flushed u lt,
  test_grows x.entered x.flushed u (omega arith),
  test_grows x.passed x.flushed u (omega arith),
  test_grows x.flush_known x.flushed u (omega arith),
)

known_less : (x : Times) (u : ℕ) → x.flush_known < u → before x x.flush_known < before x u
known_less x u lt = omega (
  arith,
  test_less x.flush_known u lt,
  test_grows x.entered x.flush_known u (omega arith),
  test_grows x.passed x.flush_known u (omega arith),
  test_grows x.flushed x.flush_known u (omega arith),
)

-- ---- ranks

pub rank_most : (ts : List Times) (t : ℕ) → rank ts t ≤ 32
rank_most ts t = sum_most (λ c. before (times_at ts c) t) 4 8 (λ c. before_most (times_at ts c) t)

pub rank_grows : (ts : List Times) (t u : ℕ) → t ≤ u → rank ts t ≤ rank ts u
rank_grows ts t u le = sum_at_most (λ c. before (times_at ts c) t) (λ c. before (times_at ts c) u) 8
    (λ c _. before_grows (times_at ts c) t u le)

-- A time of a core lies before another exactly where its rank does.
rank_keeps : (ts : List Times) (c v e : ℕ) → c < 8 → (v < e → before (times_at ts c) v < before (times_at ts c) e)
    → nat_lt (rank ts v) (rank ts e) ≡ nat_lt v e
rank_keeps ts c v e below less = elim (cases_lt v e) [
  | inl lt ↦ lt-ltb (rank ts v) (rank ts e) (sum_less (λ d. before (times_at ts d) v) (λ d. before (times_at ts d) e) 8 c below (less lt)
      (λ d _. before_grows (times_at ts d) v e (omega arith))) ∙ sym (lt-ltb v e lt)
  | inr ge ↦ le-ltb (rank ts v) (rank ts e) (rank_grows ts e v ge) ∙ sym (le-ltb v e ge)
]

-- ---- the maps

-- What the ranks are of.
pub record CountedAnew (t : Maps) (ps fs ns : List Period) (ts : List Times) : Type 0 where
  pub places : (k : ℕ) → k < 64 * t.limits.frames → Becomes (ranked_period t.times) (at t.place_graces k) (at ps k)
  pub frames : (k : ℕ) → k < t.limits.frames → Becomes (ranked_period t.times) (at t.frame_graces k) (at fs k)
  pub numbers : (k : ℕ) → k < 64 → Becomes (ranked_period t.times) (at t.number_graces k) (at ns k)
  pub times : (c : ℕ) → c < 8 → times_at ts c ≡ ranked t.times (times_at t.times c)

-- The maps with each time at its rank.
abbrev pub anew : Maps → List Period → List Period → List Period → List Times → Maps
anew t ps fs ns ts = record t { place_graces = ps; frame_graces = fs; number_graces = ns; times = ts; clock = 32 }

became : (ts : List Times) (P : Period → Type 0) (old new : Option Period) → IsSomeAnd old P → Becomes (ranked_period ts) old new
    → period_or_none new ≡ ranked_period ts (period_or_none old)
became ts P None new h b = absurd h
became ts P (Some p) new h b = ap period_or_none b

-- Each grace period begins at its rank.
all_became : (t : Maps) (ps fs ns : List Period) (ts : List Times) → IsWhole t → CountedAnew t ps fs ns ts
    → (x : Thing) → IsThing t.limits x → period_of (anew t ps fs ns ts) x ≡ ranked_period t.times (period_of t x)
all_became t ps fs ns ts whole a (PlaceOf f i) h =
    let f_below = h.0 in
    let i_below = h.1 in
    let below : 64 * f + i < 64 * t.limits.frames = omega arith in
    ap period_or_none (at_place_is ps f i (64 * f + i) h.1 refl)
    ∙ became t.times _ (at t.place_graces (64 * f + i)) (at ps (64 * f + i)) (whole.place_graces (64 * f + i) below) (a.places (64 * f + i) below)
    ∙ ap (λ o. ranked_period t.times (period_or_none o)) (sym (at_place_is t.place_graces f i (64 * f + i) h.1 refl))
all_became t ps fs ns ts whole a (FrameOf f) h = became t.times _ (at t.frame_graces f) (at fs f) (whole.frame_graces f h) (a.frames f h)
all_became t ps fs ns ts whole a (NumberOf l) h = became t.times _ (at t.number_graces l) (at ns l) (whole.number_graces l h) (a.numbers l h)

pub counted_anew : (t : Maps) (ps fs ns : List Period) (ts : List Times) → IsWhole t → CountedAnew t ps fs ns ts
    → SameState (state_of (anew t ps fs ns ts)) (state_of t)
unfolding state_of
counted_anew t ps fs ns ts whole a = record {
  limits = refl;
  place = λ f i _ _. refl;
  frame = λ f _. refl;
  number = λ l _. refl;
  core = λ c _. refl;
  grace = λ x is. subst (λ p. SameGrace t.limits.cores (grace_from (anew t ps fs ns ts) p) (grace_from t (period_of t x)))
      (sym (all_became t ps fs ns ts whole a x is)) (same (period_of t x));
}
  where
    most : t.limits.cores ≤ 8
    most = whole.fits.most_cores

    same : (p : Period) → SameGrace t.limits.cores (grace_from (anew t ps fs ns ts) (ranked_period t.times p)) (grace_from t p)
    same p = record {
      waits = λ c l. ap (λ b. is_inside t c && b) (
          ap (λ (x : Times). nat_lt x.entered (rank t.times p.began)) (a.times c (omega arith))
          ∙ rank_keeps t.times c (times_at t.times c).entered p.began (omega arith) (entered_less (times_at t.times c) p.began));
      not_passed = λ c l.
          ap (λ (x : Times). nat_lt x.passed (rank t.times p.began)) (a.times c (omega arith))
          ∙ rank_keeps t.times c (times_at t.times c).passed p.began (omega arith) (passed_less (times_at t.times c) p.began);
      unflushed = λ c l. ap (λ b. p.flushes && b) (
          ap (λ (x : Times). nat_lt x.flushed (rank t.times p.began)) (a.times c (omega arith))
          ∙ rank_keeps t.times c (times_at t.times c).flushed p.began (omega arith) (flushed_less (times_at t.times c) p.began));
      flush_unknown = λ c l. ap (λ b. p.flushes && b) (
          ap (λ (x : Times). nat_lt x.flush_known (rank t.times p.began)) (a.times c (omega arith))
          ∙ rank_keeps t.times c (times_at t.times c).flush_known p.began (omega arith) (known_less (times_at t.times c) p.began));
    }

-- ---- the maps stay whole

begins_by : (ts : List Times) (n k : ℕ) (old new : Option Period) → IsSomeAnd old (HasBegun n k) → Becomes (ranked_period ts) old new
    → IsSomeAnd new (HasBegun 32 k)
begins_by ts n k None new h b = absurd h
begins_by ts n k (Some p) new h b = subst (λ o. IsSomeAnd o (HasBegun 32 k)) (sym b) (rank_most ts p.began)

pub whole_anew : (t : Maps) (ps fs ns : List Period) (ts : List Times) → IsWhole t → CountedAnew t ps fs ns ts → length ts ≡ 8
    → IsWhole (anew t ps fs ns ts)
whole_anew t ps fs ns ts whole a all = record {
  fits = whole.fits;
  places = whole.places;
  frames = whole.frames;
  numbers = whole.numbers;
  cores = whole.cores;
  place_graces = λ k below. begins_by t.times t.clock k (at t.place_graces k) (at ps k) (whole.place_graces k below) (a.places k below);
  frame_graces = λ k below. begins_by t.times t.clock k (at t.frame_graces k) (at fs k) (whole.frame_graces k below) (a.frames k below);
  number_graces = λ k below. begins_by t.times t.clock k (at t.number_graces k) (at ns k) (whole.number_graces k below) (a.numbers k below);
  times_of_all = all;
  times = λ c below. subst (TimesFit 32) (sym (a.times c below)) (record {
    entered = rank_most t.times (times_at t.times c).entered;
    flushed = rank_most t.times (times_at t.times c).flushed;
    passed = rank_grows t.times (times_at t.times c).passed (times_at t.times c).entered (whole.times c below).passed;
    flush_known = rank_grows t.times (times_at t.times c).flush_known (times_at t.times c).flushed (whole.times c below).flush_known;
  });
  all_counted = whole.all_counted;
  counts = grace_counts t (anew t ps fs ns ts) (state_of t).grace whole refl (counted_anew t ps fs ns ts whole a);
}
