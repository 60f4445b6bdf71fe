-- The maps of the start stand for the start state.
use Rattle.seq_state.specs as low
use low.{◌≡◌, ◌≢◌, ℕ, zero, suc, ◌+◌, ◌*◌, ◌%◌, ◌<◌, ◌≤◌, ◌-◌, ◌==◌, ltb as nat_lt, Bool, true, false, if◌then◌else◌, refl, slice_get}
use low.{length, List, [], ◌∷◌, Option, Some, None, IsSomeAnd, Setting, IsSetting, PlaceOf, FrameOf, NumberOf, Limits, Table, Leaf, Pages}
use low.{Comp, Thread, Tcap, Untyped, place_names, frame_names, number_names, core_names, sum_below, node_refs, refs, no_grace, place_held}
use low.{frame_of, number_of, core_of, no_times, no_period, times_at, TimesFit, at, at_place, count_at, HasKeys, HasAll, HasBegun, NamesFew}
use low.{IsWhole, state_of, place_or_free, frame_or_untyped, number_or_unused, core_or_none, period_or_none, period_of, grace_from, IsThing}
use Rattle.kernel_invariant.specs.kernel_rules.proofs.{inl, inr, ◌/◌, sym, ◌∙◌, ap, subst, arith, replicate, lt-ltb, Thing, Kernel, times}
use Rattle.kernel_invariant.specs.kernel_rules.proofs.{granted, start, start_place, start_frame, start_number}
use low.{declared.parts.Place.Place, declared.parts.Frame.Frame, declared.parts.Liveness.Liveness, declared.parts.Core.Core}
use low.{declared.times.Times.Times, declared.times.Period.Period, Counted.counted_at, Counted.IsCounted, Maps.Maps, Maps.LimitsFit}
use Rattle.seq_state.proofs.{MapLemmas.at_place_is, SetLemmas.stands, TimeLemmas.none_is, Counting.sum_rows}
use low.{SameGrace, SameState}
use Rattle.{kernel_invariant.specs.kernel_rules.specs.start_comp, kernel_invariant.specs.kernel_rules.specs.start_core}
use Rattle.{std.proofs.lemmas.Bool.cases_eq, std.proofs.lemmas.List.get_or-replicate, kernel_invariant.proofs.Sums.sum_same}

-- One key more.
pub all_more : {X : Type 0} (P : ℕ → X → Type 0) (old new : List X) (n : ℕ) (x : X) → at new n ≡ Some x
    → ((q : ℕ) → q ≢ n → at new q ≡ at old q) → P n x → HasAll n old P → HasAll (n + 1) new P
all_more P old new n x here others fits all k below = elim (cases_eq k n) [
  | inl e ↦ subst (λ m. IsSomeAnd (at new m) (P m)) (sym e) (subst (λ o. IsSomeAnd o (P n)) (sym here) fits)
  | inr ne ↦ subst (λ o. IsSomeAnd o (P k)) (sym (others k ne)) (all k (omega arith))
]

-- What a map of parts gives at a key that stands.
part_is : {X A : Type 0} (part : Option X → A) (o : Option X) (a : A) → IsSomeAnd o (λ x. part (Some x) ≡ a) → part o ≡ a
part_is part None a h = absurd h
part_is part (Some x) a h = h

place_is : {X A : Type 0} (part : Option X → A) (es : List X) (f i : ℕ) (a : A) → i < 64
    → IsSomeAnd (at es (64 * f + i)) (λ x. part (Some x) ≡ a) → part (at_place es f i) ≡ a
place_is part es f i a small h =
    ap (λ b. part (if b then at es (64 * f + i) else None)) (lt-ltb i 64 small) ∙ part_is part (at es (64 * f + i)) a h

-- No thing has a grace period.
none_in : (t : Maps) (l : Limits) → HasAll (64 * l.frames) t.place_graces (λ k p. p ≡ no_period)
    → HasAll l.frames t.frame_graces (λ k p. p ≡ no_period) → HasAll 64 t.number_graces (λ k p. p ≡ no_period)
    → (x : Thing) → IsThing l x → period_of t x ≡ no_period
none_in t l places frames numbers (PlaceOf f i) h =
    let f_below = h.0 in
    let i_below = h.1 in
    place_is period_or_none t.place_graces f i no_period h.1 (places (64 * f + i) (omega arith))
none_in t l places frames numbers (FrameOf f) h = part_is period_or_none (at t.frame_graces f) no_period (frames f h)
none_in t l places frames numbers (NumberOf n) h = part_is period_or_none (at t.number_graces n) no_period (numbers n h)

pub starts : (t : Maps) (s : Setting) → t.limits ≡ (start s).limits
    → HasAll (64 * s.frames) t.places (λ k p. place_held p ≡ start_place s (k / 64) (k % 64))
    → HasAll s.frames t.frames (λ k x. frame_of x ≡ start_frame s k)
    → HasAll 64 t.numbers (λ k x. number_of x ≡ start_number k)
    → HasAll s.cores t.cores (λ k x. core_of x ≡ start_core s k)
    → HasAll (64 * s.frames) t.place_graces (λ k p. p ≡ no_period)
    → HasAll s.frames t.frame_graces (λ k p. p ≡ no_period)
    → HasAll 64 t.number_graces (λ k p. p ≡ no_period)
    → SameState (state_of t) (start s)
unfolding state_of
starts t s limits places frames numbers cores place_graces frame_graces number_graces = record {
  limits = limits;
  place = λ f i f_below i_below.
      let node : (64 * f + i) / 64 ≡ f = omega arith in
      let index : (64 * f + i) % 64 ≡ i = omega arith in
      place_is place_or_free t.places f i (start_place s ((64 * f + i) / 64) ((64 * f + i) % 64))
      i_below (places (64 * f + i) (omega arith))
      ∙ ap (λ g. start_place s g ((64 * f + i) % 64)) node ∙ ap (λ j. start_place s f j) index;
  frame = λ f below. part_is frame_or_untyped (at t.frames f) (start_frame s f) (frames f below);
  number = λ l below. part_is number_or_unused (at t.numbers l) (start_number l) (numbers l below);
  core = λ c below. part_is core_or_none (at t.cores c) (start_core s c) (cores c below);
  grace = λ x is. subst (λ p. SameGrace s.cores (grace_from t p) no_grace)
      (sym (none_in t (start s).limits place_graces frame_graces number_graces x is)) (none_is t s.cores);
}

-- The references that the maps have are those of the state that they stand for.
pub counted_refs : (t : Maps) → IsCounted t.limits.frames t.limits.cores t.places t.frames t.numbers t.cores t.counts
    → (f : ℕ) → f < 512 → count_at t.counts f ≡ refs (state_of t) f
unfolding refs node_refs state_of
counted_refs t counted f below =
    let a = counted.counts f below in
    let b = sum_rows (λ k. times f (place_names (place_or_free (at t.places k)))) t.limits.frames in
    let c = sum_same (λ g. sum_below (λ i. times f (place_names (place_or_free (at_place t.places g i)))) 64)
    (λ g. sum_below (λ i. times f (place_names (place_or_free (at t.places (64 * g + i))))) 64) t.limits.frames
    (λ g _. sum_same (λ i. times f (place_names (place_or_free (at_place t.places g i))))
    (λ i. times f (place_names (place_or_free (at t.places (64 * g + i))))) 64
    (λ i small. ap (λ o. times f (place_names (place_or_free o))) (sym (at_place_is t.places g i (64 * g + i) small refl)))) in
    omega (arith, a, b, c)

-- What a frame of the start has names few frames.
pub start_few : (s : Setting) (k : ℕ) → length (frame_names (start_frame s k)) ≤ 16
start_few s k = tested (k == 0) (k == 1) (k == 2) (k == 3) (nat_lt k (4 + s.cores)) (nat_lt k (4 + 2 * s.cores))
  where
    tested : (a b c d e f : Bool) → length (frame_names (if a then Kernel Table else (if b then Kernel Leaf else (if c then Kernel Pages
        else (if d then Kernel (Comp start_comp)
        else (if e then Kernel (Thread (record { stack = 3 ∷ []; runs_on = Some (k - 4) }))
        else (if f then Kernel (Tcap (granted (slice_get s.grants (k - 4 - s.cores)))) else Untyped))))))) ≤ 16
    tested true b c d e f = omega arith
    tested false true c d e f = omega arith
    tested false false true d e f = omega arith
    tested false false false true e f = omega arith
    tested false false false false true f = omega arith
    tested false false false false false true = omega arith
    tested false false false false false false = omega arith

few_in : (s : Setting) (k : ℕ) (o : Option Frame) → IsSomeAnd o (λ x. frame_of x ≡ start_frame s k) → IsSomeAnd o (NamesFew k)
few_in s k None h = absurd h
few_in s k (Some x) h = subst (λ y. length (frame_names y) ≤ 16) (sym h) (start_few s k)

pub all_few : (s : Setting) (n : ℕ) (es : List Frame) → HasAll n es (λ k x. frame_of x ≡ start_frame s k) → HasAll n es NamesFew
all_few s n es all k below = few_in s k (at es k) (all k below)

begun_none : (n k : ℕ) (o : Option Period) → IsSomeAnd o (λ p. p ≡ no_period) → IsSomeAnd o (HasBegun n k)
begun_none n k None h = absurd h
begun_none n k (Some p) h = let none : p.began ≡ 0 = ap (λ (q : Period). q.began) h in omega arith

pub all_none : (n end : ℕ) (es : List Period) → HasAll end es (λ k p. p ≡ no_period) → HasAll end es (HasBegun n)
all_none n end es all k below = begun_none n k (at es k) (all k below)

pub all_stand : {X : Type 0} (P : ℕ → X → Type 0) (n : ℕ) (es : List X) → HasAll n es P → HasKeys n es
all_stand P n es all k below = stands (P k) (at es k) (all k below)

-- ---- the counts of the start

pub zero_at : (ns : List ℕ) (f : ℕ) → IsSomeAnd (slice_get ns f) (λ n. n ≡ 0) → count_at ns f ≡ 0
zero_at [] f h = absurd h
zero_at (n ∷ ns) zero h = h
zero_at (n ∷ ns) (suc f) h = zero_at ns f h

pub counted_by : (frames cores e1 e2 e3 : ℕ) (ps : List Place) (fs : List Frame) (ns : List Liveness) (cs : List Core) (f c0 c1 c2 c3 c4 : ℕ)
    → c0 ≡ 0 → e1 ≡ 64 * frames → e2 ≡ frames → e3 ≡ cores
    → c1 ≡ c0 + sum_below (λ k. times f (place_names (place_or_free (at ps k)))) e1
    → c2 ≡ c1 + sum_below (λ k. times f (frame_names (frame_or_untyped (at fs k)))) e2
    → c3 ≡ c2 + sum_below (λ k. times f (core_names (core_or_none (at cs k)))) e3
    → c4 ≡ c3 + sum_below (λ k. times f (number_names (number_or_unused (at ns k)))) 64
    → c4 ≡ counted_at frames cores ps fs ns cs f
counted_by frames cores e1 e2 e3 ps fs ns cs f c0 c1 c2 c3 c4 none a b d places in_frames in_cores numbers =
    let p = ap (sum_below (λ k. times f (place_names (place_or_free (at ps k))))) a in
    let q = ap (sum_below (λ k. times f (frame_names (frame_or_untyped (at fs k))))) b in
    let r = ap (sum_below (λ k. times f (core_names (core_or_none (at cs k))))) d in
    omega (arith, none, places, in_frames, in_cores, numbers, p, q, r)

none_fit : (n : ℕ) → TimesFit n no_times
none_fit n = record { entered = omega arith; flushed = omega arith; passed = omega arith; flush_known = omega arith }

-- The lists of the start are whole.
pub whole_start : (t : Maps) (s : Setting) (x : Times) → IsSetting s → t.limits ≡ (start s).limits
    → HasAll (64 * s.frames) t.places (λ k p. place_held p ≡ start_place s (k / 64) (k % 64))
    → HasAll s.frames t.frames (λ k x. frame_of x ≡ start_frame s k)
    → HasAll 64 t.numbers (λ k x. number_of x ≡ start_number k)
    → HasAll s.cores t.cores (λ k x. core_of x ≡ start_core s k)
    → HasAll (64 * s.frames) t.place_graces (λ k p. p ≡ no_period)
    → HasAll s.frames t.frame_graces (λ k p. p ≡ no_period)
    → HasAll 64 t.number_graces (λ k p. p ≡ no_period)
    → x ≡ no_times → t.times ≡ replicate 8 x
    → IsCounted s.frames s.cores t.places t.frames t.numbers t.cores t.counts
    → IsWhole t
whole_start t s x setting limits places frames numbers cores place_graces frame_graces number_graces none times_are counted =
    let frames_is : t.limits.frames ≡ s.frames = ap (λ (l : Limits). l.frames) limits in
    let cores_is : t.limits.cores ≡ s.cores = ap (λ (l : Limits). l.cores) limits in
    record {
      fits = subst LimitsFit (sym limits) (record {
        some_core = setting.some_core;
        most_cores = setting.most_cores;
        least_frames = setting.least_frames;
        most_frames = setting.most_frames;
        most_calls = setting.most_calls;
        some_epoch = setting.some_epoch;
        most_epochs = setting.most_epochs;
      });
      places = λ k below. all_stand (λ k p. place_held p ≡ start_place s (k / 64) (k % 64)) (64 * s.frames) t.places places k
          (omega (arith, below, frames_is));
      frames = λ k below. few_in s k (at t.frames k) (frames k (omega (arith, below, frames_is)));
      numbers = all_stand (λ k x. number_of x ≡ start_number k) 64 t.numbers numbers;
      cores = λ k below. all_stand (λ k x. core_of x ≡ start_core s k) s.cores t.cores cores k (omega (arith, below, cores_is));
      place_graces = λ k below. begun_none t.clock k (at t.place_graces k) (place_graces k (omega (arith, below, frames_is)));
      frame_graces = λ k below. begun_none t.clock k (at t.frame_graces k) (frame_graces k (omega (arith, below, frames_is)));
      number_graces = λ k below. begun_none t.clock k (at t.number_graces k) (number_graces k below);
      times_of_all = ap length times_are;
      times = λ c below. subst (TimesFit t.clock)
          (sym (ap (λ ts. times_at ts c) times_are ∙ get_or-replicate 8 c x no_times below ∙ none)) (none_fit t.clock);
      all_counted = counted.all;
      counts = counted_refs t (subst (λ n. IsCounted n t.limits.cores t.places t.frames t.numbers t.cores t.counts) (sym frames_is)
          (subst (λ n. IsCounted s.frames n t.places t.frames t.numbers t.cores t.counts) (sym cores_is) counted));
    }
