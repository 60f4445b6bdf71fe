-- Reading and changing the maps is reading and changing the state that they stand for.
use Rattle.seq_state.specs.{◌≡◌, ◌≢◌, ℕ, ◌+◌, ◌*◌, ◌<◌, true, false, ◌&&◌, ◌==◌, ltb as nat_lt, if◌then◌else◌, refl, List, Option, Some}
use Rattle.seq_state.specs.{None, put, with_place, with_frame, with_core, State, Limits, same_thing, place_held, frame_of, number_of}
use Rattle.seq_state.specs.{core_of, no_period, at, at_place, state_of, place_or_free, frame_or_untyped, number_or_unused, core_or_none}
use Rattle.seq_state.specs.{period_or_none, is_inside, grace_from, period_of, with_grace_of}
use Rattle.kernel_invariant.specs.kernel_rules.proofs.{inl, inr, sym, ◌∙◌, ap, arith, unwrap_or, lt-ltb, le-ltb, eq-eqb, ne_eqb}
use Rattle.kernel_invariant.specs.kernel_rules.proofs.{with_number, put_same, put_other}
use Rattle.std.proofs.lemmas.Bool.{cases_eq, cases_lt}
use Rattle.seq_state.specs.{declared.parts.Place.Place, declared.parts.Frame.Frame, declared.parts.Liveness.Liveness}
use Rattle.seq_state.specs.{declared.parts.Core.Core, declared.times.Period.Period, Times.grace_by, Maps.Maps, Maps.grace_in}
use Rattle.kernel_invariant.specs.kernel_rules.specs.State as state

-- A map is another with a value at one key.
pub record IsWritten {X : Type 0} (old new : List X) (k : ℕ) (x : X) : Type 0 where
  pub here : at new k ≡ Some x
  pub others : (q : ℕ) → q ≢ k → at new q ≡ at old q

-- The limits of the state are the kernel's.
pub limits_of : (t u : Maps) → u ≡ t → (state_of t).limits ≡ u.limits
unfolding state_of
limits_of t u same = ap (λ (v : Maps). v.limits) (sym same)

-- A part that a map gives, with a value where there is none.
or_default : {X A : Type 0} (part : Option X → A) (d : X)
    → part (Some d) ≡ part None → (o : Option X) → part (Some (unwrap_or o d)) ≡ part o
or_default part d same None = same
or_default part d same (Some x) = refl

-- ---- places

pub at_place_is : {X : Type 0} (es : List X) (f i k : ℕ) → i < 64 → k ≡ 64 * f + i → at_place es f i ≡ at es k
at_place_is es f i k small is = ap (λ b. if b then at es (64 * f + i) else None) (lt-ltb i 64 small) ∙ ap (at es) (sym is)

place_at_key : {X : Type 0} (es : List X) (f i k : ℕ) (x : X) → i < 64 → k ≡ 64 * f + i → at es k ≡ Some x → at_place es f i ≡ Some x
place_at_key es f i k x small is has = at_place_is es f i k small is ∙ has

pub place_apart : {X : Type 0} (old new : List X) (f i k : ℕ) (x : X) → i < 64 → k ≡ 64 * f + i → IsWritten old new k x
    → (g j : ℕ) → (g ≡ f → j ≡ i → ⊥) → at_place new g j ≡ at_place old g j
place_apart old new f i k x small is w g j apart = elim (cases_lt j 64) [
  | inl lt ↦
      let ne : 64 * g + j ≢ k = λ e. apart (omega arith) (omega arith) in
      let t : nat_lt j 64 ≡ true = lt-ltb j 64 lt in
      ap (λ b. if b then at new (64 * g + j) else None) t ∙ w.others (64 * g + j) ne
      ∙ sym (ap (λ b. if b then at old (64 * g + j) else None) t)
  | inr ge ↦
      let t : nat_lt j 64 ≡ false = le-ltb j 64 ge in
      ap (λ b. if b then at new (64 * g + j) else None) t ∙ sym (ap (λ b. if b then at old (64 * g + j) else None) t)
]

pub place_reads : (t : Maps) (f i k : ℕ) (d : Place) → i < 64 → k ≡ 64 * f + i → place_held d ≡ state.Free
    → place_held (unwrap_or (at t.places k) d) ≡ (state_of t).place f i
unfolding state_of
place_reads t f i k d small is free = or_default place_or_free d free (at t.places k)
    ∙ sym (ap place_or_free (at_place_is t.places f i k small is))

pub places_written : (t : Maps) (es : List Place) (f i k : ℕ) (p : Place) → i < 64 → k ≡ 64 * f + i → IsWritten t.places es k p
    → state_of (record t { places = es }) ≡ with_place (state_of t) f i (place_held p)
unfolding state_of
places_written t es f i k p small is w = λ j. record {
  place = λ g h. point g h j;
  frame = λ g. frame_or_untyped (at t.frames g);
  number = λ l. number_or_unused (at t.numbers l);
  core = λ c. core_or_none (at t.cores c);
  grace = grace_in t;
  limits = t.limits;
}
  where
    row : ℕ → ℕ → state.Place
    row = λ g h. place_or_free (at_place t.places g h)

    point : (g h : ℕ) → place_or_free (at_place es g h) ≡ put row f (put (row f) i (place_held p)) g h
    point g h = elim (cases_eq g f) [
      | inl e ↦ elim (cases_eq h i) [
        | inl e' ↦
            let a : at_place es g h ≡ Some p = place_at_key es g h k p (omega arith) (omega arith) w.here in
            ap place_or_free a ∙ sym
            (ap (λ r. r h) (put_same row f (put (row f) i (place_held p)) g e) ∙ put_same (row f) i (place_held p) h e')
        | inr ne' ↦
            ap place_or_free (place_apart t.places es f i k p small is w g h (λ _ e'. ne' e'))
            ∙ ap (λ x. row x h) e
            ∙ sym (ap (λ r. r h) (put_same row f (put (row f) i (place_held p)) g e) ∙ put_other (row f) i (place_held p) h ne')
      ]
      | inr ne ↦
          ap place_or_free (place_apart t.places es f i k p small is w g h (λ e _. ne e))
          ∙ sym (ap (λ r. r h) (put_other row f (put (row f) i (place_held p)) g ne))
    ]

-- ---- frames, liveness numbers and cores

pub frame_reads : (t : Maps) (f k : ℕ) (o : Option Frame) → k ≡ f → o ≡ at t.frames k → frame_or_untyped o ≡ (state_of t).frame f
unfolding state_of
frame_reads t f k o is found = ap frame_or_untyped found ∙ ap (λ q. frame_or_untyped (at t.frames q)) is

-- What a map of parts gives, with one part written.
pub put_written : {X A : Type 0} (part : Option X → A) (old new : List X) (f k : ℕ) (x : X) → k ≡ f → IsWritten old new k x
    → (q : ℕ) → part (at new q) ≡ put (λ g. part (at old g)) f (part (Some x)) q
put_written part old new f k x is w q = elim (cases_eq q f) [
  | inl e ↦ ap part (ap (at new) (e ∙ sym is) ∙ w.here) ∙ sym (put_same (λ g. part (at old g)) f (part (Some x)) q e)
  | inr ne ↦ ap part (w.others q (λ e. ne (e ∙ is))) ∙ sym (put_other (λ g. part (at old g)) f (part (Some x)) q ne)
]

pub frames_written : (t : Maps) (es : List Frame) (f k : ℕ) (x : Frame) → k ≡ f → IsWritten t.frames es k x
    → state_of (record t { frames = es }) ≡ with_frame (state_of t) f (frame_of x)
unfolding state_of
frames_written t es f k x is w = λ j. record {
  place = λ g i. place_or_free (at_place t.places g i);
  frame = λ g. put_written frame_or_untyped t.frames es f k x is w g j;
  number = λ l. number_or_unused (at t.numbers l);
  core = λ c. core_or_none (at t.cores c);
  grace = grace_in t;
  limits = t.limits;
}

pub number_reads : (t : Maps) (l k : ℕ) (d : Liveness) → k ≡ l → number_of d ≡ state.Unused
    → number_of (unwrap_or (at t.numbers k) d) ≡ (state_of t).number l
unfolding state_of
number_reads t l k d is unused = or_default number_or_unused d unused (at t.numbers k) ∙ ap (λ q. number_or_unused (at t.numbers q)) is

pub numbers_written : (t : Maps) (es : List Liveness) (l k : ℕ) (x : Liveness) → k ≡ l → IsWritten t.numbers es k x
    → state_of (record t { numbers = es }) ≡ with_number (state_of t) l (number_of x)
unfolding state_of
numbers_written t es l k x is w = λ j. record {
  place = λ g i. place_or_free (at_place t.places g i);
  frame = λ g. frame_or_untyped (at t.frames g);
  number = λ m. put_written number_or_unused t.numbers es l k x is w m j;
  core = λ c. core_or_none (at t.cores c);
  grace = grace_in t;
  limits = t.limits;
}

-- Whether a core is in a call.
pub is_inside_of : (t : Maps) (c : ℕ) → ((state_of t).core c).inside ≡ is_inside t c
unfolding state_of
is_inside_of t c = refl

pub core_reads : (t : Maps) (c k : ℕ) (x : Core) → k ≡ c → at t.cores k ≡ Some x → core_of x ≡ (state_of t).core c
unfolding state_of
core_reads t c k x is has = sym (ap core_or_none (ap (at t.cores) (sym is) ∙ has))

-- A core that is in a call where it was leaves each core so.
inside_written : (t : Maps) (es : List Core) (c k : ℕ) (x : Core) → k ≡ c → IsWritten t.cores es k x
    → x.inside ≡ is_inside t c → (d : ℕ) → (core_or_none (at es d)).inside ≡ is_inside t d
inside_written t es c k x is w same d = elim (cases_eq d c) [
  | inl e ↦ ap (λ (o : Option Core). (core_or_none o).inside) (ap (at es) (e ∙ sym is) ∙ w.here) ∙ same ∙ ap (is_inside t) (sym e)
  | inr ne ↦ ap (λ (o : Option Core). (core_or_none o).inside) (w.others d (λ e. ne (e ∙ is)))
]

pub cores_written : (t : Maps) (es : List Core) (c k : ℕ) (x : Core) → k ≡ c → IsWritten t.cores es k x
    → x.inside ≡ is_inside t c → state_of (record t { cores = es }) ≡ with_core (state_of t) c (core_of x)
unfolding state_of
cores_written t es c k x is w same = λ j. record {
  place = λ g i. place_or_free (at_place t.places g i);
  frame = λ g. frame_or_untyped (at t.frames g);
  number = λ l. number_or_unused (at t.numbers l);
  core = λ d. put_written core_or_none t.cores es c k x is w d j;
  grace = λ y. grace_by (λ d. inside_written t es c k x is w same d j) t.times (period_of t y);
  limits = t.limits;
}

-- ---- grace periods

-- The grace period that a map gives.
abbrev pub graced : Maps → Option Period → state.Grace
graced t o = grace_from t (period_or_none o)

period_or : (o : Option Period) (d : Period) → d ≡ no_period → unwrap_or o d ≡ period_or_none o
period_or None d none = none
period_or (Some p) d none = refl

pub place_period_reads : (t : Maps) (f i k : ℕ) (d : Period) → i < 64 → k ≡ 64 * f + i → d ≡ no_period
    → unwrap_or (at t.place_graces k) d ≡ period_of t (state.PlaceOf f i)
place_period_reads t f i k d small is none =
    period_or (at t.place_graces k) d none ∙ sym (ap period_or_none (at_place_is t.place_graces f i k small is))

pub frame_period_reads : (t : Maps) (f k : ℕ) (d : Period) → k ≡ f → d ≡ no_period
    → unwrap_or (at t.frame_graces k) d ≡ period_of t (state.FrameOf f)
frame_period_reads t f k d is none = period_or (at t.frame_graces k) d none ∙ ap (λ q. period_or_none (at t.frame_graces q)) is

pub number_period_reads : (t : Maps) (f k : ℕ) (d : Period) → k ≡ f → d ≡ no_period
    → unwrap_or (at t.number_graces k) d ≡ period_of t (state.NumberOf f)
number_period_reads t f k d is none = period_or (at t.number_graces k) d none ∙ ap (λ q. period_or_none (at t.number_graces q)) is

pub place_graces_written : (t : Maps) (es : List Period) (f i k : ℕ) (g : Period)
    → i < 64 → k ≡ 64 * f + i → IsWritten t.place_graces es k g
    → state_of (record t { place_graces = es }) ≡ with_grace_of (state_of t) (state.PlaceOf f i) (grace_from t g)
unfolding state_of
place_graces_written t es f i k g small is w = λ j. record {
  place = λ h i. place_or_free (at_place t.places h i);
  frame = λ h. frame_or_untyped (at t.frames h);
  number = λ l. number_or_unused (at t.numbers l);
  core = λ c. core_or_none (at t.cores c);
  grace = λ y. point y j;
  limits = t.limits;
}
  where
    point : (y : state.Thing)
        → grace_in (record t { place_graces = es }) y ≡ (if same_thing y (state.PlaceOf f i) then grace_from t g else grace_in t y)
    point (state.PlaceOf h m) = elim (cases_eq h f) [
      | inl e ↦ elim (cases_eq m i) [
        | inl e' ↦
            let a : at_place es h m ≡ Some g = place_at_key es h m k g (omega arith) (omega arith) w.here in
            ap (graced t) a ∙ sym (ap (λ b. if b && m == i then grace_from t g else grace_in t (state.PlaceOf h m)) (eq-eqb h f e)
            ∙ ap (λ b. if b then grace_from t g else grace_in t (state.PlaceOf h m)) (eq-eqb m i e'))
        | inr ne' ↦
            ap (graced t) (place_apart t.place_graces es f i k g small is w h m (λ _ e'. ne' e'))
            ∙ sym (ap (λ b. if b && m == i then grace_from t g else grace_in t (state.PlaceOf h m)) (eq-eqb h f e)
            ∙ ap (λ b. if b then grace_from t g else grace_in t (state.PlaceOf h m)) (ne_eqb m i ne'))
      ]
      | inr ne ↦
          ap (graced t) (place_apart t.place_graces es f i k g small is w h m (λ e _. ne e))
          ∙ sym (ap (λ b. if b && m == i then grace_from t g else grace_in t (state.PlaceOf h m)) (ne_eqb h f ne))
    ]
    point (state.FrameOf h) = refl
    point (state.NumberOf l) = refl

pub frame_graces_written : (t : Maps) (es : List Period) (f k : ℕ) (g : Period) → k ≡ f → IsWritten t.frame_graces es k g
    → state_of (record t { frame_graces = es }) ≡ with_grace_of (state_of t) (state.FrameOf f) (grace_from t g)
unfolding state_of
frame_graces_written t es f k g is w = λ j. record {
  place = λ h i. place_or_free (at_place t.places h i);
  frame = λ h. frame_or_untyped (at t.frames h);
  number = λ l. number_or_unused (at t.numbers l);
  core = λ c. core_or_none (at t.cores c);
  grace = λ y. point y j;
  limits = t.limits;
}
  where
    point : (y : state.Thing)
        → grace_in (record t { frame_graces = es }) y ≡ (if same_thing y (state.FrameOf f) then grace_from t g else grace_in t y)
    point (state.PlaceOf h m) = refl
    point (state.FrameOf h) = put_written (graced t) t.frame_graces es f k g is w h
    point (state.NumberOf l) = refl

pub number_graces_written : (t : Maps) (es : List Period) (l k : ℕ) (g : Period) → k ≡ l → IsWritten t.number_graces es k g
    → state_of (record t { number_graces = es }) ≡ with_grace_of (state_of t) (state.NumberOf l) (grace_from t g)
unfolding state_of
number_graces_written t es l k g is w = λ j. record {
  place = λ h i. place_or_free (at_place t.places h i);
  frame = λ h. frame_or_untyped (at t.frames h);
  number = λ m. number_or_unused (at t.numbers m);
  core = λ c. core_or_none (at t.cores c);
  grace = λ y. point y j;
  limits = t.limits;
}
  where
    point : (y : state.Thing)
        → grace_in (record t { number_graces = es }) y ≡ (if same_thing y (state.NumberOf l) then grace_from t g else grace_in t y)
    point (state.PlaceOf h m) = refl
    point (state.FrameOf h) = refl
    point (state.NumberOf m) = put_written (graced t) t.number_graces es l k g is w m
