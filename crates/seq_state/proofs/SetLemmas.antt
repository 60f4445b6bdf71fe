-- A change of the maps is that change of the state, for all that the machine has.
use Rattle.seq_state.specs.{◌≡◌, ◌≢◌, ℕ, ◌+◌, ◌*◌, ◌<◌, ◌≤◌, ◌&&◌, ◌==◌, if◌then◌else◌, refl, List, Option, Some, None, IsSome, IsSomeAnd}
use Rattle.seq_state.specs.{put, with_place, with_frame, PlaceOf, FrameOf, NumberOf, same_thing, at, at_place, IsWhole, state_of}
use Rattle.seq_state.specs.{place_or_free, HasAll, frame_or_untyped, number_or_unused, grace_from, IsThing, with_grace_of, SameState}
use Rattle.kernel_invariant.specs.kernel_rules.proofs.{inl, inr, sym, ◌∙◌, ap, subst, arith, ne_eqb, with_number, Thing, put_other}
use Rattle.seq_state.proofs.MapLemmas.{IsWritten, graced, at_place_is, place_graces_written, frame_graces_written, number_graces_written}
use Rattle.{std.proofs.lemmas.Bool.cases_eq, std.proofs.lemmas.Bool.cases_lt, seq_state.specs.declared.times.Period.Period}
use Rattle.{seq_state.specs.Maps.Maps, seq_state.specs.Maps.grace_in, seq_state.proofs.Same.same_by, seq_state.proofs.Same.same_grace_by}
use Rattle.kernel_invariant.specs.kernel_rules.specs.State as state

-- A map is another with a value at a key, where that key stands.
pub record IsSet {X : Type 0} (old new : List X) (k : ℕ) (x : X) : Type 0 where
  pub here : IsSome (at old k) → at new k ≡ Some x
  pub others : (q : ℕ) → q ≢ k → at new q ≡ at old q

-- A key stands that has a value that fits.
pub stands : {X : Type 0} (P : X → Type 0) (o : Option X) → IsSomeAnd o P → IsSome o
stands P None h = absurd h
stands P (Some x) h = refl

-- All values fit after one is set that does.
pub all_set : {X : Type 0} (P : ℕ → X → Type 0) (n : ℕ) (old new : List X) (k : ℕ) (x : X) → HasAll n old P → IsSet old new k x
    → P k x → HasAll n new P
all_set P n old new k x all s fits q below = elim (cases_eq q k) [
  | inl e ↦
      let stood = stands (P q) (at old q) (all q below) in
      subst (λ m. IsSomeAnd (at new m) (P m)) (sym e)
      (subst (λ o. IsSomeAnd o (P k)) (sym (s.here (subst (λ m. IsSome (at old m)) e stood))) fits)
  | inr ne ↦ subst (λ o. IsSomeAnd o (P q)) (sym (s.others q ne)) (all q below)
]

-- Where the key stands, the value is written.
pub written : {X : Type 0} (old new : List X) (k : ℕ) (x : X) → IsSome (at old k) → IsSet old new k x → IsWritten old new k x
written old new k x stands s = record { here = s.here stands; others = s.others }

at_apart : {X : Type 0} (new old : List X) (g j : ℕ) → j < 64
    → at new (64 * g + j) ≡ at old (64 * g + j) → at_place new g j ≡ at_place old g j
at_apart new old g j small same = at_place_is new g j (64 * g + j) small refl ∙ same ∙ sym (at_place_is old g j (64 * g + j) small refl)

-- What is set past the machine's frames changes nothing of the machine.
pub places_past : (t : Maps) (f i : ℕ) (p : state.Place) → t.limits.frames ≤ f → SameState (state_of t) (with_place (state_of t) f i p)
unfolding state_of
places_past t f i p past = record {
  limits = refl;
  place = λ g j g_below _. let apart : g ≢ f = λ e. omega arith in
      sym (ap (λ r. r j) (put_other (λ g j. place_or_free (at_place t.places g j))
      f (put (λ j. place_or_free (at_place t.places f j)) i p) g apart));
  frame = λ g _. refl;
  number = λ l _. refl;
  core = λ c _. refl;
  grace = λ x _. same_grace_by t.limits.cores _ _ refl;
}

pub frames_past : (t : Maps) (f : ℕ) (x : state.Frame) → t.limits.frames ≤ f → SameState (state_of t) (with_frame (state_of t) f x)
unfolding state_of
frames_past t f x past = record {
  limits = refl;
  place = λ g j _ _. refl;
  frame = λ g below. sym (put_other (λ g. frame_or_untyped (at t.frames g)) f x g (λ e. omega arith));
  number = λ l _. refl;
  core = λ c _. refl;
  grace = λ x _. same_grace_by t.limits.cores _ _ refl;
}

pub numbers_past : (t : Maps) (l : ℕ) (x : state.Liveness) → 64 ≤ l → SameState (state_of t) (with_number (state_of t) l x)
unfolding state_of
numbers_past t l x past = record {
  limits = refl;
  place = λ g j _ _. refl;
  frame = λ g _. refl;
  number = λ m below. sym (put_other (λ m. number_or_unused (at t.numbers m)) l x m (λ e. omega arith));
  core = λ c _. refl;
  grace = λ x _. same_grace_by t.limits.cores _ _ refl;
}

pub place_graces_set : (t : Maps) (es : List Period) (f i k : ℕ) (g : Period)
    → IsWhole t → i < 64 → k ≡ 64 * f + i → IsSet t.place_graces es k g
    → SameState (state_of (record t { place_graces = es })) (with_grace_of (state_of t) (PlaceOf f i) (grace_from t g))
unfolding state_of
place_graces_set t es f i k g whole small is s = elim (cases_lt f t.limits.frames) [
  | inl below ↦ same_by _ _
      (place_graces_written t es f i k g small is (written t.place_graces es k g (stands _ (at t.place_graces k) (whole.place_graces k (omega arith))) s))
  | inr past ↦ record {
    limits = refl;
    place = λ h j _ _. refl;
    frame = λ h _. refl;
    number = λ m _. refl;
    core = λ c _. refl;
    grace = λ x is_thing. same_grace_by t.limits.cores _ _ (point past x is_thing);
  }
]
  where
    point : t.limits.frames ≤ f → (y : Thing) → IsThing t.limits y
        → grace_in (record t { place_graces = es }) y ≡ (if same_thing y (PlaceOf f i) then grace_from t g else grace_in t y)
    point past (PlaceOf h m) (h_below, m_below) =
        let ne : 64 * h + m ≢ k = λ e. omega arith in
        let apart : h ≢ f = λ e. omega arith in
        ap (graced t) (at_apart es t.place_graces h m m_below (s.others (64 * h + m) ne))
        ∙ sym (ap (λ b. if b && m == i then grace_from t g else grace_in t (PlaceOf h m)) (ne_eqb h f apart))
    point past (FrameOf h) _ = refl
    point past (NumberOf l) _ = refl

pub frame_graces_set : (t : Maps) (es : List Period) (f k : ℕ) (g : Period) → IsWhole t → k ≡ f → IsSet t.frame_graces es k g
    → SameState (state_of (record t { frame_graces = es })) (with_grace_of (state_of t) (FrameOf f) (grace_from t g))
unfolding state_of
frame_graces_set t es f k g whole is s = elim (cases_lt f t.limits.frames) [
  | inl below ↦ same_by _ _ (frame_graces_written t es f k g is (written t.frame_graces es k g (stands _ (at t.frame_graces k) (whole.frame_graces k (omega arith))) s))
  | inr past ↦ record {
    limits = refl;
    place = λ h j _ _. refl;
    frame = λ h _. refl;
    number = λ m _. refl;
    core = λ c _. refl;
    grace = λ x is_thing. same_grace_by t.limits.cores _ _ (point past x is_thing);
  }
]
  where
    point : t.limits.frames ≤ f → (y : Thing) → IsThing t.limits y
        → grace_in (record t { frame_graces = es }) y ≡ (if same_thing y (FrameOf f) then grace_from t g else grace_in t y)
    point past (PlaceOf h m) _ = refl
    point past (FrameOf h) below =
        ap (graced t) (s.others h (λ e. omega arith))
        ∙ sym (ap (λ b. if b then grace_from t g else grace_in t (FrameOf h)) (ne_eqb h f (λ e. omega arith)))
    point past (NumberOf l) _ = refl

pub number_graces_set : (t : Maps) (es : List Period) (l k : ℕ) (g : Period) → IsWhole t → k ≡ l → IsSet t.number_graces es k g
    → SameState (state_of (record t { number_graces = es })) (with_grace_of (state_of t) (NumberOf l) (grace_from t g))
unfolding state_of
number_graces_set t es l k g whole is s = elim (cases_lt l 64) [
  | inl below ↦ same_by _ _ (number_graces_written t es l k g is (written t.number_graces es k g (stands _ (at t.number_graces k) (whole.number_graces k (omega arith))) s))
  | inr past ↦ record {
    limits = refl;
    place = λ h j _ _. refl;
    frame = λ h _. refl;
    number = λ m _. refl;
    core = λ c _. refl;
    grace = λ x is_thing. same_grace_by t.limits.cores _ _ (point past x is_thing);
  }
]
  where
    point : 64 ≤ l → (y : Thing) → IsThing t.limits y
        → grace_in (record t { number_graces = es }) y ≡ (if same_thing y (NumberOf l) then grace_from t g else grace_in t y)
    point past (PlaceOf h m) _ = refl
    point past (FrameOf h) _ = refl
    point past (NumberOf m) below =
        ap (graced t) (s.others m (λ e. omega arith))
        ∙ sym (ap (λ b. if b then grace_from t g else grace_in t (NumberOf m)) (ne_eqb m l (λ e. omega arith)))
