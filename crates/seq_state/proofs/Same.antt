-- States that are one for all that a machine has: changes keep them so, and references are counted alike.
use Rattle.kernel_invariant.specs.kernel_rules.proofs.{◌≡◌, ℕ, ◌+◌, ◌<◌, ◌==◌, Bool, true, false, refl, sym, ◌∙◌, ap, subst, if◌then◌else◌}
use Rattle.kernel_invariant.specs.kernel_rules.proofs.{eqb-true, put, Place, Frame, Liveness, Core, Grace, Thing, Limits, with_place}
use Rattle.kernel_invariant.specs.kernel_rules.proofs.{with_frame, with_number, with_core, same_thing, place_names, frame_names}
use Rattle.kernel_invariant.specs.kernel_rules.proofs.{number_names, core_names, sum_below, times, node_refs, refs}
use Rattle.seq_state.specs.{State, IsThing, SameGrace, SameState, with_grace_of}
use Rattle.kernel_invariant.proofs.Sums.{sum_same}

pub same_grace_by : (n : ℕ) (g h : Grace) → g ≡ h → SameGrace n g h
same_grace_by n g h e = record {
  waits = λ c _. ap (λ (k : Grace). k.waits c) e;
  not_passed = λ c _. ap (λ (k : Grace). k.not_passed c) e;
  unflushed = λ c _. ap (λ (k : Grace). k.unflushed c) e;
  flush_unknown = λ c _. ap (λ (k : Grace). k.flush_unknown c) e;
}

pub same_by : (s t : State) → s ≡ t → SameState s t
same_by s t e = record {
  limits = ap (λ (u : State). u.limits) e;
  place = λ f i _ _. ap (λ (u : State). u.place f i) e;
  frame = λ f _. ap (λ (u : State). u.frame f) e;
  number = λ l _. ap (λ (u : State). u.number l) e;
  core = λ c _. ap (λ (u : State). u.core c) e;
  grace = λ x _. same_grace_by t.limits.cores _ _ (ap (λ (u : State). u.grace x) e);
}

same_grace_then : (n : ℕ) (g h k : Grace) → SameGrace n g h → SameGrace n h k → SameGrace n g k
same_grace_then n g h k a b = record {
  waits = λ c l. a.waits c l ∙ b.waits c l;
  not_passed = λ c l. a.not_passed c l ∙ b.not_passed c l;
  unflushed = λ c l. a.unflushed c l ∙ b.unflushed c l;
  flush_unknown = λ c l. a.flush_unknown c l ∙ b.flush_unknown c l;
}

pub same_then : (s t u : State) → SameState s t → SameState t u → SameState s u
same_then s t u a b =
    let frames_is : t.limits.frames ≡ u.limits.frames = ap (λ (l : Limits). l.frames) b.limits in
    let cores_is : t.limits.cores ≡ u.limits.cores = ap (λ (l : Limits). l.cores) b.limits in
    record {
      limits = a.limits ∙ b.limits;
      place = λ f i lf li. a.place f i (subst (λ n. f < n) (sym frames_is) lf) li ∙ b.place f i lf li;
      frame = λ f lf. a.frame f (subst (λ n. f < n) (sym frames_is) lf) ∙ b.frame f lf;
      number = λ l ll. a.number l ll ∙ b.number l ll;
      core = λ c lc. a.core c (subst (λ n. c < n) (sym cores_is) lc) ∙ b.core c lc;
      grace = λ x is. same_grace_then u.limits.cores _ _ _
          (subst (λ n. SameGrace n (s.grace x) (t.grace x)) cores_is (a.grace x (subst (λ l. IsThing l x) (sym b.limits) is)))
          (b.grace x is);
    }

-- A value of `put` follows from the values that it is made of.
put_both : {A : Type 0} (f g : ℕ → A) (i : ℕ) (x : A) (j : ℕ) → f j ≡ g j → put f i x j ≡ put g i x j
put_both f g i x j e = ap (λ v. if j == i then x else v) e

-- The same change keeps two states one.
pub same_place : (s t : State) (f i : ℕ) (p : Place) → SameState s t → SameState (with_place s f i p) (with_place t f i p)
same_place s t f i p a = record {
  limits = a.limits;
  place = λ g j lg lj. row (g == f) g j (a.place g j lg lj) (λ e. a.place f j (subst (λ h. h < t.limits.frames) (eqb-true g f e) lg) lj);
  frame = a.frame;
  number = a.number;
  core = a.core;
  grace = a.grace;
}
  where
    row : (b : Bool) (g j : ℕ) → s.place g j ≡ t.place g j → (b ≡ true → s.place f j ≡ t.place f j)
        → (if b then put (s.place f) i p else s.place g) j ≡ (if b then put (t.place f) i p else t.place g) j
    row true g j here there = put_both (s.place f) (t.place f) i p j (there refl)
    row false g j here there = here

pub same_frame : (s t : State) (f : ℕ) (x : Frame) → SameState s t → SameState (with_frame s f x) (with_frame t f x)
same_frame s t f x a = record {
  limits = a.limits;
  place = a.place;
  frame = λ g lg. put_both s.frame t.frame f x g (a.frame g lg);
  number = a.number;
  core = a.core;
  grace = a.grace;
}

pub same_number : (s t : State) (l : ℕ) (x : Liveness) → SameState s t → SameState (with_number s l x) (with_number t l x)
same_number s t l x a = record {
  limits = a.limits;
  place = a.place;
  frame = a.frame;
  number = λ m lm. put_both s.number t.number l x m (a.number m lm);
  core = a.core;
  grace = a.grace;
}

pub same_core : (s t : State) (c : ℕ) (x : Core) → SameState s t → SameState (with_core s c x) (with_core t c x)
same_core s t c x a = record {
  limits = a.limits;
  place = a.place;
  frame = a.frame;
  number = a.number;
  core = λ d ld. put_both s.core t.core c x d (a.core d ld);
  grace = a.grace;
}

pub same_grace_of : (s t : State) (x : Thing) (g h : Grace) → SameGrace t.limits.cores g h → SameState s t
    → SameState (with_grace_of s x g) (with_grace_of t x h)
same_grace_of s t x g h e a = record {
  limits = a.limits;
  place = a.place;
  frame = a.frame;
  number = a.number;
  core = a.core;
  grace = λ y is. chosen (same_thing y x) (s.grace y) (t.grace y) (a.grace y is);
}
  where
    chosen : (b : Bool) (k m : Grace) → SameGrace t.limits.cores k m → SameGrace t.limits.cores (if b then g else k) (if b then h else m)
    chosen true k m r = e
    chosen false k m r = r

-- The references to a frame are the same.
pub same_refs : (s t : State) (f : ℕ) → SameState s t → refs s f ≡ refs t f
unfolding refs node_refs
same_refs s t f a =
    let frames_is : s.limits.frames ≡ t.limits.frames = ap (λ (l : Limits). l.frames) a.limits in
    let cores_is : s.limits.cores ≡ t.limits.cores = ap (λ (l : Limits). l.cores) a.limits in
    let in_places = ap (sum_below (node_refs s f)) frames_is ∙ sum_same (node_refs t f) (node_refs s f) t.limits.frames (λ g lg.
    sum_same (λ i. times f (place_names (t.place g i))) (λ i. times f (place_names (s.place g i)))
    64 (λ i li. ap (λ p. times f (place_names p)) (a.place g i lg li))) in
    let in_frames = ap (sum_below (λ g. times f (frame_names (s.frame g)))) frames_is
    ∙ sum_same (λ g. times f (frame_names (t.frame g))) (λ g. times f (frame_names (s.frame g)))
    t.limits.frames (λ g lg. ap (λ x. times f (frame_names x)) (a.frame g lg)) in
    let in_cores = ap (sum_below (λ c. times f (core_names (s.core c)))) cores_is
    ∙ sum_same (λ c. times f (core_names (t.core c))) (λ c. times f (core_names (s.core c)))
    t.limits.cores (λ c lc. ap (λ x. times f (core_names x)) (a.core c lc)) in
    let in_numbers = sum_same (λ l. times f (number_names (t.number l)))
    (λ l. times f (number_names (s.number l))) 64 (λ l ll. ap (λ x. times f (number_names x)) (a.number l ll)) in
    λ j. in_places j + in_frames j + in_cores j + in_numbers j
