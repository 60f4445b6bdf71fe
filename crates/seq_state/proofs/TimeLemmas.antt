-- What a core does by the clock is that change of all grace periods, for all that the machine has.
use Rattle.seq_state.specs.{◌≡◌, ◌≢◌, ℕ, ◌+◌, ◌*◌, ◌<◌, ◌≤◌, Bool, true, false, ◌&&◌, ◌==◌, ltb as nat_lt, if◌then◌else◌, refl, List, []}
use Rattle.seq_state.specs.{length, set, get_or, Option, Some, None, IsSome, IsSomeAnd, Grace, PlaceOf, FrameOf, NumberOf, State, put}
use Rattle.seq_state.specs.{with_core, entered, returned, no_grace, refs, core_of, no_times, no_period, times_at, TimesFit, at, count_at}
use Rattle.seq_state.specs.{HasKeys, HasAll, HasBegun, IsWhole, state_of, core_or_none, period_or_none, is_inside, grace_from, period_of}
use Rattle.seq_state.specs.{IsThing, SameGrace, SameState, with_grace_of}
use Rattle.kernel_invariant.specs.kernel_rules.proofs.{inl, inr, sym, ◌∙◌, ap, subst, arith, get_or-set_same, get_or-set_other, length-set}
use Rattle.kernel_invariant.specs.kernel_rules.proofs.{eq-eqb, ne_eqb, lt-ltb, le-ltb, Thing, with_grace, passed, flushed, put_same}
use Rattle.seq_state.specs.{declared.parts.Core.Core, declared.times.Times.Times, declared.times.Period.Period, Times.enters, Times.returns}
use Rattle.seq_state.specs.{Times.flushes, Maps.Maps, Passing.AreBefore, Passing.grace_begun}
use Rattle.seq_state.proofs.Same.{same_by, same_grace_by, same_then, same_grace_of}
use Rattle.seq_state.proofs.MapLemmas.{IsWritten, at_place_is, put_written, is_inside_of}
use Rattle.{kernel_invariant.specs.kernel_rules.proofs.put_other, std.proofs.lemmas.Bool.cases_eq, std.proofs.lemmas.Bool.cases_lt}
use Rattle.{seq_state.proofs.CountLemmas.core_counts, seq_state.proofs.CountLemmas.grace_counts}
use Rattle.kernel_invariant.specs.kernel_rules.specs.State as state

-- The maps with other cores and other times.
abbrev pub after : Maps → List Core → List Times → Maps
after t es ts = record t { cores = es; times = ts }

-- Core c and its times are written.
pub record Acts (t : Maps) (es : List Core) (ts : List Times) (c : ℕ) (y : Core) (z : Times) : Type 0 where
  pub core : IsWritten t.cores es c y
  pub times : ts ≡ set t.times c z
  pub within : c < length t.times

inside_here : (t : Maps) (es : List Core) (ts : List Times) (c : ℕ) (y : Core) (z : Times) → Acts t es ts c y z
    → (d : ℕ) → d ≡ c → is_inside (after t es ts) d ≡ y.inside
inside_here t es ts c y z a d e = ap (λ (o : Option Core). (core_or_none o).inside) (ap (at es) e ∙ a.core.here)

inside_apart : (t : Maps) (es : List Core) (ts : List Times) (c : ℕ) (y : Core) (z : Times) → Acts t es ts c y z
    → (d : ℕ) → d ≢ c → is_inside (after t es ts) d ≡ is_inside t d
inside_apart t es ts c y z a d ne = ap (λ (o : Option Core). (core_or_none o).inside) (a.core.others d ne)

times_here : (t : Maps) (es : List Core) (ts : List Times) (c : ℕ) (y : Core) (z : Times) → Acts t es ts c y z
    → (d : ℕ) → d ≡ c → times_at ts d ≡ z
times_here t es ts c y z a d e = ap (λ q. times_at q d) a.times ∙ ap (λ i. get_or (set t.times c z) i no_times) e
    ∙ get_or-set_same t.times c z no_times a.within

times_apart : (t : Maps) (es : List Core) (ts : List Times) (c : ℕ) (y : Core) (z : Times) → Acts t es ts c y z
    → (d : ℕ) → d ≢ c → times_at ts d ≡ times_at t.times d
times_apart t es ts c y z a d ne = ap (λ q. times_at q d) a.times ∙ get_or-set_other t.times c d z no_times ne

-- The grace period in a map began by a time.
begun_in : (n : ℕ) (o : Option Period) → IsSomeAnd o (λ p. p.began ≤ n) → (period_or_none o).began ≤ n
begun_in n None h = absurd h
begun_in n (Some p) h = h

pub begun_by_now : (t : Maps) → IsWhole t → (x : Thing) → IsThing t.limits x → (period_of t x).began ≤ t.clock
begun_by_now t whole (PlaceOf f i) h =
    let f_below = h.0 in
    let i_below = h.1 in
    subst (λ o. (period_or_none o).began ≤ t.clock) (sym (at_place_is t.place_graces f i (64 * f + i) h.1 refl))
    (begun_in t.clock (at t.place_graces (64 * f + i)) (whole.place_graces (64 * f + i) (omega arith)))
begun_by_now t whole (FrameOf f) h = begun_in t.clock (at t.frame_graces f) (whole.frame_graces f h)
begun_by_now t whole (NumberOf l) h = begun_in t.clock (at t.number_graces l) (whole.number_graces l h)

-- ---- beginning and ending

lies_before : (b : Bool) (v e : ℕ) → v < e → (b && nat_lt v e) ≡ b
lies_before true v e lt = lt-ltb v e lt
lies_before false v e lt = refl

-- A grace period that begins after all that the cores have done.
pub begun_is : (t : Maps) (p : Period) (n : ℕ) → n ≤ 8 → ((c : ℕ) → c < 8 → AreBefore p.began (times_at t.times c))
    → SameGrace n (grace_from t p) (grace_begun (state_of t) p.flushes)
unfolding state_of
begun_is t p n most later = record {
  waits = λ c l. lies_before (is_inside t c) (times_at t.times c).entered p.began (later c (omega arith)).entered;
  not_passed = λ c l. lt-ltb (times_at t.times c).passed p.began (later c (omega arith)).passed;
  unflushed = λ c l. lies_before p.flushes (times_at t.times c).flushed p.began (later c (omega arith)).flushed;
  flush_unknown = λ c l. lies_before p.flushes (times_at t.times c).flush_known p.began (later c (omega arith)).flush_known;
}

lies_after : (b : Bool) (v : ℕ) → (b && nat_lt v 0) ≡ false
lies_after true v = le-ltb v 0 (omega arith)
lies_after false v = refl

-- No grace period.
pub none_is : (t : Maps) (n : ℕ) → SameGrace n (grace_from t no_period) no_grace
none_is t n = record {
  waits = λ c _. lies_after (is_inside t c) (times_at t.times c).entered;
  not_passed = λ c _. le-ltb (times_at t.times c).passed 0 (omega arith);
  unflushed = λ c _. refl;
  flush_unknown = λ c _. refl;
}

-- A change of one core and of all grace periods.
changed_by : (t : Maps) (es : List Core) (ts : List Times) (c : ℕ) (y : Core) (z : Times) (g : Grace → Grace) → IsWhole t
    → Acts t es ts c y z
    → ((p : Period) → p.began ≤ t.clock → SameGrace t.limits.cores (grace_from (after t es ts) p) (g (grace_from t p)))
    → SameState (state_of (after t es ts)) (with_grace (with_core (state_of t) c (core_of y)) (λ x. g ((state_of t).grace x)))
unfolding state_of
changed_by t es ts c y z g whole a graces = record {
  limits = refl;
  place = λ f i _ _. refl;
  frame = λ f _. refl;
  number = λ l _. refl;
  core = λ d _. put_written core_or_none t.cores es c c y refl a.core d;
  grace = each;
}
  where
    each : (x : Thing) → IsThing t.limits x
        → SameGrace t.limits.cores (grace_from (after t es ts) (period_of (after t es ts) x)) (g (grace_from t (period_of t x)))
    each (PlaceOf f i) h = graces (period_of t (PlaceOf f i)) (begun_by_now t whole (PlaceOf f i) h)
    each (FrameOf f) h = graces (period_of t (FrameOf f)) (begun_by_now t whole (FrameOf f) h)
    each (NumberOf l) h = graces (period_of t (NumberOf l)) (begun_by_now t whole (NumberOf l) h)

-- A fact of a core and one of the others are one of all.
of_all : (c d : ℕ) (a b : Bool) → (d ≡ c → a ≡ b) → (d ≢ c → a ≡ b) → a ≡ b
of_all c d a b here apart = elim (cases_eq d c) [ inl e ↦ here e | inr ne ↦ apart ne ]

-- ---- entering

enter_waits : (b : Bool) (clock e : ℕ) (x : Times) → e ≤ clock → nat_lt (enters b clock x).entered e ≡ (b && nat_lt x.entered e)
enter_waits true clock e x le = refl
enter_waits false clock e x le = le-ltb clock e le

enter_keeps : (b : Bool) (clock : ℕ) (x : Times) → ((enters b clock x).passed ≡ x.passed) × ((enters b clock x).flushed ≡ x.flushed)
    × ((enters b clock x).flush_known ≡ x.flush_known)
enter_keeps true clock x = (refl, refl, refl)
enter_keeps false clock x = (refl, refl, refl)

pub enter_is : (t : Maps) (es : List Core) (ts : List Times) (c : ℕ) (y : Core) → IsWhole t
    → Acts t es ts c y (enters (is_inside t c) t.clock (times_at t.times c)) → y.inside ≡ true
    → SameState (state_of (after t es ts)) (with_core (state_of t) c (core_of y))
enter_is t es ts c y whole a in_call = changed_by t es ts c y z (λ g. g) whole a (λ p begun. record {
  waits = λ d _. of_all c d _ _
      (λ e. ap (λ b. b && nat_lt (times_at ts d).entered p.began) (inside_here t es ts c y z a d e ∙ in_call)
      ∙ ap (λ (x : Times). nat_lt x.entered p.began) (times_here t es ts c y z a d e)
      ∙ enter_waits (is_inside t c) t.clock p.began (times_at t.times c) begun
      ∙ ap (λ i. is_inside t i && nat_lt (times_at t.times i).entered p.began) (sym e))
      (λ ne. ap (λ b. b && nat_lt (times_at ts d).entered p.began) (inside_apart t es ts c y z a d ne)
      ∙ ap (λ (x : Times). is_inside t d && nat_lt x.entered p.began) (times_apart t es ts c y z a d ne));
  not_passed = λ d _. kept (λ x. x.passed) (λ v. nat_lt v p.began) d (enter_keeps (is_inside t c) t.clock (times_at t.times c)).0;
  unflushed = λ d _. kept (λ x. x.flushed) (λ v. p.flushes && nat_lt v p.began) d
      (enter_keeps (is_inside t c) t.clock (times_at t.times c)).1;
  flush_unknown = λ d _. kept (λ x. x.flush_known) (λ v. p.flushes && nat_lt v p.began) d
      (enter_keeps (is_inside t c) t.clock (times_at t.times c)).2;
})
  where
    z : Times
    z = enters (is_inside t c) t.clock (times_at t.times c)

    kept : (time : Times → ℕ) (test : ℕ → Bool) (d : ℕ) → time z ≡ time (times_at t.times c)
        → test (time (times_at ts d)) ≡ test (time (times_at t.times d))
    kept time test d same = of_all c d _ _
        (λ e. ap (λ x. test (time x)) (times_here t es ts c y z a d e) ∙ ap test same ∙ ap (λ i. test (time (times_at t.times i))) (sym e))
        (λ ne. ap (λ x. test (time x)) (times_apart t es ts c y z a d ne))

-- ---- returning

-- A choice that changes a function at c alone leaves it elsewhere.
chosen_apart : (w : Bool) (f : ℕ → Bool) (c d : ℕ) → d ≢ c → (if w then f else put f c false) d ≡ f d
chosen_apart true f c d ne = refl
chosen_apart false f c d ne = put_other f c false d ne

-- What was still to do and is done now: a later time lies before the beginning only where the earlier one does.
chosen_here : (f : ℕ → Bool) (c d a b e : ℕ) → d ≡ c → a ≤ b → f d ≡ nat_lt a e
    → nat_lt b e ≡ (if nat_lt b e then f else put f c false) d
chosen_here f c d a b e is le same = elim (cases_lt b e) [
  | inl lt ↦ lt-ltb b e lt ∙ sym (ap (λ w. (if w then f else put f c false) d) (lt-ltb b e lt) ∙ same ∙ lt-ltb a e (omega arith))
  | inr ge ↦ le-ltb b e ge ∙ sym (ap (λ w. (if w then f else put f c false) d) (le-ltb b e ge) ∙ put_same f c false d is)
]

return_passes : (b : Bool) (clock e : ℕ) (x : Times) (f : ℕ → Bool) (c d : ℕ) → d ≡ c → e ≤ clock → x.passed ≤ x.entered
    → f d ≡ nat_lt x.passed e → nat_lt (returns b clock x).passed e ≡ (if b && nat_lt x.entered e then f else put f c false) d
return_passes true clock e x f c d is le order same = chosen_here f c d x.passed x.entered e is order same
return_passes false clock e x f c d is le order same = le-ltb clock e le ∙ sym (put_same f c false d is)

return_flushes : (b : Bool) (e : ℕ) (x : Times) (f : ℕ → Bool) (c d : ℕ) → d ≡ c → x.flush_known ≤ x.flushed
    → f d ≡ (b && nat_lt x.flush_known e) → (b && nat_lt x.flushed e) ≡ (if b && nat_lt x.flushed e then f else put f c false) d
return_flushes true e x f c d is order same = chosen_here f c d x.flush_known x.flushed e is order same
return_flushes false e x f c d is order same = sym (put_same f c false d is)

pub leave_is : (t : Maps) (es : List Core) (ts : List Times) (c : ℕ) (y : Core) → IsWhole t → c < 8
    → Acts t es ts c y (returns (is_inside t c) t.clock (times_at t.times c)) → y.inside ≡ false
    → SameState (state_of (after t es ts)) (with_grace (with_core (state_of t) c (core_of y)) (λ x. passed c ((state_of t).grace x)))
leave_is t es ts c y whole below a out = changed_by t es ts c y z (passed c) whole a (λ p begun. record {
  waits = λ d _. of_all c d _ _
      (λ e. ap (λ b. b && nat_lt (times_at ts d).entered p.began) (inside_here t es ts c y z a d e ∙ out)
      ∙ sym (put_same (grace_from t p).waits c false d e))
      (λ ne. ap (λ b. b && nat_lt (times_at ts d).entered p.began) (inside_apart t es ts c y z a d ne)
      ∙ ap (λ (x : Times). is_inside t d && nat_lt x.entered p.began) (times_apart t es ts c y z a d ne)
      ∙ sym (put_other (grace_from t p).waits c false d ne));
  not_passed = λ d _. of_all c d _ _
      (λ e. ap (λ (x : Times). nat_lt x.passed p.began) (times_here t es ts c y z a d e)
      ∙ return_passes (is_inside t c) t.clock p.began x (grace_from t p).not_passed c d e begun (whole.times c below).passed
      (ap (λ i. nat_lt (times_at t.times i).passed p.began) e))
      (λ ne. ap (λ (x : Times). nat_lt x.passed p.began) (times_apart t es ts c y z a d ne)
      ∙ sym (chosen_apart ((grace_from t p).waits c) (grace_from t p).not_passed c d ne));
  unflushed = λ d _. of_all c d _ _
      (λ e. ap (λ (x : Times). p.flushes && nat_lt x.flushed p.began) (times_here t es ts c y z a d e)
      ∙ ap (λ i. p.flushes && nat_lt (times_at t.times i).flushed p.began) (sym e))
      (λ ne. ap (λ (x : Times). p.flushes && nat_lt x.flushed p.began) (times_apart t es ts c y z a d ne));
  flush_unknown = λ d _. of_all c d _ _
      (λ e. ap (λ (x : Times). p.flushes && nat_lt x.flush_known p.began) (times_here t es ts c y z a d e)
      ∙ return_flushes p.flushes p.began x (grace_from t p).flush_unknown c d e (whole.times c below).flush_known
      (ap (λ i. p.flushes && nat_lt (times_at t.times i).flush_known p.began) e))
      (λ ne. ap (λ (x : Times). p.flushes && nat_lt x.flush_known p.began) (times_apart t es ts c y z a d ne)
      ∙ sym (chosen_apart ((grace_from t p).unflushed c) (grace_from t p).flush_unknown c d ne));
})
  where
    x : Times
    x = times_at t.times c

    z : Times
    z = returns (is_inside t c) t.clock x

-- ---- flushing

flush_clears : (b : Bool) (clock e : ℕ) → e ≤ clock → (b && nat_lt clock e) ≡ false
flush_clears true clock e le = le-ltb clock e le
flush_clears false clock e le = refl

pub flush_is : (t : Maps) (es : List Core) (ts : List Times) (c : ℕ) (y : Core) → IsWhole t
    → Acts t es ts c y (flushes t.clock (times_at t.times c)) → y.inside ≡ is_inside t c
    → SameState (state_of (after t es ts)) (with_grace (with_core (state_of t) c (core_of y))
    (λ x. record ((state_of t).grace x) { unflushed = put ((state_of t).grace x).unflushed c false }))
flush_is t es ts c y whole a same =
    changed_by t es ts c y z (λ g. record g { unflushed = put g.unflushed c false }) whole a (λ p begun. record {
      waits = λ d _. of_all c d _ _
          (λ e. ap (λ b. b && nat_lt (times_at ts d).entered p.began) (inside_here t es ts c y z a d e ∙ same ∙ ap (is_inside t) (sym e))
          ∙ ap (λ (x : Times). is_inside t d && nat_lt x.entered p.began) (times_here t es ts c y z a d e)
          ∙ ap (λ i. is_inside t d && nat_lt (times_at t.times i).entered p.began) (sym e))
          (λ ne. ap (λ b. b && nat_lt (times_at ts d).entered p.began) (inside_apart t es ts c y z a d ne)
          ∙ ap (λ (x : Times). is_inside t d && nat_lt x.entered p.began) (times_apart t es ts c y z a d ne));
      not_passed = λ d _. of_all c d _ _
          (λ e. ap (λ (x : Times). nat_lt x.passed p.began) (times_here t es ts c y z a d e)
          ∙ ap (λ i. nat_lt (times_at t.times i).passed p.began) (sym e))
          (λ ne. ap (λ (x : Times). nat_lt x.passed p.began) (times_apart t es ts c y z a d ne));
      unflushed = λ d _. of_all c d _ _
          (λ e. ap (λ (x : Times). p.flushes && nat_lt x.flushed p.began) (times_here t es ts c y z a d e)
          ∙ flush_clears p.flushes t.clock p.began begun ∙ sym (put_same (grace_from t p).unflushed c false d e))
          (λ ne. ap (λ (x : Times). p.flushes && nat_lt x.flushed p.began) (times_apart t es ts c y z a d ne)
          ∙ sym (put_other (grace_from t p).unflushed c false d ne));
      flush_unknown = λ d _. of_all c d _ _
          (λ e. ap (λ (x : Times). p.flushes && nat_lt x.flush_known p.began) (times_here t es ts c y z a d e)
          ∙ ap (λ i. p.flushes && nat_lt (times_at t.times i).flush_known p.began) (sym e))
          (λ ne. ap (λ (x : Times). p.flushes && nat_lt x.flush_known p.began) (times_apart t es ts c y z a d ne));
    })
  where
    z : Times
    z = flushes t.clock (times_at t.times c)

-- ---- the code's writes

acts : (t : Maps) (es : List Core) (c k i : ℕ) (y : Core) (z w : Times) → IsWhole t → c < 8 → k ≡ c → i ≡ c
    → IsWritten t.cores es k y → z ≡ w → Acts t es (set t.times i z) c y w
acts t es c k i y z w whole below k_is i_is written z_is = record {
  core = subst (λ q. IsWritten t.cores es q y) k_is written;
  times = λ j. set t.times (i_is j) (z_is j);
  within = let n = whole.times_of_all in omega arith;
}

pub enter_done : (t : Maps) (es : List Core) (c k i : ℕ) (x : Core) (z : Times) → IsWhole t → c < 8 → k ≡ c → i ≡ c
    → IsWritten t.cores es k (record x { inside = true }) → core_of x ≡ (state_of t).core c
    → z ≡ enters x.inside t.clock (get_or t.times i no_times)
    → SameState (state_of (after t es (set t.times i z))) (entered (state_of t) c)
enter_done t es c k i x z whole below k_is i_is written is z_is =
    let inside : x.inside ≡ is_inside t c = ap (λ (y : state.Core). y.inside) is ∙ is_inside_of t c in
    subst (λ y. SameState (state_of (after t es (set t.times i z))) (with_core (state_of t) c (record y { inside = true }))) is
    (enter_is t es (set t.times i z) c (record x { inside = true }) whole
    (acts t es c k i (record x { inside = true }) z _ whole below k_is i_is written
    (z_is ∙ (λ j. enters (inside j) t.clock (get_or t.times (i_is j) no_times)))) refl)

pub leave_done : (t : Maps) (es : List Core) (c k i : ℕ) (x : Core) (z : Times) → IsWhole t → c < 8 → k ≡ c → i ≡ c
    → IsWritten t.cores es k (record x { inside = false }) → core_of x ≡ (state_of t).core c
    → z ≡ returns x.inside t.clock (get_or t.times i no_times)
    → SameState (state_of (after t es (set t.times i z))) (returned (state_of t) c)
leave_done t es c k i x z whole below k_is i_is written is z_is =
    let inside : x.inside ≡ is_inside t c = ap (λ (y : state.Core). y.inside) is ∙ is_inside_of t c in
    subst (λ y. SameState (state_of (after t es (set t.times i z)))
    (with_grace (with_core (state_of t) c (record y { inside = false })) (λ thing. passed c ((state_of t).grace thing)))) is
    (leave_is t es (set t.times i z) c (record x { inside = false }) whole below
    (acts t es c k i (record x { inside = false }) z _ whole below k_is i_is written
    (z_is ∙ (λ j. returns (inside j) t.clock (get_or t.times (i_is j) no_times)))) refl)

pub flush_done : (t : Maps) (es : List Core) (c k i : ℕ) (y : Core) (z : Times) → IsWhole t → c < 8 → k ≡ c → i ≡ c
    → IsWritten t.cores es k y → core_of y ≡ record ((state_of t).core c) { cached = [] }
    → z ≡ flushes t.clock (get_or t.times i no_times)
    → SameState (state_of (after t es (set t.times i z))) (flushed (state_of t) c)
flush_done t es c k i y z whole below k_is i_is written is z_is =
    let inside : y.inside ≡ is_inside t c = ap (λ (x : state.Core). x.inside) is ∙ is_inside_of t c in
    subst (λ x. SameState (state_of (after t es (set t.times i z))) (with_grace (with_core (state_of t) c x)
    (λ thing. record ((state_of t).grace thing) { unflushed = put ((state_of t).grace thing).unflushed c false }))) is
    (flush_is t es (set t.times i z) c y whole
    (acts t es c k i y z _ whole below k_is i_is written
    (z_is ∙ (λ j. flushes t.clock (get_or t.times (i_is j) no_times)))) inside)

-- ---- the maps stay whole

keys_written : {X : Type 0} (n : ℕ) (old new : List X) (k : ℕ) (x : X) → HasKeys n old → IsWritten old new k x → HasKeys n new
keys_written n old new k x all w q below = elim (cases_eq q k) [
  | inl e ↦ subst (λ o. IsSome o) (sym (ap (at new) e ∙ w.here)) refl
  | inr ne ↦ subst (λ o. IsSome o) (sym (w.others q ne)) (all q below)
]

whole_after : (t : Maps) (es : List Core) (ts : List Times) (c : ℕ) (y : Core) (z : Times) → IsWhole t
    → Acts t es ts c y z → TimesFit t.clock z → ((f : ℕ) → f < 512 → count_at t.counts f ≡ refs (state_of (after t es ts)) f)
    → IsWhole (after t es ts)
whole_after t es ts c y z whole a fits counts = record {
  fits = whole.fits;
  places = whole.places;
  frames = whole.frames;
  numbers = whole.numbers;
  cores = keys_written t.limits.cores t.cores es c y whole.cores a.core;
  place_graces = whole.place_graces;
  frame_graces = whole.frame_graces;
  number_graces = whole.number_graces;
  times_of_all = ap length a.times ∙ length-set t.times c z ∙ whole.times_of_all;
  times = λ d below. elim (cases_eq d c) [
    | inl e ↦ subst (TimesFit t.clock) (sym (times_here t es ts c y z a d e)) fits
    | inr ne ↦ subst (TimesFit t.clock) (sym (times_apart t es ts c y z a d ne)) (whole.times d below)
  ];
  all_counted = whole.all_counted;
  counts = counts;
}

enters_fit : (b : Bool) (n : ℕ) (x : Times) → TimesFit n x → TimesFit n (enters b n x)
enters_fit true n x fits = fits
enters_fit false n x fits =
    let a = fits.entered in
    let b = fits.passed in
    record { entered = omega arith; flushed = fits.flushed; passed = omega arith; flush_known = fits.flush_known }

returns_fit : (b : Bool) (n : ℕ) (x : Times) → TimesFit n x → TimesFit n (returns b n x)
returns_fit true n x fits = record { entered = fits.entered; flushed = fits.flushed; passed = omega arith; flush_known = omega arith }
returns_fit false n x fits = record { entered = omega arith; flushed = fits.flushed; passed = omega arith; flush_known = omega arith }

flushes_fit : (n : ℕ) (x : Times) → TimesFit n x → TimesFit n (flushes n x)
flushes_fit n x fits =
    let a = fits.flushed in
    let b = fits.flush_known in
    record { entered = fits.entered; flushed = omega arith; passed = fits.passed; flush_known = omega arith }

pub enter_whole : (t : Maps) (es : List Core) (c k i : ℕ) (x : Core) (z : Times) → IsWhole t → c < 8 → c < (state_of t).limits.cores
    → k ≡ c → i ≡ c → IsWritten t.cores es k (record x { inside = true }) → core_of x ≡ (state_of t).core c
    → z ≡ enters x.inside t.clock (get_or t.times i no_times) → IsWhole (after t es (set t.times i z))
enter_whole t es c k i x z whole below core k_is i_is written is z_is =
    let inside : x.inside ≡ is_inside t c = ap (λ (y : state.Core). y.inside) is ∙ is_inside_of t c in
    whole_after t es (set t.times i z) c (record x { inside = true }) _ whole
    (acts t es c k i (record x { inside = true }) z _ whole below k_is i_is written
    (z_is ∙ (λ j. enters (inside j) t.clock (get_or t.times (i_is j) no_times))))
    (enters_fit (is_inside t c) t.clock (times_at t.times c) (whole.times c below))
    (core_counts t (after t es (set t.times i z)) c (record ((state_of t).core c) { inside = true }) (state_of t).grace whole core refl refl
    (enter_done t es c k i x z whole below k_is i_is written is z_is))

pub leave_whole : (t : Maps) (es : List Core) (c k i : ℕ) (x : Core) (z : Times) → IsWhole t → c < 8 → c < (state_of t).limits.cores
    → k ≡ c → i ≡ c → IsWritten t.cores es k (record x { inside = false }) → core_of x ≡ (state_of t).core c
    → z ≡ returns x.inside t.clock (get_or t.times i no_times) → IsWhole (after t es (set t.times i z))
leave_whole t es c k i x z whole below core k_is i_is written is z_is =
    let inside : x.inside ≡ is_inside t c = ap (λ (y : state.Core). y.inside) is ∙ is_inside_of t c in
    whole_after t es (set t.times i z) c (record x { inside = false }) _ whole
    (acts t es c k i (record x { inside = false }) z _ whole below k_is i_is written
    (z_is ∙ (λ j. returns (inside j) t.clock (get_or t.times (i_is j) no_times))))
    (returns_fit (is_inside t c) t.clock (times_at t.times c) (whole.times c below))
    (core_counts t (after t es (set t.times i z)) c (record ((state_of t).core c) { inside = false })
    (λ thing. passed c ((state_of t).grace thing)) whole core refl refl
    (leave_done t es c k i x z whole below k_is i_is written is z_is))

pub flush_whole : (t : Maps) (es : List Core) (c k i : ℕ) (y : Core) (z : Times) → IsWhole t → c < 8 → c < (state_of t).limits.cores
    → k ≡ c → i ≡ c → IsWritten t.cores es k y → core_of y ≡ record ((state_of t).core c) { cached = [] }
    → z ≡ flushes t.clock (get_or t.times i no_times) → IsWhole (after t es (set t.times i z))
flush_whole t es c k i y z whole below core k_is i_is written is z_is =
    whole_after t es (set t.times i z) c y _ whole
    (acts t es c k i y z _ whole below k_is i_is written (z_is ∙ (λ j. flushes t.clock (get_or t.times (i_is j) no_times))))
    (flushes_fit t.clock (times_at t.times c) (whole.times c below))
    (core_counts t (after t es (set t.times i z)) c (record ((state_of t).core c) { cached = [] })
    (λ thing. record ((state_of t).grace thing) { unflushed = put ((state_of t).grace thing).unflushed c false }) whole core refl refl
    (flush_done t es c k i y z whole below k_is i_is written is z_is))

-- ---- the clock

all_by : (n m end : ℕ) (es : List Period) → n ≤ m → HasAll end es (HasBegun n) → HasAll end es (HasBegun m)
all_by n m end es le all k below = later (at es k) (all k below)
  where
    later : (o : Option Period) → IsSomeAnd o (HasBegun n k) → IsSomeAnd o (HasBegun m k)
    later None h = absurd h
    later (Some p) h = let began : p.began ≤ n = h in omega arith

pub all_before : (t : Maps) (m : ℕ) → m ≡ t.clock + 1 → IsWhole t → (c : ℕ) → c < 8 → AreBefore m (times_at t.times c)
all_before t m is whole c below =
    let fits = whole.times c below in
    let entered = fits.entered in
    let flushed = fits.flushed in
    let passed = fits.passed in
    let known = fits.flush_known in
    record { entered = omega arith; passed = omega arith; flushed = omega arith; flush_known = omega arith }

pub same_later : (t : Maps) (m : ℕ) → SameState (state_of (record t { clock = m })) (state_of t)
unfolding state_of
same_later t m = record {
  limits = refl;
  place = λ f i _ _. refl;
  frame = λ f _. refl;
  number = λ l _. refl;
  core = λ c _. refl;
  grace = λ x _. each x;
}
  where
    each : (x : Thing) → SameGrace t.limits.cores (grace_from t (period_of (record t { clock = m }) x)) (grace_from t (period_of t x))
    each (PlaceOf f i) = same_grace_by t.limits.cores _ _ refl
    each (FrameOf f) = same_grace_by t.limits.cores _ _ refl
    each (NumberOf l) = same_grace_by t.limits.cores _ _ refl

pub whole_later : (t : Maps) (m : ℕ) → t.clock ≤ m → IsWhole t → IsWhole (record t { clock = m })
whole_later t m le whole = record {
  fits = whole.fits;
  places = whole.places;
  frames = whole.frames;
  numbers = whole.numbers;
  cores = whole.cores;
  place_graces = all_by t.clock m (64 * t.limits.frames) t.place_graces le whole.place_graces;
  frame_graces = all_by t.clock m t.limits.frames t.frame_graces le whole.frame_graces;
  number_graces = all_by t.clock m 64 t.number_graces le whole.number_graces;
  times_of_all = whole.times_of_all;
  times = λ c below.
      let fits = whole.times c below in
      let entered = fits.entered in
      let flushed = fits.flushed in
      record { entered = omega arith; flushed = omega arith; passed = fits.passed; flush_known = fits.flush_known };
  all_counted = whole.all_counted;
  counts = grace_counts t (record t { clock = m }) (state_of t).grace whole refl (same_later t m);
}

-- A grace period begins after the clock went on.
pub begins : (old mid new : Maps) (x : Thing) (p : Period) → (state_of old).limits.cores ≤ 8
    → SameState (state_of mid) (state_of old) → ((c : ℕ) → c < 8 → AreBefore p.began (times_at mid.times c))
    → SameState (state_of new) (with_grace_of (state_of mid) x (grace_from mid p))
    → SameState (state_of new) (with_grace_of (state_of old) x (grace_begun (state_of old) p.flushes))
begins old mid new x p most same later set = same_then _ _ _ set (same_grace_of (state_of mid) (state_of old) x
    (grace_from mid p) (grace_begun (state_of old) p.flushes) (record {
      waits = λ c l. (begun_is mid p (state_of old).limits.cores most later).waits c l
          ∙ ap (λ (k : state.Core). k.inside) (same.core c l);
      not_passed = (begun_is mid p (state_of old).limits.cores most later).not_passed;
      unflushed = (begun_is mid p (state_of old).limits.cores most later).unflushed;
      flush_unknown = (begun_is mid p (state_of old).limits.cores most later).flush_unknown;
    }) same)

-- The grace period of a thing ends.
pub clears : (old new : Maps) (x : Thing) → SameState (state_of new) (with_grace_of (state_of old) x (grace_from old no_period))
    → SameState (state_of new) (with_grace_of (state_of old) x no_grace)
clears old new x set = same_then _ _ _ set (same_grace_of (state_of old) (state_of old) x (grace_from old no_period) no_grace
    (none_is old (state_of old).limits.cores) (same_by _ _ refl))

-- ---- sets of cores

-- A set that has the cores below n as a test says, with core n put as the test says.
pub put_on : (f old new : ℕ → Bool) (n core : ℕ) (b : Bool) → core ≡ n → n < 8 → b ≡ f core
    → ((d : ℕ) → d < 8 → new d ≡ (if d == core then b else old d)) → ((d : ℕ) → d < n → old d ≡ f d)
    → (d : ℕ) → d < n + 1 → new d ≡ f d
put_on f old new n core b is small tested puts below d less = puts d (omega arith) ∙ elim (cases_eq d core) [
  | inl e ↦ ap (λ t. if t then b else old d) (eq-eqb d core e) ∙ tested ∙ ap f (sym e)
  | inr ne ↦ ap (λ t. if t then b else old d) (ne_eqb d core ne) ∙ below d (omega arith)
]
