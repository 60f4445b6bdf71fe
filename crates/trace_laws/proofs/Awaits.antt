-- A grace period that stands waits for flushes exactly where its thing needs them now.
use Rattle.boot_words.specs.kernel_history.proofs as low
use low.{◌≡◌, ◌⊎◌, inl, inr, ℕ, ◌<◌, arith, Bool, true, false, refl, sym, ◌∙◌, ap, subst, IsTrue, [], ◌∷◌, Option, Some, None, false≢true}
use low.{Setting, IsSetting, Call, Reply, Thing, PlaceOf, FrameOf, State, is_paging, MayReply, is_node, Step, Phase, Out, Decided, phase}
use low.{after_enter, state_after, state_entered, state_decided, state_returned, state_before, begins_in, ends_in, begins_at, ends_at}
use low.{stamp, awaits_flushes, MayDecide, MayFollow, IsLegal, stamp-ends, stamp-kept, entered_events}
use Rattle.found_stays.specs.kernel_invariant.proofs.{opened, IsOpen, is_typed, TurnsIn, decided_turns, begins_typed}
use Rattle.found_stays.specs.kernel_rules.specs.{is_translated, needs_flush}
use Rattle.found_stays.specs.kernel_invariant.proofs.Releases.{ends_begins}
use Rattle.boot_words.specs.kernel_history.specs.Trace.{Trace, Open}
use low.Steps.{awaits-begins, awaits-kept}
use Rattle.trace_laws.proofs.{Opens.opens, Opens.open_inj, GraceSteps.cases_bool}

-- What holds of the things of a frame f whose grace periods stand: a place of a node waits for flushes where the node is of page
-- tables; a frame is something, and waits for flushes where it may be reached through translations.
pub record AwaitsAre (setup : Setting) (t : Trace) (f : ℕ) : Type 0 where
  pub place : (i : ℕ) → IsTrue (is_node ((state_after setup t).frame f)) → 0 < stamp setup t (PlaceOf f i)
      → awaits_flushes setup t (PlaceOf f i) ≡ needs_flush (state_after setup t) (PlaceOf f i)
  pub typed : 0 < stamp setup t (FrameOf f) → IsTrue (is_typed ((state_after setup t).frame f))
  pub frame : 0 < stamp setup t (FrameOf f) → awaits_flushes setup t (FrameOf f) ≡ needs_flush (state_after setup t) (FrameOf f)

-- How a step turns a frame.
record TurnsAt (setup : Setting) (t : Trace) (e : Step) (f : ℕ) : Type 0 where
  node : (i : ℕ) → IsTrue (is_node ((state_after setup (e ∷ t)).frame f))
      → (ends_at t e (PlaceOf f i) ≡ true) ⊎ ((state_after setup (e ∷ t)).frame f ≡ (state_after setup t).frame f)
  typed : IsTrue (is_typed ((state_after setup t).frame f)) → (ends_at t e (FrameOf f) ≡ true)
      ⊎ (IsTrue (is_typed ((state_after setup (e ∷ t)).frame f))
      × (is_translated ((state_after setup (e ∷ t)).frame f) ≡ is_translated ((state_after setup t).frame f)))

entered_frame : (o : Option Call) (s : State) (c f : ℕ) → (state_entered o s c).frame f ≡ s.frame f
entered_frame None s c f = refl
entered_frame (Some call) s c f = refl

returned_frame : (q : Option Reply) (s : State) (c f : ℕ) → (state_returned q s c).frame f ≡ s.frame f
returned_frame None s c f = refl
returned_frame (Some r) s c f = refl

record DecidesTurn (o : Option Reply) (p : Phase) (s : State) (c f : ℕ) : Type 0 where
  node : (i : ℕ) → IsTrue (is_node ((state_decided o p s c).frame f))
      → (ends_in o p (PlaceOf f i) ≡ true) ⊎ ((state_decided o p s c).frame f ≡ s.frame f)
  typed : IsTrue (is_typed (s.frame f)) → (ends_in o p (FrameOf f) ≡ true)
      ⊎ (IsTrue (is_typed ((state_decided o p s c).frame f))
      × (is_translated ((state_decided o p s c).frame f) ≡ is_translated (s.frame f)))

decision_turns : (o : Option Reply) (p : Phase) (s : State) (opened_in : ℕ → Bool) (c f : ℕ)
    → ((call : Call) → p ≡ Open call → IsOpen s opened_in c) → DecidesTurn o p s c f
decision_turns None p s opened_in c f opens_at = record { node = λ i n. inr refl; typed = λ h. inr (h, refl) }
decision_turns (Some r) Out s opened_in c f opens_at = record { node = λ i n. inr refl; typed = λ h. inr (h, refl) }
decision_turns (Some r) (Open call) s opened_in c f opens_at =
    let a : TurnsIn call r f (s.frame f) _ = decided_turns s opened_in c (opens_at call refl) call r f in
    record { node = a.node; typed = a.typed }
decision_turns (Some r) (Decided call q) s opened_in c f opens_at = record { node = λ i n. inr refl; typed = λ h. inr (h, refl) }

step_turns : (setup : Setting) → IsSetting setup → (t : Trace) → IsLegal setup t
    → (e : Step) → MayFollow setup t e → (f : ℕ) → TurnsAt setup t e f
step_turns setup lim t legal e follows f = record {
  node = λ i n. by_node i (a.node i (subst (λ x. IsTrue (is_node x)) after n));
  typed = λ h. by_typed (a.typed (subst (λ x. IsTrue (is_typed x)) (sym before) h));
}
  where
    middle : State
    middle = state_decided e.decides (after_enter e.enters (phase t e.core)) (state_before setup t e) e.core

    a : DecidesTurn e.decides (after_enter e.enters (phase t e.core)) (state_before setup t e) e.core f
    a = decision_turns e.decides (after_enter e.enters (phase t e.core)) (state_before setup t e)
        (opened (entered_events t e)) e.core f (opens setup lim t legal e follows)

    after : (state_after setup (e ∷ t)).frame f ≡ middle.frame f
    after = returned_frame e.returns middle e.core f

    before : (state_before setup t e).frame f ≡ (state_after setup t).frame f
    before = entered_frame e.enters (state_after setup t) e.core f

    by_node : (i : ℕ) → (ends_at t e (PlaceOf f i) ≡ true) ⊎ (middle.frame f ≡ (state_before setup t e).frame f)
        → (ends_at t e (PlaceOf f i) ≡ true) ⊎ ((state_after setup (e ∷ t)).frame f ≡ (state_after setup t).frame f)
    by_node i (inl ends) = inl ends
    by_node i (inr same) = inr (after ∙ same ∙ before)

    by_typed : (ends_at t e (FrameOf f) ≡ true)
        ⊎ (IsTrue (is_typed (middle.frame f)) × (is_translated (middle.frame f) ≡ is_translated ((state_before setup t e).frame f)))
        → (ends_at t e (FrameOf f) ≡ true)
        ⊎ (IsTrue (is_typed ((state_after setup (e ∷ t)).frame f))
        × (is_translated ((state_after setup (e ∷ t)).frame f) ≡ is_translated ((state_after setup t).frame f)))
    by_typed (inl ends) = inl ends
    by_typed (inr is) = inr (subst (λ x. IsTrue (is_typed x)) (sym after) is.0, ap is_translated after ∙ is.1 ∙ ap is_translated before)

module _ (setup : Setting) (lim : IsSetting setup) (t : Trace) (legal : IsLegal setup t) (e : Step) (follows : MayFollow setup t e) where
  -- a grace period that ends at e does not begin there
  no_begin : (x : Thing) → ends_at t e x ≡ true → begins_at setup t e x ≡ false
  no_begin x = by_phase e.decides (after_enter e.enters (phase t e.core)) refl follows.decides
    where
      by_phase : (o : Option Reply) (p : Phase) → after_enter e.enters (phase t e.core) ≡ p → MayDecide setup t e o p → ends_in o p x ≡ true
          → begins_in o p (state_before setup t e) e.core x ≡ false
      by_phase None p at may is = refl
      by_phase (Some r) Out at may is = refl
      by_phase (Some r) (Open call) at may is =
          ends_begins (state_before setup t e) (opened (entered_events t e)) e.core call r x (opens setup lim t legal e follows call at)
          (subst (λ k. MayReply (state_before setup t e) e.core k r) (open_inj may.call call may.is_open) may.permitted) is
      by_phase (Some r) (Decided call q) at may is = refl

  -- the grace period of a frame begins only where it is something
  begins_of : (f : ℕ) → begins_at setup t e (FrameOf f) ≡ true → IsTrue (is_typed ((state_after setup t).frame f))
  begins_of f is = subst (λ x. IsTrue (is_typed x)) (entered_frame e.enters (state_after setup t) e.core f)
      (by_phase e.decides (after_enter e.enters (phase t e.core)) refl is)
    where
      by_phase : (o : Option Reply) (p : Phase) → after_enter e.enters (phase t e.core) ≡ p
          → begins_in o p (state_before setup t e) e.core (FrameOf f) ≡ true
          → IsTrue (is_typed ((state_before setup t e).frame f))
      by_phase None p at is = absurd (false≢true is)
      by_phase (Some r) Out at is = absurd (false≢true is)
      by_phase (Some r) (Open call) at is =
          begins_typed (state_before setup t e) (opened (entered_events t e)) e.core (opens setup lim t legal e follows call at) call r f is
      by_phase (Some r) (Decided call q) at is = absurd (false≢true is)

  awaits_step : (f : ℕ) → AwaitsAre setup t f → AwaitsAre setup (e ∷ t) f
  awaits_step f old = record {
    place = λ i n some. elim (turns.node i n) [
      | inl ends ↦ (let s = stamp-ends setup e t (PlaceOf f i) (no_begin (PlaceOf f i) ends) ends in absurd (omega (arith, s, some)))
      | inr same ↦ place i (subst (λ x. IsTrue (is_node x)) same n) same some
    ];
    typed = λ some. (frame some).0;
    frame = λ some. (frame some).1;
  }
    where
      turns : TurnsAt setup t e f
      turns = step_turns setup lim t legal e follows f

      met : (state_before setup t e).frame f ≡ (state_after setup t).frame f
      met = entered_frame e.enters (state_after setup t) e.core f

      place : (i : ℕ) → IsTrue (is_node ((state_after setup t).frame f))
          → (state_after setup (e ∷ t)).frame f ≡ (state_after setup t).frame f → 0 < stamp setup (e ∷ t) (PlaceOf f i)
          → awaits_flushes setup (e ∷ t) (PlaceOf f i) ≡ is_paging ((state_after setup (e ∷ t)).frame f)
      place i n same some = elim (cases_bool (begins_at setup t e (PlaceOf f i))) [
        | inl is ↦ awaits-begins setup e t (PlaceOf f i) is ∙ ap is_paging met ∙ sym (ap is_paging same)
        | inr not ↦ elim (cases_bool (ends_at t e (PlaceOf f i))) [
          | inl ends ↦ (let s = stamp-ends setup e t (PlaceOf f i) not ends in absurd (omega (arith, s, some)))
          | inr kept ↦ awaits-kept setup e t (PlaceOf f i) not kept
              ∙ old.place i n (let s = stamp-kept setup e t (PlaceOf f i) not kept in omega (arith, s, some)) ∙ sym (ap is_paging same)
        ]
      ]

      Goal : Type 0
      Goal = IsTrue (is_typed ((state_after setup (e ∷ t)).frame f))
          × (awaits_flushes setup (e ∷ t) (FrameOf f) ≡ is_translated ((state_after setup (e ∷ t)).frame f))

      with_turn : 0 < stamp setup (e ∷ t) (FrameOf f) → IsTrue (is_typed ((state_after setup t).frame f))
          → awaits_flushes setup (e ∷ t) (FrameOf f) ≡ is_translated ((state_after setup t).frame f) → Goal
      with_turn some typed is = elim (turns.typed typed) [
        | inl ends ↦ (let s = stamp-ends setup e t (FrameOf f) (no_begin (FrameOf f) ends) ends in absurd (omega (arith, s, some)))
        | inr now ↦ (now.0, is ∙ sym now.1)
      ]

      frame : 0 < stamp setup (e ∷ t) (FrameOf f) → Goal
      frame some = elim (cases_bool (begins_at setup t e (FrameOf f))) [
        | inl is ↦ with_turn some (begins_of f is) (awaits-begins setup e t (FrameOf f) is ∙ ap is_translated met)
        | inr not ↦ elim (cases_bool (ends_at t e (FrameOf f))) [
          | inl ends ↦ (let s = stamp-ends setup e t (FrameOf f) not ends in absurd (omega (arith, s, some)))
          | inr kept ↦
              (let s = stamp-kept setup e t (FrameOf f) not kept in
              let before : 0 < stamp setup t (FrameOf f) = omega (arith, s, some) in
              with_turn some (old.typed before) (awaits-kept setup e t (FrameOf f) not kept ∙ old.frame before))
        ]
      ]

-- In each legal trace.
pub awaits_are : (setup : Setting) → IsSetting setup → (t : Trace) → IsLegal setup t → (f : ℕ) → AwaitsAre setup t f
awaits_are setup lim [] legal f = record {
  place = λ i n some. absurd (omega (arith, some));
  typed = λ some. absurd (omega (arith, some));
  frame = λ some. absurd (omega (arith, some));
}
awaits_are setup lim (e ∷ t) legal f = awaits_step setup lim t legal.0 e legal.1 f (awaits_are setup lim t legal.0 f)
