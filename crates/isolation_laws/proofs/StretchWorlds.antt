-- Worlds over stretches of steps: what each event of a run keeps, or is a call that is carried out by such a core, holds after each
-- stretch, or such a call was carried out in it.
use Rattle.kernel_history.proofs.{◌≡◌, ◌⊎◌, inl, inr, ℕ, Bool, true, refl, sym, ◌∙◌, ap, subst, List, [], ◌∷◌, ◌++◌, Option, Some, None}
use Rattle.kernel_history.proofs.{Setting, IsSetting, Kind, Call, Value, Reply, State, Event, Enters, Decides, Returns, after, IsRun, Step}
use Rattle.kernel_history.proofs.{Phase, Out, Decided, phase, after_enter, state_after, state_before, with_entry, with_decision}
use Rattle.kernel_history.proofs.{with_return, events_of, IsLegal, entered_events, decided_events, state_is, before_is, entered_run}
use Rattle.world_laws.specs.{works_in, lives_at, gates, OnlyGates, IsSealed, AreApart, ticks_in, RunsAcross}
use Rattle.world_laws.proofs.{Stretches.opened_from_inside, Stretches.dies_by_its_own, Stretches.apart_for_good, Timing.time_of_worlds}
use Rattle.{kernel_history.proofs.decided_run, kernel_history.proofs.run_of, isolation_laws.specs.CarriedOutBy}
use Rattle.{isolation_laws.specs.WorksInside, kernel_history.specs.Trace.Trace, kernel_history.specs.Trace.Open}
use Rattle.{kernel_history.proofs.Events.step_run, world_laws.specs.Laws.ActsInside, world_laws.specs.Time.ActsAcross}
use Rattle.{isolation_laws.specs.Carried.CarriesOut, isolation_laws.specs.Worlds.StretchesKeepWorlds}

-- The event is a call that is carried out, of a core of which this was so before it.
pub record ActsNow (setup : Setting) (P : State → ℕ → Type 0) (earlier : List Event) (event : Event) : Type 0 where
  pub core : ℕ
  pub call : Call
  pub value : Value
  pub is : event ≡ Decides core call (Reply.Ok value)
  pub holds : P (after setup earlier) core

no_entry : (c d : ℕ) (j k : Call) (r : Reply) → Enters c j ≡ Decides d k r → ⊥
no_entry c d j k r q = cc

no_return : (c d : ℕ) (k : Call) (r : Reply) → Returns c ≡ Decides d k r → ⊥
no_return c d k r q = cc

same_core : (c d : ℕ) (j k : Call) (r q : Reply) → Decides c j r ≡ Decides d k q → d ≡ c
same_core c d j k r q e = cc

same_reply : (c d : ℕ) (j k : Call) (r q : Reply) → Decides c j r ≡ Decides d k q → r ≡ q
same_reply c d j k r q e = cc

-- A step that decides so carries its call out.
record DecidedNow (P : State → ℕ → Type 0) (o : Option Reply) (p : Phase) (s : State) (c : ℕ) : Type 0 where
  call : Call
  value : Value
  is_open : p ≡ Open call
  decides : o ≡ Some (Reply.Ok value)
  holds : P s c

-- So does the step e, made after t.
record ActsAt (P : State → ℕ → Type 0) (setup : Setting) (t : Trace) (e : Step) : Type 0 where
  done : CarriesOut t e
  holds : P (state_before setup t e) e.core

module _ (setup : Setting) (P : State → ℕ → Type 0) (S : State → Type 0)
    (next : (earlier : List Event) (event : Event) → IsRun setup (event ∷ earlier) → S (after setup earlier)
    → S (after setup (event ∷ earlier)) ⊎ ActsNow setup P earlier event) where
  entry : (o : Option Call) (c : ℕ) (events : List Event) → IsRun setup (with_entry o c events) → S (after setup events)
      → S (after setup (with_entry o c events))
  entry None c events run s = s
  entry (Some call) c events run s = elim (next events (Enters c call) run s) [
    | inl h ↦ h
    | inr acts ↦ absurd (no_entry c acts.core call acts.call (Reply.Ok acts.value) acts.is)
  ]

  leave : (o : Option Reply) (c : ℕ) (events : List Event) → IsRun setup (with_return o c events) → S (after setup events)
      → S (after setup (with_return o c events))
  leave None c events run s = s
  leave (Some r) c events run s = elim (next events (Returns c) run s) [
    | inl h ↦ h
    | inr acts ↦ absurd (no_return c acts.core acts.call (Reply.Ok acts.value) acts.is)
  ]

  decision : (o : Option Reply) (p : Phase) (c : ℕ) (events : List Event) → IsRun setup (with_decision o p c events)
      → S (after setup events) → S (after setup (with_decision o p c events)) ⊎ DecidedNow P o p (after setup events) c
  decision None p c events run s = inl s
  decision (Some r) Out c events run s = inl s
  decision (Some r) (Decided call q) c events run s = inl s
  decision (Some r) (Open call) c events run s = elim (next events (Decides c call r) run s) [
    | inl h ↦ inl h
    | inr acts ↦ inr (record {
      call = call;
      value = acts.value;
      is_open = refl;
      decides = ap (λ (x : Reply). Some x) (same_reply c acts.core call acts.call r (Reply.Ok acts.value) acts.is);
      holds = subst (P (after setup events)) (same_core c acts.core call acts.call r (Reply.Ok acts.value) acts.is) acts.holds;
    })
  ]

  step : (t : Trace) (e : Step) → IsLegal setup (e ∷ t) → S (state_after setup t) → S (state_after setup (e ∷ t)) ⊎ ActsAt P setup t e
  step t e legal s =
      let run = run_of setup t legal.0 in
      let entered = entry e.enters e.core (events_of t) (entered_run setup t e legal.0 legal.1 run) (subst S (state_is setup t) s) in
      elim (decision e.decides (after_enter e.enters (phase t e.core)) e.core (entered_events t e)
      (decided_run setup t e legal.0 legal.1 run) entered) [
        | inl h ↦ inl (subst S (sym (state_is setup (e ∷ t)))
            (leave e.returns e.core (decided_events t e) (step_run setup t e legal.0 legal.1 run) h))
        | inr acts ↦ inr (record {
          done = record { call = acts.call; value = acts.value; is_open = acts.is_open; decides = acts.decides };
          holds = subst (λ s. P s e.core) (sym (before_is setup t e)) acts.holds;
        })
      ]

  stretch : (u t : Trace) → IsLegal setup (u ++ t) → S (state_after setup t) → S (state_after setup (u ++ t)) ⊎ CarriedOutBy P setup u t
  stretch [] t legal s = inl s
  stretch (e ∷ u) t legal s = elim (stretch u t legal.0 s) [
    | inr acts ↦ inr (record {
      more = e ∷ acts.more;
      step = acts.step;
      since = acts.since;
      is_part = ap (λ (xs : Trace). e ∷ xs) acts.is_part;
      done = acts.done;
      holds = acts.holds;
    })
    | inl h ↦ elim (step (u ++ t) e legal h) [
      | inl later ↦ inl later
      | inr acts ↦ inr (record { more = []; step = e; since = u; is_part = refl; done = acts.done; holds = acts.holds })
    ]
  ]

-- ---- what each event keeps

-- A list of one event, and a part of it that begins with one.
record IsSingle (event first : Event) (since : List Event) : Type 0 where
  is : event ≡ first
  none : since ≡ []

single : (more : List Event) (event first : Event) (since : List Event) → event ∷ [] ≡ more ++ (first ∷ since) → IsSingle event first since
single [] event first since e = record { is = head e; none = tail e }
  where
    head : event ∷ [] ≡ first ∷ since → event ≡ first
    head q = cc

    tail : event ∷ [] ≡ first ∷ since → since ≡ []
    tail q = cc
single (x ∷ more) event first since e = absurd (not_empty more (tail e))
  where
    tail : event ∷ [] ≡ x ∷ (more ++ (first ∷ since)) → [] ≡ more ++ (first ∷ since)
    tail q = cc

    not_empty : (more : List Event) → [] ≡ more ++ (first ∷ since) → ⊥
    not_empty [] q = cc
    not_empty (y ∷ ys) q = cc

module _ (setup : Setting) (w : ℕ → Bool) (earlier : List Event) (event : Event) where
  inside_now : ActsInside setup w earlier (event ∷ []) → ActsNow setup (WorksInside w) earlier event
  inside_now acts =
      let one = single acts.more event (Decides acts.core acts.call (Reply.Ok acts.value)) acts.since acts.is_part in
      record {
        core = acts.core;
        call = acts.call;
        value = acts.value;
        is = one.is;
        holds = subst (λ es. w (works_in (after setup (es ++ earlier)) acts.core) ≡ true) one.none acts.inside;
      }

  across_now : ActsAcross setup w earlier (event ∷ []) → ActsNow setup (RunsAcross w) earlier event
  across_now acts =
      let one = single acts.more event (Decides acts.core acts.call (Reply.Ok acts.value)) acts.since acts.is_part in
      record {
        core = acts.core;
        call = acts.call;
        value = acts.value;
        is = one.is;
        holds = subst (λ es. RunsAcross w (after setup (es ++ earlier)) acts.core) one.none acts.across;
      }

-- No core.
abbrev None_of : State → ℕ → Type 0
None_of s c = ⊥

module _ (setup : Setting) (lim : IsSetting setup) (w : ℕ → Bool) (crosses : Kind → Bool) (only : OnlyGates crosses) (u t : Trace)
    (legal : IsLegal setup (u ++ t)) where
  stays_sealed : IsSealed w crosses (state_after setup t)
      → IsSealed w crosses (state_after setup (u ++ t)) ⊎ CarriedOutBy (WorksInside w) setup u t
  stays_sealed = stretch setup (WorksInside w) (IsSealed w crosses) next u t legal
    where
      next : (earlier : List Event) (event : Event) → IsRun setup (event ∷ earlier) → IsSealed w crosses (after setup earlier)
          → IsSealed w crosses (after setup (event ∷ earlier)) ⊎ ActsNow setup (WorksInside w) earlier event
      next earlier event run sealed = elim (opened_from_inside setup lim earlier (event ∷ []) run w crosses only sealed) [
        | inl h ↦ inl h
        | inr acts ↦ inr (inside_now setup w earlier event acts)
      ]

  apart_next : (earlier : List Event) (event : Event) → IsRun setup (event ∷ earlier) → AreApart w crosses (after setup earlier)
      → AreApart w crosses (after setup (event ∷ earlier))
  apart_next earlier event run apart = apart_for_good setup lim earlier (event ∷ []) run w crosses only apart

  stays_apart : AreApart w crosses (state_after setup t) → AreApart w crosses (state_after setup (u ++ t))
  stays_apart apart = elim (stretch setup None_of (AreApart w crosses) (λ earlier event run h. inl (apart_next earlier event run h))
      u t legal apart) [
        | inl h ↦ h
        | inr acts ↦ absurd acts.holds
      ]

  -- worlds that are apart, one of which has as many ticks
  abbrev HasTicks : ℕ → State → Type 0
  HasTicks n s = AreApart w crosses s × (ticks_in w s ≡ n)

  keeps_ticks : AreApart w crosses (state_after setup t)
      → (ticks_in w (state_after setup (u ++ t)) ≡ ticks_in w (state_after setup t)) ⊎ CarriedOutBy (RunsAcross w) setup u t
  keeps_ticks apart = elim (stretch setup (RunsAcross w) (HasTicks (ticks_in w (state_after setup t))) next u t legal (apart, refl)) [
    | inl h ↦ inl h.1
    | inr acts ↦ inr acts
  ]
    where
      next : (earlier : List Event) (event : Event) → IsRun setup (event ∷ earlier)
          → HasTicks (ticks_in w (state_after setup t)) (after setup earlier)
          → HasTicks (ticks_in w (state_after setup t)) (after setup (event ∷ earlier)) ⊎ ActsNow setup (RunsAcross w) earlier event
      next earlier event run h = elim (time_of_worlds setup lim earlier (event ∷ []) run w crosses only h.0) [
        | inl same ↦ inl (apart_next earlier event run h.0, same ∙ h.1)
        | inr acts ↦ inr (across_now setup w earlier event acts)
      ]

module _ (setup : Setting) (lim : IsSetting setup) (w : ℕ → Bool) (u t : Trace) (legal : IsLegal setup (u ++ t)) (f : ℕ)
    (of : w f ≡ true) where
  -- a sealed world, with a component that lives
  abbrev HasLiving : State → Type 0
  HasLiving s = IsSealed w gates s × (lives_at s f ≡ true)

  stays_living : IsSealed w gates (state_after setup t) → lives_at (state_after setup t) f ≡ true
      → (lives_at (state_after setup (u ++ t)) f ≡ true) ⊎ CarriedOutBy (WorksInside w) setup u t
  stays_living sealed lives = elim (stretch setup (WorksInside w) HasLiving next u t legal (sealed, lives)) [
    | inl h ↦ inl h.1
    | inr acts ↦ inr acts
  ]
    where
      next : (earlier : List Event) (event : Event) → IsRun setup (event ∷ earlier) → HasLiving (after setup earlier)
          → HasLiving (after setup (event ∷ earlier)) ⊎ ActsNow setup (WorksInside w) earlier event
      next earlier event run h = elim (opened_from_inside setup lim earlier (event ∷ []) run w gates (λ k e. e) h.0) [
        | inr acts ↦ inr (inside_now setup w earlier event acts)
        | inl sealed ↦ elim (dies_by_its_own setup lim earlier (event ∷ []) run w h.0 f of h.1) [
          | inl lives ↦ inl (sealed, lives)
          | inr acts ↦ inr (inside_now setup w earlier event acts)
        ]
      ]

pub stretches_keep_worlds : StretchesKeepWorlds
stretches_keep_worlds setup lim u t legal = record {
  sealed = λ w crosses only sealed. stays_sealed setup lim w crosses only u t legal sealed;
  living = λ w sealed f of lives. stays_living setup lim w u t legal f of sealed lives;
  apart = λ w crosses only apart. stays_apart setup lim w crosses only u t legal apart;
  ticks = λ w crosses only apart. keeps_ticks setup lim w crosses only u t legal apart;
}
