-- What a core in an open call has found and relies on stays through the steps of other cores, and through its own that decide
-- nothing.
use Rattle.boot_words.specs.kernel_history.proofs as low
use low.{◌≡◌, ◌≢◌, ℕ, ◌<◌, true, IsTrue, List, [], ◌∷◌, Option, Some, None, refl, sym, ◌∙◌, ap, subst, Setting, IsSetting, Capability, Call}
use low.{Reply, Core, State, comp_of, comp_in, thread_in, first_of_stack, named_by, Slot, Named, Under, usable, reached, IsGood, Event}
use low.{Enters, Decides, Returns, after, phase_of, IsRun, put_same, IsGuarded, Relies, Step, Phase, Out, Decided, phase, after_enter}
use low.{state_after, state_entered, state_decided, state_returned, is_in, MayFollow, IsLegal, with_entry, with_decision, with_return}
use low.{events_of, plain_phase, entered_events, decided_events, entry_apart, state_is, phase_is, run_of, entered_run, decided_run}
use Rattle.found_stays.proofs.{OwnStay, names_node, usable_guarded, table_relies, pages_relies}
use Rattle.found_stays.specs.kernel_invariant.proofs.{IsSound, opened, runs_sound, usable_good}
use Rattle.found_stays.proofs.Stays.{Stay, StayIn, stay_in_same, stay_in_then, event_own, event_stay_in, stay_same, stay_then, event_stay}
use Rattle.{found_stays.specs.kernel_rules.specs.entered, found_stays.specs.kernel_rules.specs.is_open}
use Rattle.{found_stays.proofs.SparesRuns.inside_of, found_stays.proofs.Stays.usable_relies, found_stays.proofs.Stays.reached_relies}
use Rattle.{boot_words.specs.kernel_history.specs.Trace.Trace, boot_words.specs.kernel_history.specs.Trace.Open}
use low.{Events.decision_apart, Events.step_run}
use Rattle.boot_words.specs.kernel_rules.specs.Runs as plain

-- Core c has and relies on after e what it had and relied on before. Its parts: `core`, `thread` and `comp` (its own fields, its
-- thread and the component in which it works), `guarded` and `frame` (frames that no other core may retype), `relies` (nodes),
-- `usable` and `reached` (what it may use in a node on which it relies, and what it reaches under such a root), and `named`.
abbrev pub Stays : Setting → Trace → Step → ℕ → Type 0
Stays setup t e c = Stay (state_after setup t) (state_after setup (e ∷ t)) c

-- Core c, in an open call, relies on a node.
abbrev pub ReliesOn : Setting → Trace → ℕ → ℕ → Type 0
ReliesOn setup t c f = Relies (state_after setup t) c f

-- The state after a legal trace is sound.
pub sound_of : (setup : Setting) → IsSetting setup → (t : Trace) → IsLegal setup t → IsSound (state_after setup t) (opened (events_of t))
sound_of setup lim t legal =
    subst (λ s. IsSound s (opened (events_of t))) (sym (state_is setup t)) (runs_sound setup lim (events_of t) (run_of setup t legal))

pub opened_is : (t : Trace) (c : ℕ) (call : Call) → phase t c ≡ Open call → opened (events_of t) c ≡ true
opened_is t c call is = ap is_open (phase_is t c ∙ ap plain_phase is)

-- What core c, in an open call, may rely on.
module _ (setup : Setting) (lim : IsSetting setup) (t : Trace)
    (legal : IsLegal setup t) (c : ℕ) (call : Call) (is : phase t c ≡ Open call) where
  sound : IsSound (state_after setup t) (opened (events_of t))
  sound = sound_of setup lim t legal

  inside : opened (events_of t) c ≡ true
  inside = opened_is t c call is

  -- it may use a capability: this is good, and its frame is guarded; if it names a node, the core relies on it
  pub good_usable : (at : Slot) (k : Capability) → usable (state_after setup t) c at ≡ Some k → IsGood (state_after setup t) k
  good_usable at k = usable_good (state_after setup t) (opened (events_of t)) c at k sound inside

  pub guarded_usable : (at : Slot) (k : Capability) → named_by k.kind k.frame ≡ k.frame ∷ [] → usable (state_after setup t) c at ≡ Some k
      → IsGuarded (state_after setup t) c k.frame
  guarded_usable = usable_guarded (state_after setup t) (opened (events_of t)) c sound inside

  pub relies_usable : (at : Slot) (k : Capability) → IsTrue (names_node k.kind)
      → usable (state_after setup t) c at ≡ Some k → ReliesOn setup t c k.frame
  relies_usable = usable_relies (state_after setup t) (opened (events_of t)) c sound inside

  -- its own component, and the table and the pages of this
  pub relies_table : ReliesOn setup t c (comp_of (state_after setup t) c).table
  relies_table = table_relies (state_after setup t) (opened (events_of t)) c sound inside

  pub relies_pages : ReliesOn setup t c (comp_of (state_after setup t) c).pages
  relies_pages = pages_relies (state_after setup t) (opened (events_of t)) c sound inside

  -- the leaf in which it reaches a slot
  pub relies_reached : (table : Named) (n : ℕ) (at : Slot)
      → reached (state_after setup t) c (Under table n) ≡ Some at → ReliesOn setup t c at.node
  relies_reached = reached_relies (state_after setup t) (opened (events_of t)) c sound inside

-- Through the events of one step.
module _ (setup : Setting) (lim : IsSetting setup) (d c : ℕ) (other : c ≢ d) where
  entry_stay : (o : Option Call) (events : List Event) → IsRun setup (with_entry o d events) → IsTrue (is_open (phase_of events c))
      → Stay (after setup events) (after setup (with_entry o d events)) c
  entry_stay None events run is = stay_same (after setup events) c
  entry_stay (Some call) events run is = event_stay setup lim (Enters d call) events run c other is

  decision_stay : (o : Option Reply) (p : Phase) (events : List Event)
      → IsRun setup (with_decision o p d events) → IsTrue (is_open (phase_of events c))
      → Stay (after setup events) (after setup (with_decision o p d events)) c
  decision_stay None p events run is = stay_same (after setup events) c
  decision_stay (Some r) Out events run is = stay_same (after setup events) c
  decision_stay (Some r) (Open call) events run is = event_stay setup lim (Decides d call r) events run c other is
  decision_stay (Some r) (Decided call q) events run is = stay_same (after setup events) c

  return_stay : (o : Option Reply) (events : List Event) → IsRun setup (with_return o d events) → IsTrue (is_open (phase_of events c))
      → Stay (after setup events) (after setup (with_return o d events)) c
  return_stay None events run is = stay_same (after setup events) c
  return_stay (Some r) events run is = event_stay setup lim (Returns d) events run c other is

-- Through a step of another core.
pub stays_other : (setup : Setting) → IsSetting setup → (t : Trace) → IsLegal setup t → (e : Step) → MayFollow setup t e
    → (c : ℕ) → c ≢ e.core → (call : Call) → phase t c ≡ Open call → Stays setup t e c
stays_other setup lim t legal e follows c other call is =
    subst (λ s. Stay s (state_after setup (e ∷ t)) c) (sym (state_is setup t))
    (subst (λ s. Stay (after setup (events_of t)) s c) (sym (state_is setup (e ∷ t)))
    (stay_then (after setup (events_of t)) (after setup (entered_events t e)) (after setup (events_of (e ∷ t))) c
    (entry_stay setup lim e.core c other e.enters (events_of t) (entered_run setup t e legal follows run) opened_at)
    (stay_then (after setup (entered_events t e)) (after setup (decided_events t e)) (after setup (events_of (e ∷ t))) c
    (decision_stay setup lim e.core c other e.decides (after_enter e.enters (phase t e.core))
    (entered_events t e) (decided_run setup t e legal follows run)
    (ap is_open (entry_apart e.enters e.core (events_of t) c other) ∙ opened_at))
    (return_stay setup lim e.core c other e.returns (decided_events t e) (step_run setup t e legal follows run)
    (ap is_open (decision_apart e.decides (after_enter e.enters (phase t e.core)) e.core
    (entered_events t e) c other ∙ entry_apart e.enters e.core (events_of t) c other) ∙ opened_at)))))
  where
    run : IsRun setup (events_of t)
    run = run_of setup t legal

    opened_at : IsTrue (is_open (phase_of (events_of t) c))
    opened_at = ap is_open (phase_is t c ∙ ap plain_phase is)

-- And so does what a core in a call, also a decided one, relies on.
module _ (setup : Setting) (lim : IsSetting setup) (d c : ℕ) (other : c ≢ d) where
  entry_in : (o : Option Call) (events : List Event) → IsRun setup (with_entry o d events) → inside_of events c ≡ true
      → StayIn (after setup events) (after setup (with_entry o d events)) c
  entry_in None events run is = stay_in_same (after setup events) c
  entry_in (Some call) events run is = event_stay_in setup lim (Enters d call) events run c other is

  decision_in : (o : Option Reply) (p : Phase) (events : List Event) → IsRun setup (with_decision o p d events) → inside_of events c ≡ true
      → StayIn (after setup events) (after setup (with_decision o p d events)) c
  decision_in None p events run is = stay_in_same (after setup events) c
  decision_in (Some r) Out events run is = stay_in_same (after setup events) c
  decision_in (Some r) (Open call) events run is = event_stay_in setup lim (Decides d call r) events run c other is
  decision_in (Some r) (Decided call q) events run is = stay_in_same (after setup events) c

  return_in : (o : Option Reply) (events : List Event) → IsRun setup (with_return o d events) → inside_of events c ≡ true
      → StayIn (after setup events) (after setup (with_return o d events)) c
  return_in None events run is = stay_in_same (after setup events) c
  return_in (Some r) events run is = event_stay_in setup lim (Returns d) events run c other is

plain_in : (p : Phase) → plain.is_in (plain_phase p) ≡ is_in p
plain_in Out = refl
plain_in (Open call) = refl
plain_in (Decided call r) = refl

pub stays_in_other : (setup : Setting) → IsSetting setup → (t : Trace) → IsLegal setup t → (e : Step) → MayFollow setup t e
    → (c : ℕ) → c ≢ e.core → is_in (phase t c) ≡ true → StayIn (state_after setup t) (state_after setup (e ∷ t)) c
stays_in_other setup lim t legal e follows c other is =
    subst (λ s. StayIn s (state_after setup (e ∷ t)) c) (sym (state_is setup t))
    (subst (λ s. StayIn (after setup (events_of t)) s c) (sym (state_is setup (e ∷ t)))
    (stay_in_then (after setup (events_of t)) (after setup (entered_events t e)) (after setup (events_of (e ∷ t))) c
    (entry_in setup lim e.core c other e.enters (events_of t) (entered_run setup t e legal follows run) inside_at)
    (stay_in_then (after setup (entered_events t e)) (after setup (decided_events t e)) (after setup (events_of (e ∷ t))) c
    (decision_in setup lim e.core c other e.decides (after_enter e.enters (phase t e.core))
    (entered_events t e) (decided_run setup t e legal follows run)
    (ap plain.is_in (entry_apart e.enters e.core (events_of t) c other) ∙ inside_at))
    (return_in setup lim e.core c other e.returns (decided_events t e) (step_run setup t e legal follows run)
    (ap plain.is_in (decision_apart e.decides (after_enter e.enters (phase t e.core)) e.core
    (entered_events t e) c other ∙ entry_apart e.enters e.core (events_of t) c other) ∙ inside_at)))))
  where
    run : IsRun setup (events_of t)
    run = run_of setup t legal

    inside_at : inside_of (events_of t) c ≡ true
    inside_at = ap plain.is_in (phase_is t c) ∙ plain_in (phase t c) ∙ is

-- What is a core's own stays through a step of another core, whether it is in a call or not.
module _ (setup : Setting) (lim : IsSetting setup) (d c : ℕ) (core : c < setup.cores) (other : c ≢ d) where
  own_same : (s : State) → OwnStay s s c
  own_same s = record { core = refl; thread = refl; comp = refl }

  entry_own : (o : Option Call) (events : List Event) → IsRun setup (with_entry o d events)
      → OwnStay (after setup events) (after setup (with_entry o d events)) c
  entry_own None events run = own_same (after setup events)
  entry_own (Some call) events run = event_own setup lim (Enters d call) events run c core other

  decision_own : (o : Option Reply) (p : Phase) (events : List Event) → IsRun setup (with_decision o p d events)
      → OwnStay (after setup events) (after setup (with_decision o p d events)) c
  decision_own None p events run = own_same (after setup events)
  decision_own (Some r) Out events run = own_same (after setup events)
  decision_own (Some r) (Open call) events run = event_own setup lim (Decides d call r) events run c core other
  decision_own (Some r) (Decided call q) events run = own_same (after setup events)

  return_own : (o : Option Reply) (events : List Event) → IsRun setup (with_return o d events)
      → OwnStay (after setup events) (after setup (with_return o d events)) c
  return_own None events run = own_same (after setup events)
  return_own (Some r) events run = event_own setup lim (Returns d) events run c core other

pub own_stays_other : (setup : Setting) → IsSetting setup → (t : Trace) → IsLegal setup t → (e : Step) → MayFollow setup t e
    → (c : ℕ) → c < setup.cores → c ≢ e.core → OwnStay (state_after setup t) (state_after setup (e ∷ t)) c
own_stays_other setup lim t legal e follows c core other =
    subst (λ s. OwnStay s (state_after setup (e ∷ t)) c) (sym (state_is setup t))
    (subst (λ s. OwnStay (after setup (events_of t)) s c) (sym (state_is setup (e ∷ t)))
    (record { core = c2.core ∙ b.core ∙ a.core; thread = c2.thread ∙ b.thread ∙ a.thread; comp = c2.comp ∙ b.comp ∙ a.comp }))
  where
    run : IsRun setup (events_of t)
    run = run_of setup t legal

    a : OwnStay (after setup (events_of t)) (after setup (entered_events t e)) c
    a = entry_own setup lim e.core c core other e.enters (events_of t) (entered_run setup t e legal follows run)

    b : OwnStay (after setup (entered_events t e)) (after setup (decided_events t e)) c
    b = decision_own setup lim e.core c core other e.decides (after_enter e.enters (phase t e.core))
        (entered_events t e) (decided_run setup t e legal follows run)

    c2 : OwnStay (after setup (decided_events t e)) (after setup (events_of (e ∷ t))) c
    c2 = return_own setup lim e.core c core other e.returns (decided_events t e) (step_run setup t e legal follows run)

-- An own step without event leaves the state.
pub state_plain : (setup : Setting) (t : Trace) (e : Step) → e.enters ≡ None
    → e.decides ≡ None → e.returns ≡ None → state_after setup (e ∷ t) ≡ state_after setup t
state_plain setup t e no_entry no_decision no_return =
    ap (λ q. state_returned q (state_decided e.decides (after_enter e.enters (phase t e.core))
    (state_entered e.enters (state_after setup t) e.core) e.core) e.core) no_return
    ∙ ap (λ o. state_decided o (after_enter e.enters (phase t e.core))
    (state_entered e.enters (state_after setup t) e.core) e.core) no_decision
    ∙ ap (λ o. state_entered o (state_after setup t) e.core) no_entry

pub stays_plain : (setup : Setting) (t : Trace) (e : Step) (c : ℕ)
    → e.enters ≡ None → e.decides ≡ None → e.returns ≡ None → Stays setup t e c
stays_plain setup t e c no_entry no_decision no_return =
    subst (λ s. Stay (state_after setup t) s c)
    (sym (state_plain setup t e no_entry no_decision no_return)) (stay_same (state_after setup t) c)

-- A step that enters, and does no more, leaves the state with its core inside.
pub state_entry : (setup : Setting) (t : Trace) (e : Step) (call : Call) → e.enters ≡ Some call → e.decides ≡ None → e.returns ≡ None
    → state_after setup (e ∷ t) ≡ entered (state_after setup t) e.core
state_entry setup t e call entry no_decision no_return =
    ap (λ q. state_returned q (state_decided e.decides (after_enter e.enters (phase t e.core))
    (state_entered e.enters (state_after setup t) e.core) e.core) e.core) no_return
    ∙ ap (λ o. state_decided o (after_enter e.enters (phase t e.core))
    (state_entered e.enters (state_after setup t) e.core) e.core) no_decision
    ∙ ap (λ o. state_entered o (state_after setup t) e.core) entry

-- An entry leaves the component in which its core works.
pub entered_comp : (s : State) (c : ℕ) → comp_of (entered s c) c ≡ comp_of s c
entered_comp s c = ap (λ (k : Core). comp_in (s.frame (first_of_stack (thread_in (s.frame k.thread)).stack))) (put_same s.core c _ c refl)
