-- A legal trace is a run of its events, and leaves what they leave.
use Rattle.kernel_history.specs.{◌≡◌, ◌≢◌, ℕ, ◌<◌, cond, List, [], ◌∷◌, Option, Some, None, refl, Call, Reply, Setting, State, MayReply}
use Rattle.kernel_history.specs.{Event, Enters, Decides, Returns, after, phase_of, IsRun, Step, Phase, Out, Decided, phase, after_enter}
use Rattle.kernel_history.specs.{after_decide, after_return, state_after, state_entered, state_decided, state_returned, state_before}
use Rattle.kernel_history.specs.{with_entry, with_decision, with_return, events_of, plain_phase, MayEnter, MayDecide, MayReturn, MayFollow}
use Rattle.kernel_rules.proofs.{inl, inr, sym, ◌∙◌, ap, subst, eq-eqb, ne_eqb, is_decided, core_of, phase_by}
use Rattle.{kernel_history.specs.IsLegal, std.proofs.lemmas.Bool.cases_eq, kernel_history.specs.Trace.Trace}
use Rattle.{kernel_history.specs.Trace.Open, kernel_history.proofs.Steps.phase-own, kernel_history.proofs.Steps.phase-other}

-- the state

entry_state : (setup : Setting) (o : Option Call) (c : ℕ) (events : List Event) (s : State) → s ≡ after setup events
    → state_entered o s c ≡ after setup (with_entry o c events)
entry_state setup None c events s is = is
entry_state setup (Some call) c events s is = ap (λ s. state_entered (Some call) s c) is

decision_state : (setup : Setting) (o : Option Reply) (p : Phase) (c : ℕ) (events : List Event) (s : State) → s ≡ after setup events
    → state_decided o p s c ≡ after setup (with_decision o p c events)
decision_state setup None p c events s is = is
decision_state setup (Some r) Out c events s is = is
decision_state setup (Some r) (Open call) c events s is = ap (λ s. state_decided (Some r) (Open call) s c) is
decision_state setup (Some r) (Decided call q) c events s is = is

return_state : (setup : Setting) (o : Option Reply) (c : ℕ) (events : List Event) (s : State) → s ≡ after setup events
    → state_returned o s c ≡ after setup (with_return o c events)
return_state setup None c events s is = is
return_state setup (Some r) c events s is = ap (λ s. state_returned (Some r) s c) is

-- The events of the steps before e, and e's own but its response; those but its decision.
abbrev pub entered_events : Trace → Step → List Event
entered_events t e = with_entry e.enters e.core (events_of t)

abbrev pub decided_events : Trace → Step → List Event
decided_events t e = with_decision e.decides (after_enter e.enters (phase t e.core)) e.core (entered_events t e)

-- A trace leaves the state that its events leave.
pub state_is : (setup : Setting) (t : Trace) → state_after setup t ≡ after setup (events_of t)
state_is setup [] = refl
state_is setup (e ∷ t) =
    return_state setup e.returns e.core (decided_events t e) _
    (decision_state setup e.decides (after_enter e.enters (phase t e.core)) e.core (entered_events t e) _
    (entry_state setup e.enters e.core (events_of t) (state_after setup t) (state_is setup t)))

pub before_is : (setup : Setting) (t : Trace) (e : Step) → state_before setup t e ≡ after setup (entered_events t e)
before_is setup t e = entry_state setup e.enters e.core (events_of t) (state_after setup t) (state_is setup t)

-- the phase

same_phase : (event : Event) (events : List Event) (c : ℕ) → c ≡ core_of event → phase_of (event ∷ events) c ≡ phase_by event
same_phase event events c own = ap (λ b. cond b (phase_by event) (phase_of events c)) (eq-eqb c (core_of event) own)

apart_phase : (event : Event) (events : List Event) (c : ℕ) → c ≢ core_of event → phase_of (event ∷ events) c ≡ phase_of events c
apart_phase event events c other = ap (λ b. cond b (phase_by event) (phase_of events c)) (ne_eqb c (core_of event) other)

entry_phase : (o : Option Call) (c : ℕ) (events : List Event) (p : Phase) → phase_of events c ≡ plain_phase p
    → phase_of (with_entry o c events) c ≡ plain_phase (after_enter o p)
entry_phase None c events p is = is
entry_phase (Some call) c events p is = same_phase (Enters c call) events c refl

decision_phase : (o : Option Reply) (p : Phase) (c : ℕ) (events : List Event) → phase_of events c ≡ plain_phase p
    → phase_of (with_decision o p c events) c ≡ plain_phase (after_decide o p)
decision_phase None p c events is = is
decision_phase (Some r) Out c events is = is
decision_phase (Some r) (Open call) c events is = same_phase (Decides c call r) events c refl
decision_phase (Some r) (Decided call q) c events is = is

return_phase : (o : Option Reply) (c : ℕ) (events : List Event) (p : Phase) → phase_of events c ≡ plain_phase p
    → phase_of (with_return o c events) c ≡ plain_phase (after_return o p)
return_phase None c events p is = is
return_phase (Some r) c events p is = same_phase (Returns c) events c refl

pub entry_apart : (o : Option Call) (d : ℕ) (events : List Event) (c : ℕ) → c ≢ d → phase_of (with_entry o d events) c ≡ phase_of events c
entry_apart None d events c other = refl
entry_apart (Some call) d events c other = apart_phase (Enters d call) events c other

pub decision_apart : (o : Option Reply) (p : Phase) (d : ℕ) (events : List Event) (c : ℕ)
    → c ≢ d → phase_of (with_decision o p d events) c ≡ phase_of events c
decision_apart None p d events c other = refl
decision_apart (Some r) Out d events c other = refl
decision_apart (Some r) (Open call) d events c other = apart_phase (Decides d call r) events c other
decision_apart (Some r) (Decided call q) d events c other = refl

pub return_apart : (o : Option Reply) (d : ℕ) (events : List Event) (c : ℕ)
    → c ≢ d → phase_of (with_return o d events) c ≡ phase_of events c
return_apart None d events c other = refl
return_apart (Some r) d events c other = apart_phase (Returns d) events c other

-- A core is in the phase of the events.
pub phase_is : (t : Trace) (c : ℕ) → phase_of (events_of t) c ≡ plain_phase (phase t c)
phase_is [] c = refl
phase_is (e ∷ t) c = elim (cases_eq c e.core) [
  | inl own ↦
      ap (phase_of (events_of (e ∷ t))) own
      ∙ return_phase e.returns e.core (decided_events t e) (after_decide e.decides (after_enter e.enters (phase t e.core)))
      (decision_phase e.decides (after_enter e.enters (phase t e.core)) e.core (entered_events t e)
      (entry_phase e.enters e.core (events_of t) (phase t e.core) (phase_is t e.core)))
      ∙ ap plain_phase (sym (phase-own e.core e t refl)) ∙ ap (λ d. plain_phase (phase (e ∷ t) d)) (sym own)
  | inr other ↦
      return_apart e.returns e.core (decided_events t e) c other
      ∙ decision_apart e.decides (after_enter e.enters (phase t e.core)) e.core (entered_events t e) c other
      ∙ entry_apart e.enters e.core (events_of t) c other
      ∙ phase_is t c ∙ ap plain_phase (sym (phase-other c e t other))
]

pub entered_phase : (t : Trace) (e : Step) → phase_of (entered_events t e) e.core ≡ plain_phase (after_enter e.enters (phase t e.core))
entered_phase t e = entry_phase e.enters e.core (events_of t) (phase t e.core) (phase_is t e.core)

pub decided_phase : (t : Trace) (e : Step)
    → phase_of (decided_events t e) e.core ≡ plain_phase (after_decide e.decides (after_enter e.enters (phase t e.core)))
decided_phase t e = decision_phase e.decides (after_enter e.enters (phase t e.core)) e.core (entered_events t e) (entered_phase t e)

-- the run

entry_run : (setup : Setting) (o : Option Call) (c : ℕ) (events : List Event) (p : Phase) → c < setup.cores → MayEnter o p
    → phase_of events c ≡ plain_phase p → IsRun setup events → IsRun setup (with_entry o c events)
entry_run setup None c events p core may is run = run
entry_run setup (Some call) c events p core may is run =
    (run, record { is_core = core; is_out = is ∙ ap plain_phase may.0; in_limits = may.1 })

decision_run : (setup : Setting) (t : Trace) (e : Step) (o : Option Reply) (p : Phase) → MayDecide setup t e o p
    → phase_of (entered_events t e) e.core ≡ plain_phase p → IsRun setup (entered_events t e)
    → IsRun setup (with_decision o p e.core (entered_events t e))
decision_run setup t e None p may is run = run
decision_run setup t e (Some r) Out may is run = run
decision_run setup t e (Some r) (Decided call q) may is run = run
decision_run setup t e (Some r) (Open call) may is run = (
  run,
  record {
    is_open = is;
    permitted = subst (λ s. MayReply s e.core call r) (before_is setup t e)
        (subst (λ k. MayReply (state_before setup t e) e.core k r) (open_inj call may.call may.is_open) may.permitted);
  },
)
  where
    open_inj : (k j : Call) → Open k ≡ Open j → j ≡ k
    open_inj k j same = cc

return_run : (setup : Setting) (o : Option Reply) (c : ℕ) (events : List Event) (p : Phase) → MayReturn o p
    → phase_of events c ≡ plain_phase p → IsRun setup events → IsRun setup (with_return o c events)
return_run setup None c events p may is run = run
return_run setup (Some r) c events p may is run = (run, ap is_decided (is ∙ ap plain_phase may.was_decided))

module _ (setup : Setting) (t : Trace) (e : Step) (legal : IsLegal setup t)
    (follows : MayFollow setup t e) (run : IsRun setup (events_of t)) where
  pub entered_run : IsRun setup (entered_events t e)
  entered_run = entry_run setup e.enters e.core (events_of t) (phase t e.core) follows.is_core follows.enters (phase_is t e.core) run

  pub decided_run : IsRun setup (decided_events t e)
  decided_run = decision_run setup t e e.decides (after_enter e.enters (phase t e.core)) follows.decides (entered_phase t e) entered_run

  pub step_run : IsRun setup (events_of (e ∷ t))
  step_run = return_run setup e.returns e.core (decided_events t e)
      (after_decide e.decides (after_enter e.enters (phase t e.core))) follows.returns (decided_phase t e) decided_run

-- The events of a legal trace are a run.
pub run_of : (setup : Setting) (t : Trace) → IsLegal setup t → IsRun setup (events_of t)
run_of setup [] legal = tt
run_of setup (e ∷ t) legal = step_run setup t e legal.0 legal.1 (run_of setup t legal.0)

-- Phases that are one to the sequential kernel are one.
pub plain_inj : (p q : Phase) → plain_phase p ≡ plain_phase q → p ≡ q
plain_inj Out Out is = refl
plain_inj Out (Open k) is = absurd (cc)
plain_inj Out (Decided k r) is = absurd (cc)
plain_inj (Open j) Out is = absurd (cc)
plain_inj (Open j) (Open k) is = ap Open (inj is)
  where
    inj : plain_phase (Open j) ≡ plain_phase (Open k) → j ≡ k
    inj h = cc
plain_inj (Open j) (Decided k r) is = absurd (cc)
plain_inj (Decided j q) Out is = absurd (cc)
plain_inj (Decided j q) (Open k) is = absurd (cc)
plain_inj (Decided j q) (Decided k r) is = ap (λ x. Decided x q) (first is) ∙ ap (λ x. Decided k x) (second is)
  where
    first : plain_phase (Decided j q) ≡ plain_phase (Decided k r) → j ≡ k
    first h = cc

    second : plain_phase (Decided j q) ≡ plain_phase (Decided k r) → q ≡ r
    second h = cc
