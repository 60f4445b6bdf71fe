-- The origins stand for a trace with one step more.
use Rattle.told_run.specs.lone_kernel.specs as low
use low.kernel_history.proofs.{◌≡◌, ◌≢◌, inl, inr, ℕ, ◌<◌, ◌≤◌, refl, sym, ◌∙◌, ap, subst, arith, List, [], ◌∷◌, length, All, Option, Some}
use low.kernel_history.proofs.{None, is_some, slice_get, if◌then◌else◌, eq-eqb, ne_eqb, Setting, IsSetting, Call, Reply, Item, Event, IsRun}
use low.kernel_history.proofs.{Step, Phase, Out, Decided, phase, after_enter, after_decide, after_return, with_entry, with_decision}
use low.flight.proofs.{Trace, Open, IsMade}
use Rattle.origin_lines.specs.seq_state.proofs.Lists.{stands_within, set_here, set_apart}
use Rattle.origins_run.specs.Tracked.{Tracked, EntersBy, DecidesOpen, DecidesIn, DecidesBy, LeavesBy, open_call, Tracks, has_tracked}
use low.{kernel_history.proofs.with_return, kernel_history.proofs.events_of, kernel_history.proofs.Laws.legal_runs}
use low.{flight_laws.proofs.Histories.made_histories, step_views.specs.declared.views.StepMade.StepMade}
use Rattle.{std.proofs.lemmas.Bool.cases_eq, origin_lines.specs.kernel_invariant.proofs.SoundRuns.open_limits}
use Rattle.{told_run.specs.Watching.IsNext, told_run.specs.GivenWatched.GivenWatched, origin_lines.specs.origin_rules.specs.Chains.decided}
use Rattle.{origin_lines.specs.confinement.specs.Known.StandsFor, origin_lines.specs.Lines.TellsOrigins}
use Rattle.{origins_run.specs.GivenOrigins.GivenOrigins, origins_run.proofs.Deciding.few_decided}

-- ---- parts of a run

module _ (setup : Setting) (c : ℕ) where
  run_before_entry : (enters : Option Call) (events : List Event) → IsRun setup (with_entry enters c events) → IsRun setup events
  run_before_entry None events run = run
  run_before_entry (Some call) events run = run.0

  run_before_decision : (decides : Option Reply) (p : Phase) (events : List Event) → IsRun setup (with_decision decides p c events)
      → IsRun setup events
  run_before_decision None p events run = run
  run_before_decision (Some r) Out events run = run
  run_before_decision (Some r) (Open call) events run = run.0
  run_before_decision (Some r) (Decided call q) events run = run

  run_before_return : (returns : Option Reply) (events : List Event) → IsRun setup (with_return returns c events) → IsRun setup events
  run_before_return None events run = run
  run_before_return (Some r) events run = run.0

few_before_entry : (n c : ℕ) (enters : Option Call) (events : List Event) → decided (with_entry enters c events) < n → decided events < n
few_before_entry n c None events few = few
few_before_entry n c (Some call) events few = few

few_before_decision : (n c : ℕ) (decides : Option Reply) (p : Phase) (events : List Event) → decided (with_decision decides p c events) < n
    → decided events < n
few_before_decision n c None p events few = few
few_before_decision n c (Some r) Out events few = few
few_before_decision n c (Some r) (Open call) events few = omega (arith, few)
few_before_decision n c (Some r) (Decided call q) events few = few

few_before_return : (n c : ℕ) (returns : Option Reply) (events : List Event) → decided (with_return returns c events) < n
    → decided events < n
few_before_return n c None events few = few
few_before_return n c (Some r) events few = few

-- ---- one core, event by event

-- The origins stand for the events, core c's open call is that of its phase, and those of the others are as before.
record At (setup : Setting) (events : List Event) (c : ℕ) (p : Phase) (before w : Tracked) : Type 0 where
  stands : StandsFor setup events w.origins
  own : slice_get w.opened c ≡ Some (open_call p)
  others : (d : ℕ) → d ≢ c → slice_get w.opened d ≡ slice_get before.opened d

within : (w : Tracked) (c : ℕ) (o : Option Call) → slice_get w.opened c ≡ Some o → c < length w.opened
within w c o is = stands_within w.opened c (ap is_some is)

-- Another open call of core c.
set_own : (w w' : Tracked) (c : ℕ) (o x : Option Call) → slice_get w.opened c ≡ Some o → w'.opened ≡ Rattle.std.specs.Prelude.slice_set w.opened c x
    → slice_get w'.opened c ≡ Some x
set_own w w' c o x is set = ap (λ xs. slice_get xs c) set ∙ set_here w.opened c x (within w c o is)

set_other : (w w' : Tracked) (c d : ℕ) (x : Option Call) → w'.opened ≡ Rattle.std.specs.Prelude.slice_set w.opened c x → d ≢ c
    → slice_get w'.opened d ≡ slice_get w.opened d
set_other w w' c d x set ne = ap (λ xs. slice_get xs d) set ∙ set_apart w.opened c d x ne

module _ (setup : Setting) (lim : IsSetting setup) (c : ℕ) (before : Tracked) where
  entered : (enters : Option Call) (events : List Event) (p : Phase) (w w' : Tracked) → At setup events c p before w
      → EntersBy w c enters w' → IsRun setup (with_entry enters c events) → decided (with_entry enters c events) < 4294967296
      → At setup (with_entry enters c events) c (after_enter enters p) before w'
  entered None events p w w' at is run few = subst (At setup events c p before) (sym is) at
  entered (Some call) events p w w' at is run few = record {
    stands = is.0 setup lim events run few at.stands;
    own = set_own w w' c (open_call p) (Some call) at.own is.1;
    others = λ d ne. set_other w w' c d (Some call) is.1 ne ∙ at.others d ne;
  }

  decided_at : (decides : Option Reply) (events : List Event) (p : Phase) (w w' : Tracked) → At setup events c p before w
      → DecidesBy w c decides w' → IsRun setup (with_decision decides p c events)
      → decided (with_decision decides p c events) < 4294967296
      → At setup (with_decision decides p c events) c (after_decide decides p) before w'
  decided_at None events p w w' at is run few = subst (At setup events c p before) (sym is) at
  decided_at (Some r) events Out w w' at is run few =
      let same : w' ≡ w = subst (λ o. DecidesIn w c o r w') at.own is in subst (At setup events c Out before) (sym same) at
  decided_at (Some r) events (Decided call q) w w' at is run few =
      let same : w' ≡ w = subst (λ o. DecidesIn w c o r w') at.own is in subst (At setup events c (Decided call q) before) (sym same) at
  decided_at (Some r) events (Open call) w w' at is run few =
      let opens : DecidesOpen w c call r w' = subst (λ o. DecidesIn w c o r w') at.own is in
      let both = opens (open_limits setup events c call run.0 run.1.is_open) in
      record {
        stands = both.0 setup lim events run few at.stands;
        own = set_own w w' c (Some call) None at.own both.1;
        others = λ d ne. set_other w w' c d None both.1 ne ∙ at.others d ne;
      }

  left_at : (returns : Option Reply) (events : List Event) (p : Phase) (w w' : Tracked) → At setup events c p before w
      → LeavesBy w c returns w' → IsRun setup (with_return returns c events) → decided (with_return returns c events) < 4294967296
      → At setup (with_return returns c events) c (after_return returns p) before w'
  left_at None events p w w' at is run few = subst (At setup events c p before) (sym is) at
  left_at (Some r) events p w w' at is run few = record {
    stands = is.0 setup lim events run few at.stands;
    own = set_own w w' c (open_call p) None at.own is.1;
    others = λ d ne. set_other w w' c d None is.1 ne ∙ at.others d ne;
  }

-- ---- a step

module _ (setup : Setting) (lim : IsSetting setup) (t : Trace) (e : Step) (w w1 w2 w3 : Tracked)
    (run : IsRun setup (events_of (e ∷ t))) (few : decided (events_of (e ∷ t)) < 4294967296) (core : e.core < 8)
    (tracks : Tracks setup t w) (enters : EntersBy w e.core e.enters w1) (decides : DecidesBy w1 e.core e.decides w2)
    (leaves : LeavesBy w2 e.core e.returns w3) where
  abbrev c : ℕ
  c = e.core

  abbrev p1 : Phase
  p1 = after_enter e.enters (phase t e.core)

  abbrev events1 : List Event
  events1 = with_entry e.enters e.core (events_of t)

  abbrev events2 : List Event
  events2 = with_decision e.decides p1 e.core events1

  run2 : IsRun setup events2
  run2 = run_before_return setup c e.returns events2 run

  few2 : decided events2 < 4294967296
  few2 = few_before_return 4294967296 c e.returns events2 few

  here : At setup (events_of t) c (phase t c) w w
  here = record { stands = tracks.stands; own = tracks.opened c core; others = λ d ne. refl }

  at1 : At setup events1 c p1 w w1
  at1 = entered setup lim c w e.enters (events_of t) (phase t c) w w1 here enters (run_before_decision setup c e.decides p1 events1 run2)
      (few_before_decision 4294967296 c e.decides p1 events1 few2)

  at2 : At setup events2 c (after_decide e.decides p1) w w2
  at2 = decided_at setup lim c w e.decides events1 p1 w1 w2 at1 decides run2 few2

  at3 : At setup (events_of (e ∷ t)) c (after_return e.returns (after_decide e.decides p1)) w w3
  at3 = left_at setup lim c w e.returns events2 (after_decide e.decides p1) w2 w3 at2 leaves run few

  pub step_tracked : Tracks setup (e ∷ t) w3
  step_tracked = record {
    stands = at3.stands;
    opened = λ d small. elim (cases_eq d c) [
      | inl same ↦
          ap (slice_get w3.opened) same ∙ at3.own
          ∙ (λ i. Some (open_call (after_return e.returns (after_decide e.decides (after_enter e.enters (phase t (sym same i)))))))
          ∙ ap (λ b. Some (open_call (if b then after_return e.returns (after_decide e.decides (after_enter e.enters (phase t d)))
          else phase t d))) (sym (eq-eqb d c same))
      | inr ne ↦
          at3.others d ne ∙ tracks.opened d small
          ∙ ap (λ b. Some (open_call (if b then after_return e.returns (after_decide e.decides (after_enter e.enters (phase t d)))
          else phase t d))) (sym (ne_eqb d c ne))
    ];
  }

small_core : (n c : ℕ) → c < n → n ≤ 8 → c < 8
small_core n c below most = omega (arith, below, most)

few_earlier : (t : Trace) (e : Step) → decided (events_of (e ∷ t)) < 4294967296 → decided (events_of t) < 4294967296
few_earlier t e few =
    few_before_entry 4294967296 e.core e.enters (events_of t)
    (few_before_decision 4294967296 e.core e.decides (after_enter e.enters (phase t e.core)) (with_entry e.enters e.core (events_of t))
    (few_before_return 4294967296 e.core e.returns
    (with_decision e.decides (after_enter e.enters (phase t e.core)) e.core (with_entry e.enters e.core (events_of t))) few))

run_of : (setup : Setting) → IsSetting setup → (t : Trace) → IsMade setup t → IsRun setup (events_of t)
run_of setup lim t made = (legal_runs setup t (made_histories setup lim t made).legal).run

pub tracks_next : (w w1 w2 w3 : Tracked) (made : StepMade) → EntersBy w made.view.core made.view.enters w1
    → DecidesBy w1 made.view.core made.decides w2 → LeavesBy w2 made.view.core made.returns w3
    → (setup : Setting) (first : Tracked) (t : Trace) (e : Step) → IsNext setup t made e → has_tracked setup first t w
    → has_tracked setup first (e ∷ t) w3
tracks_next w w1 w2 w3 made enters decides leaves setup first t e next seen begun few =
    step_tracked setup next.setting t e w w1 w2 w3 (run_of setup next.setting (e ∷ t) next.is_made) few
    (small_core setup.cores e.core next.is_made.1.is_core next.setting.most_cores)
    (seen begun (few_earlier t e few))
    (subst (λ x. EntersBy w e.core x w1) next.told.shown.enters (subst (λ c. EntersBy w c made.view.enters w1) next.told.shown.core enters))
    (subst (λ x. DecidesBy w1 e.core x w2) next.told.decides (subst (λ c. DecidesBy w1 c made.decides w2) next.told.shown.core decides))
    (subst (λ x. LeavesBy w2 e.core x w3) next.told.returns (subst (λ c. LeavesBy w2 c made.returns w3) next.told.shown.core leaves))

-- ---- at the end

pub given : (setup : Setting) (lists : List (List Call)) (items : List Item) (first last : Tracked) (text : List ℕ)
    → All (λ l. length l < 536870912) lists → Tracks setup [] first → TellsOrigins last.origins [] text
    → GivenWatched Tracked (λ setup first t last. has_tracked setup first t last) setup lists items first last
    → GivenOrigins setup lists items text
given setup lists items first last text small begun tells w = record {
  trace = w.trace;
  history = w.history;
  calls = w.calls;
  order = w.order;
  is_text = tells setup w.setting (events_of w.trace) run
      (w.seen begun (few_decided setup w.setting lists small w.trace run w.calls)).stands;
}
  where
    run : IsRun setup (events_of w.trace)
    run = (legal_runs setup w.trace w.history.legal).run
