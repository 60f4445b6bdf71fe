-- After a trace that is the machine's, each core stands in its phase: a step of a call moves both alike.
use Rattle.work_invariant.specs.step_ways.proofs as low
use low.{◌≡◌, ◌≢◌, ℕ, ◌<◌, arith, true, List, [], ◌∷◌, Option, Some, None, inl, inr, refl, sym, ◌∙◌, ap, subst, IsSome, is_some, false≢true}
use low.{Call, Reply, Setting, told_of, put_same, put_other, Step, Trace, Phase, Out, Open, phase, after_enter, after_decide, after_return}
use low.{phase-own, phase-other, Core, Own, absorbed_in, told_by, told_in, fresh, Capability, Plan, decided_in, returned_in, ActiveCall}
use low.{Stage, Enter, Decided, Leave, Took, GoesOn, Decides, Returns, Changes, took, calls_of-other}
use low.{core_after as after_took, move_of, plan_for}
use Rattle.flight.specs.{is_decided_at, is_decided_in, turned, MayStep, core_after, cores_after, stepping_core, IsMadeStep}
use Rattle.work_invariant.specs.boot_words.specs.kernel_history.specs.{Trace.Decided as decided_phase, Order.IsDecided}
use Rattle.call_fits.specs.call_stages.specs.{Cores.ready_in, Laws.reply_at, Steps.ready_at}
use Rattle.flight.specs.Phases.{IsInPhase, MadePhases, MadeOfItsCores, AreEvents, MadeEvents, DecidedIsReady}
use Rattle.{std.proofs.lemmas.Bool.cases_eq, call_fits.specs.call_stages.proofs.Decisions.decides_once, flight.specs.Decided.Turns}
use Rattle.call_fits.specs.call_stages.specs.Laws as laws

-- A core in a call that is or is not decided, as its phase.
pub record IsInCall (f : ActiveCall) (p : Phase) : Type 0 where
  pub inside : p ≢ Out
  pub decided : is_decided_at f.stage ≡ true → IsDecided p
  pub was_decided : IsDecided p → is_decided_at f.stage ≡ true

-- An undecided call is decided.
decides_open : (p : Phase) (r : Reply) → p ≢ Out → (IsDecided p → ⊥) → IsDecided (after_decide (Some r) p)
decides_open Out r inside un = absurd (inside refl)
decides_open (Open call) r inside un = tt
decides_open (decided_phase call q) r inside un = absurd (un tt)

is_decided_inside : (p : Phase) → IsDecided p → p ≢ Out
is_decided_inside (decided_phase call r) is = λ e. cc
is_decided_inside _ is = absurd is

-- Whether a call is decided goes by the reply with which it is.
decided_by : (s : Stage) → is_decided_at s ≡ is_some (reply_at s)
decided_by Enter = refl
decided_by _ = refl

turns_by : (s : Stage) (k : Took) → laws.Turns (reply_at s) k → Turns (is_decided_at s) k
turns_by s (GoesOn a) h = decided_by a.stage ∙ ap is_some h ∙ sym (decided_by s)
turns_by s (Decides r a) h = (decided_by s ∙ ap is_some h.0, decided_by a.stage ∙ ap is_some h.1)
turns_by s (Returns r x) h = decided_by s ∙ ap is_some h
turns_by s (Changes r change a) h = (decided_by s ∙ ap is_some h.0, decided_by a.stage ∙ ap is_some h.1)

pub took_turns : (own : Own) (a : ActiveCall) (found : ℕ) → Turns (is_decided_at a.stage) (took own a found)
took_turns own a found = turns_by a.stage (took own a found) (decides_once own a found)

-- What a step led to moves the phase as it does the core.
took_phase : (own : Own) (f : ActiveCall) (p : Phase) (k : Took) → Turns (is_decided_at f.stage) k → IsInCall f p
    → IsInPhase (after_took own k) (after_return (returned_in (told_by k)) (after_decide (decided_in (told_by k)) p))
took_phase own f p (GoesOn s) turns is = record {
  out = λ none. absurd (cc);
  in_call = λ some. is.inside;
  decided = λ h. is.decided (sym turns ∙ h);
  was_decided = λ h. turns ∙ is.was_decided h;
}
took_phase own f p (Decides r s) turns is =
    let now = decides_open p r is.inside (λ h. false≢true (sym turns.0 ∙ is.was_decided h)) in
    record {
      out = λ none. absurd (cc);
      in_call = λ some. is_decided_inside (after_decide (Some r) p) now;
      decided = λ h. now;
      was_decided = λ h. turns.1;
    }
took_phase own f p (Returns r x) turns is = record {
  out = λ none. refl;
  in_call = λ some. absurd (some refl);
  decided = λ h. absurd (cc);
  was_decided = λ h. absurd h;
}
took_phase own f p (Changes r change s) turns is =
    let now = decides_open p r is.inside (λ h. false≢true (sym turns.0 ∙ is.was_decided h)) in
    record {
      out = λ none. absurd (cc);
      in_call = λ some. is_decided_inside (after_decide (Some r) p) now;
      decided = λ h. now;
      was_decided = λ h. turns.1;
    }

in_flight : (own : Own) (o : Option ActiveCall) (p : Phase) (found : ℕ) → IsSome o → ((f : ActiveCall) → o ≡ Some f → IsInCall f p)
    → IsInPhase (absorbed_in own o found) (after_return (returned_in (told_in own o found))
    (after_decide (decided_in (told_in own o found)) p))
in_flight own None p found some is = absurd (cc)
in_flight own (Some f) p found some is = took_phase own f p (took own f found) (took_turns own f found) (is f refl)

inside_of : (core : Core) (p : Phase) → IsInPhase core p → (f : ActiveCall) → core.active ≡ Some f → IsInCall f p
inside_of core p is f at = record {
  inside = is.in_call (λ none. let both = sym at ∙ none in absurd (cc));
  decided = λ h. is.decided (ap is_decided_in at ∙ h);
  was_decided = λ h. ap is_decided_in (sym at) ∙ is.was_decided h;
}

fresh_inside : (call : Call) (f : ActiveCall) → Some (fresh call) ≡ Some f → IsInCall f (Open call)
fresh_inside call f at =
    subst (λ g. IsInCall g (Open call)) (same at) (record { inside = λ e. cc; decided = λ h. absurd (cc); was_decided = λ h. absurd h })
  where
    same : Some (fresh call) ≡ Some f → fresh call ≡ f
    same e = cc

-- A core that makes a step stands in the phase after it, where it stood in that before.
steps_phase : (core : Core) (p : Phase) (enters : Option Call) (found : ℕ) → IsInPhase core p → MayStep enters core
    → IsInPhase (absorbed_in (turned enters core).own (turned enters core).active found)
    (after_return (returned_in (told_in (turned enters core).own (turned enters core).active found))
    (after_decide (decided_in (told_in (turned enters core).own (turned enters core).active found)) (after_enter enters p)))
steps_phase core p None found is may = in_flight core.own core.active p found may (inside_of core p is)
steps_phase core p (Some call) found is may = in_flight core.own (Some (fresh call)) (Open call) found refl (fresh_inside call)

module _ (setup : Setting) (t : Trace) (e : Step) (step : IsMadeStep setup t e)
    (before : (c : ℕ) → c < setup.cores → IsInPhase (cores_after setup t c) (phase t c)) where
  abbrev told_here : ℕ
  told_here = told_of (move_of (stepping_core setup t e)) e.found

  own : IsInPhase (core_after (stepping_core setup t e) e.found) (phase (e ∷ t) e.core)
  own =
      let is = steps_phase (cores_after setup t e.core) (phase t e.core) e.enters told_here (before e.core step.is_core) step.may in
      let decides : decided_in (told_in (stepping_core setup t e).own (stepping_core setup t e).active told_here) ≡ e.decides = sym
      (ap (λ x. x.decides) step.made) in
      let returns : returned_in (told_in (stepping_core setup t e).own (stepping_core setup t e).active told_here) ≡ e.returns = sym
      (ap (λ x. x.returns) step.made) in
      subst (λ p. IsInPhase (core_after (stepping_core setup t e) e.found) p) (sym (phase-own e.core e t refl))
      (subst (λ r. IsInPhase (core_after (stepping_core setup t e) e.found)
      (after_return r (after_decide e.decides (after_enter e.enters (phase t e.core))))) returns
      (subst (λ d. IsInPhase (core_after (stepping_core setup t e) e.found)
      (after_return (returned_in (told_in (stepping_core setup t e).own (stepping_core setup t e).active told_here))
      (after_decide d (after_enter e.enters (phase t e.core))))) decides is))

  pub phases_on : (c : ℕ) → c < setup.cores → IsInPhase (cores_after setup (e ∷ t) c) (phase (e ∷ t) c)
  phases_on c here = elim (cases_eq c e.core) [
    | inl same ↦
        subst (λ core. IsInPhase core (phase (e ∷ t) c)) (sym (put_same (cores_after setup t) e.core
        (core_after (stepping_core setup t e) e.found) c same))
        (subst (λ (i : ℕ). IsInPhase (core_after (stepping_core setup t e) e.found) (phase (e ∷ t) i)) (sym same) own)
    | inr other ↦
        subst (λ core. IsInPhase core (phase (e ∷ t) c)) (sym (put_other (cores_after setup t) e.core
        (core_after (stepping_core setup t e) e.found) c other))
        (subst (λ p. IsInPhase (cores_after setup t c) p) (sym (phase-other c e t other)) (before c here))
  ]

pub made_phases : MadePhases
made_phases setup setting [] made c here =
    record { out = λ none. refl; in_call = λ some. absurd (some refl); decided = λ h. absurd (cc); was_decided = λ h. absurd h }
made_phases setup setting (e ∷ t) made c here = phases_on setup t e made.1 (made_phases setup setting t made.0) c here

-- What a step led to, and its events.
took_events : (own : Own) (f : ActiveCall) (k : Took) → Turns (is_decided_at f.stage) k
    → AreEvents (record { own = own; active = Some f }) (after_took own k) (decided_in (told_by k)) (returned_in (told_by k))
took_events own f (GoesOn s) turns = record {
  decides_now = λ before after. absurd (false≢true (sym before ∙ sym turns ∙ after));
  decides_none = λ some h. refl;
  returns_now = λ none. absurd (cc);
  returns_none = λ some. refl;
}
took_events own f (Decides r s) turns = record {
  decides_now = λ before after. refl;
  decides_none = λ some h. absurd (false≢true (sym h ∙ turns.1));
  returns_now = λ none. absurd (cc);
  returns_none = λ some. refl;
}
took_events own f (Returns r x) turns = record {
  decides_now = λ before after. absurd (false≢true (sym before ∙ turns));
  decides_none = λ some h. refl;
  returns_now = λ none. refl;
  returns_none = λ some. absurd (some refl);
}
took_events own f (Changes r change s) turns = record {
  decides_now = λ before after. refl;
  decides_none = λ some h. absurd (false≢true (sym h ∙ turns.1));
  returns_now = λ none. absurd (cc);
  returns_none = λ some. refl;
}

events_in : (own : Own) (o : Option ActiveCall) (found : ℕ) → IsSome o
    → AreEvents (record { own = own; active = o }) (absorbed_in own o found) (decided_in (told_in own o found))
    (returned_in (told_in own o found))
events_in own None found some = absurd (cc)
events_in own (Some f) found some = took_events own f (took own f found) (took_turns own f found)

in_call_at : (enters : Option Call) (core : Core) → MayStep enters core → IsSome (turned enters core).active
in_call_at None core may = may
in_call_at (Some call) core may = refl

pub made_events : MadeEvents
made_events setup t e step =
    let core = stepping_core setup t e in
    let told_here = told_of (move_of core) e.found in
    let are = events_in core.own core.active told_here (in_call_at e.enters (cores_after setup t e.core) step.may) in
    let decides : decided_in (told_in core.own core.active told_here) ≡ e.decides = sym (ap (λ x. x.decides) step.made) in
    let returns : returned_in (told_in core.own core.active told_here) ≡ e.returns = sym (ap (λ x. x.returns) step.made) in
    subst (λ r. AreEvents core (core_after core e.found) e.decides r) returns
    (subst (λ d. AreEvents core (core_after core e.found) d (returned_in (told_in core.own core.active told_here))) decides are)

stage_decided : (plan : Plan) (found : List Capability) (s : Stage) → is_decided_at s ≡ true → ready_at plan found s ≡ true
stage_decided plan found (Decided r drawn tail) h = refl
stage_decided plan found (Leave r x) h = refl
stage_decided plan found _ h = absurd (cc)

flight_decided : (o : Option ActiveCall) → is_decided_in o ≡ true → ready_in o ≡ true
flight_decided None h = absurd (cc)
flight_decided (Some f) h = stage_decided (plan_for f.call) f.found f.stage h

pub decided_is_ready : DecidedIsReady
decided_is_ready core h = flight_decided core.active h

pub made_of_its_cores : MadeOfItsCores
made_of_its_cores setup [] made c past = record { out = refl; none = refl }
made_of_its_cores setup (e ∷ t) made c past =
    let before = made_of_its_cores setup t made.0 c past in
    let below = made.1.is_core in
    let other : c ≢ e.core = λ same. omega arith in
    record { out = phase-other c e t other ∙ before.out; none = calls_of-other c e t other ∙ before.none }
