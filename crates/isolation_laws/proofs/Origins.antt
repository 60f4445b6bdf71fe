-- What a step puts has a parent; and the chains and the confinement of runs, said of traces.
use Rattle.kernel_history.proofs.{◌≡◌, ◌⊎◌, inl, inr, ℕ, true, refl, sym, ◌∙◌, ap, subst, List, [], ◌∷◌, ◌++◌, Option, Some, None}
use Rattle.kernel_history.proofs.{Capability, Call, Value, Reply, Place, Free, Holds, Quiescing, State, Change, Judged, Found, IsFoundAnd}
use Rattle.kernel_history.proofs.{rule_of, change_of, changed, state_by, Event, Enters, Decides, Returns, after, IsRun, IfFound, Phase, Out}
use Rattle.kernel_history.proofs.{Decided, phase, after_enter, state_after, with_entry, with_decision, with_return, events_of}
use Rattle.kernel_history.proofs.{entered_events, state_is, run_of}
use Rattle.origin_laws.specs.origin_rules.specs.{origin_of, is_own, Gives}
use Rattle.origin_laws.specs.origin_rules.proofs.{Placed.Placed, Placed.call_placed, Placed.shown as shown_there, EachChain.chains_are_real}
use Rattle.isolation_laws.specs.Origins.{shown, PutsBy, StepsPutFalling, TracesHaveChains, StretchesConfine}
use Rattle.isolation_laws.proofs.Steps.{OnlyCore, before, decided, into, out_of, Carrying, step_does, carried, at_decision}
use Rattle.{origin_laws.specs.IsForeign, origin_laws.specs.IsCovered, world_laws.specs.kernel_laws.proofs.Refused}
use Rattle.{world_laws.specs.kernel_laws.proofs.outcome_from, kernel_history.specs.Trace.Trace, kernel_history.specs.Trace.Open}
use Rattle.{origin_laws.specs.origin_rules.specs.declared.chains.Step.Step as Way}
use Rattle.{origin_laws.specs.origin_rules.proofs.Falling.rights_only_fall, origin_laws.proofs.EachConfined.cores_are_confined}

-- ---- a step

-- A capability is put by a call, from a parent.
record IsGiven (s : State) (c : ℕ) (call : Call) (k : Capability) : Type 0 where
  way : Way
  parent : Capability
  gives : Gives s c call way parent k

shown_is : (p : Place) → shown_there p ≡ shown p
shown_is Free = refl
shown_is (Holds k) = refl
shown_is (Quiescing k) = refl

-- From s to t, what a place shows it showed before, or it was put.
abbrev ShowsBy : State → ℕ → Call → State → Type 0
ShowsBy s c call t = (f i : ℕ) (k : Capability) → shown (t.place f i) ≡ Some k → is_own k.kind ≡ true
    → (shown (s.place f i) ≡ Some k) ⊎ IsGiven s c call k

ok_shows : (s : State) (c : ℕ) (call : Call) (v : Value) → IsFoundAnd (change_of s c call) (λ change. change.value ≡ v)
    → ShowsBy s c call (state_by s c call (Reply.Ok v))
ok_shows s c call v ok = by_outcome (change_of s c call) ok (outcome_from (Placed s c call) s c (rule_of s c call) (call_placed s c call))
  where
    by_outcome : (x : Judged Change) → IsFoundAnd x (λ change. change.value ≡ v) → IfFound x (Placed s c call)
        → (f i : ℕ) (k : Capability) → shown ((changed s x).place f i) ≡ Some k → is_own k.kind ≡ true
        → (shown (s.place f i) ≡ Some k) ⊎ IsGiven s c call k
    by_outcome (Refused r) ok placed f i k is own = absurd ok
    by_outcome (Found change) ok placed f i k is own = elim (placed.shows f i k (shown_is (change.next.place f i) ∙ is) own) [
      | inl new ↦ inr (record { way = new.put.what; parent = new.parent; gives = new.gives })
      | inr old ↦ inl (sym (shown_is (s.place f i)) ∙ old.was)
    ]

same_shown : (s t : State) (c f i : ℕ) → OnlyCore s t c → shown (t.place f i) ≡ shown (s.place f i)
same_shown s t c f i h = ap (λ (g : ℕ → ℕ → Place). shown (g f i)) h.place

pub steps_put_falling : StepsPutFalling
steps_put_falling setup lim t e legal f i k is own = elim (step_does setup t e legal) [
  | inl only ↦ inl (sym (same_shown (state_after setup t) (state_after setup (e ∷ t)) e.core f i only) ∙ is)
  | inr carries ↦ by_call carries
]
  where
    shows : (x : Carrying setup t e legal) → ShowsBy (before setup t e legal) e.core x.call (decided setup t e legal)
    shows x = at_decision setup t e legal (λ s u. ShowsBy s e.core x.call u) x
        (ok_shows (after setup (entered_events t e)) e.core x.call x.value x.run.1.permitted.1.1)

    by_call : Carrying setup t e legal → (shown ((state_after setup t).place f i) ≡ Some k) ⊎ PutsBy setup t e k
    by_call x = elim (shows x f i k
        (sym (same_shown (decided setup t e legal) (state_after setup (e ∷ t)) e.core f i (out_of setup t e legal)) ∙ is) own) [
          | inl was ↦ inl (sym (same_shown (state_after setup t) (before setup t e legal) e.core f i (into setup t e legal)) ∙ was)
          | inr given ↦ inr (record {
            done = carried setup t e legal x;
            way = given.way;
            parent = given.parent;
            gives = given.gives;
            falls = rights_only_fall (before setup t e legal) e.core x.call given.way given.parent k given.gives;
          })
        ]

-- ---- traces

pub traces_have_chains : TracesHaveChains
traces_have_chains setup lim t legal f i k is own =
    chains_are_real setup lim (events_of t) (run_of setup t legal) f i k (ap (λ (s : State). s.place f i) (sym (state_is setup t)) ∙ is) own

-- The events of a longer trace are those of the shorter one, and later ones.
record IsLater (more events : List Event) : Type 0 where
  later : List Event
  adds : more ≡ later ++ events

entry_later : (o : Option Call) (c : ℕ) (more events : List Event) → IsLater more events → IsLater (with_entry o c more) events
entry_later None c more events h = h
entry_later (Some call) c more events h =
    record { later = Enters c call ∷ h.later; adds = ap (λ (xs : List Event). Enters c call ∷ xs) h.adds }

decision_later : (o : Option Reply) (p : Phase) (c : ℕ) (more events : List Event) → IsLater more events
    → IsLater (with_decision o p c more) events
decision_later None p c more events h = h
decision_later (Some r) Out c more events h = h
decision_later (Some r) (Open call) c more events h =
    record { later = Decides c call r ∷ h.later; adds = ap (λ (xs : List Event). Decides c call r ∷ xs) h.adds }
decision_later (Some r) (Decided call q) c more events h = h

return_later : (o : Option Reply) (c : ℕ) (more events : List Event) → IsLater more events → IsLater (with_return o c more) events
return_later None c more events h = h
return_later (Some r) c more events h =
    record { later = Returns c ∷ h.later; adds = ap (λ (xs : List Event). Returns c ∷ xs) h.adds }

later_events : (u t : Trace) → IsLater (events_of (u ++ t)) (events_of t)
later_events [] t = record { later = []; adds = refl }
later_events (e ∷ u) t =
    return_later e.returns e.core _ (events_of t)
    (decision_later e.decides (after_enter e.enters (phase (u ++ t) e.core)) e.core _ (events_of t)
    (entry_later e.enters e.core (events_of (u ++ t)) (events_of t) (later_events u t)))

pub stretches_confine : StretchesConfine
stretches_confine setup lim u t legal c f i k is own =
    let had : IsLater (events_of (u ++ t)) (events_of t) = later_events u t in
    subst (λ es. IsForeign (events_of t) c es (origin_of setup es f i).links ⊎ IsCovered setup (events_of t) c es k) (sym had.adds)
    (cores_are_confined setup lim (events_of t) had.later (subst (IsRun setup) had.adds (run_of setup (u ++ t) legal)) c f i k
    (ap (λ es. (after setup es).place f i) (sym had.adds) ∙ ap (λ (s : State). s.place f i) (sym (state_is setup (u ++ t))) ∙ is) own)
