-- In every state that a run reaches, what is named is sound.
use Rattle.kernel_rules.proofs.{◌≡◌, ◌≢◌, inl, inr, ℕ, ◌<◌, Bool, true, false, refl, sym, ◌∙◌, ap, subst, if◌then◌else◌, IsTrue, List, []}
use Rattle.kernel_rules.proofs.{◌∷◌, false≢true, eq-eqb, ne_eqb, Setting, IsSetting, InLimits, Call, Tick, Reply, Value, Thing, PlaceOf}
use Rattle.kernel_rules.proofs.{FrameOf, put, start, entered, returned, Change, Judged, Refused, Found, IsFoundAnd, rule_of, change_of}
use Rattle.kernel_rules.proofs.{changed, counted, owed_by, state_by, MayReply, Event, Enters, Decides, Returns, after, Phase, Out, Open}
use Rattle.kernel_rules.proofs.{Decided, is_in, is_open, core_of, phase_by, phase_of, IsRun, IfFound, put_same, put_other, waits_inside}
use Rattle.kernel_rules.proofs.{decided_stays, fits, IsGood, Kind}
use Rattle.kernel_rules.specs.{State.State, Runs.MayFollow, Laws.CapabilitiesFit}
use Rattle.kernel_invariant.proofs.{Sound.WaitsForAll, Sound.IsSound, Sound.weaken, Sound.put_all, SoundSteps.waits_all}
use Rattle.kernel_invariant.proofs.{SoundStart.start_sound, Facts.outcome_from, Facts.usable_good, SoundCalls.IsOpen, SoundCalls.core_keeps}
use Rattle.{std.proofs.lemmas.Bool.cases_eq, kernel_invariant.proofs.SoundEdits.Keeps, kernel_invariant.proofs.SoundEdits.rule_keeps}

-- The cores whose calls are open.
abbrev pub opened : List Event → ℕ → Bool
opened events c = is_open (phase_of events c)

-- The phase of a core after one more event, by whether the event is its own.
pub phase_own : (e : Event) (events : List Event) (c : ℕ) → c ≡ core_of e → phase_of (e ∷ events) c ≡ phase_by e
phase_own e events c same = ap (λ b. if b then phase_by e else phase_of events c) (eq-eqb c (core_of e) same)

pub phase_other : (e : Event) (events : List Event) (c : ℕ) → c ≢ core_of e → phase_of (e ∷ events) c ≡ phase_of events c
phase_other e events c other = ap (λ b. if b then phase_by e else phase_of events c) (ne_eqb c (core_of e) other)

-- Which calls are open after a decision.
pub decided_opened : (events : List Event) (c : ℕ) (call : Call) (r : Reply) (d : ℕ) → opened (Decides c call r ∷ events) d ≡ true
    → put (opened events) c false d ≡ true
decided_opened events c call r d q = elim (cases_eq d c) [
  | inl same ↦ absurd (false≢true (sym (ap is_open (phase_own (Decides c call r) events d same)) ∙ q))
  | inr other ↦ put_other (opened events) c false d other ∙ sym (ap is_open (phase_other (Decides c call r) events d other)) ∙ q
]

-- The limits are those of the setting.
pub limits_stay : (setting : Setting) (events : List Event) → (after setting events).limits ≡ (start setting).limits
limits_stay setting [] = refl
limits_stay setting (Enters c call ∷ events) = limits_stay setting events
limits_stay setting (Returns c ∷ events) = limits_stay setting events
limits_stay setting (Decides c call r ∷ events) = (decided_stays (after setting events) c call r).limits ∙ limits_stay setting events

-- A core is in a call where its phase says so.
pub inside_is : (setting : Setting) (events : List Event) → IsRun setting events
    → (d : ℕ) → ((after setting events).core d).inside ≡ is_in (phase_of events d)
inside_is setting [] run d = refl
inside_is setting (Enters c call ∷ events) run d = elim (cases_eq d c) [
  | inl same ↦ ap (λ k. k.inside) (put_same (after setting events).core c _ d same)
      ∙ sym (ap is_in (phase_own (Enters c call) events d same))
  | inr other ↦ ap (λ k. k.inside) (put_other (after setting events).core c _ d other)
      ∙ inside_is setting events run.0 d ∙ sym (ap is_in (phase_other (Enters c call) events d other))
]
inside_is setting (Returns c ∷ events) run d = elim (cases_eq d c) [
  | inl same ↦ ap (λ k. k.inside) (put_same (after setting events).core c _ d same) ∙ sym (ap is_in (phase_own (Returns c) events d same))
  | inr other ↦ ap (λ k. k.inside) (put_other (after setting events).core c _ d other)
      ∙ inside_is setting events run.0 d ∙ sym (ap is_in (phase_other (Returns c) events d other))
]
inside_is setting (Decides c call r ∷ events) run d = elim (cases_eq d c) [
  | inl same ↦ (decided_stays (after setting events) c call r).inside d ∙ inside_is setting events run.0 d
      ∙ ap (λ n. is_in (phase_of events n)) same ∙ ap is_in run.1.is_open ∙ sym (ap is_in (phase_own (Decides c call r) events d same))
  | inr other ↦ (decided_stays (after setting events) c call r).inside d
      ∙ inside_is setting events run.0 d ∙ sym (ap is_in (phase_other (Decides c call r) events d other))
]

-- A core that is out enters.
enter_sound : (s : State) (o o' : ℕ → Bool) (c : ℕ) → c < s.limits.cores → ((x : Thing) → (s.grace x).waits c ≡ false)
    → ((d : ℕ) → d ≢ c → o' d ≡ true → o d ≡ true) → IsSound s o → IsSound (entered s c) o'
enter_sound s o o' c below calm others h = record {
  held = λ f i m p. let a : IsGood s m = h.held f i m p in record { fit = a.fit; within = a.within };
  waiting = λ f i m d p q w. elim (cases_eq d c) [
    | inl same ↦ absurd (false≢true (sym (calm (PlaceOf f i)) ∙ ap (λ n. (s.grace (PlaceOf f i)).waits n) (sym same) ∙ w))
    | inr other ↦ let a : IsGood s m × WaitsForAll s d (_) = h.waiting f i m d p (others d other q) w in
        (record { fit = a.0.fit; within = a.0.within }, waits_all s (entered s c) d (λ f w. w) _ a.1)
  ];
  objects = h.objects;
  cores = λ d m. put_all (λ d x. IsTrue (fits Kind.Thread (s.frame x.thread)) × IsTrue (fits Kind.Tcap (s.frame x.tcap))) s.core c _ d
      (λ same. h.cores c below) (λ other. h.cores d m);
  numbers = h.numbers;
  beyond = h.beyond;
  bare = h.bare;
  inside = λ d q. elim (cases_eq d c) [
    | inl same ↦ (ap (λ k. k.inside) (put_same s.core c _ d same), subst (λ n. n < s.limits.cores) (sym same) below)
    | inr other ↦ (ap (λ k. k.inside) (put_other s.core c _ d other) ∙ (h.inside d (others d other q)).0, (h.inside d (others d other q)).1)
  ];
}

-- A core whose call is not open returns.
return_sound : (s : State) (o o' : ℕ → Bool) (c : ℕ)
    → ((d : ℕ) → o' d ≡ true → (d ≢ c) × (o d ≡ true)) → IsSound s o → IsSound (returned s c) o'
return_sound s o o' c others h = record {
  held = λ f i m p. let a : IsGood s m = h.held f i m p in record { fit = a.fit; within = a.within };
  waiting = λ f i m d p q w.
      let b : (d ≢ c) × (o d ≡ true) = others d q in
      let a : IsGood s m × WaitsForAll s d (_) =
      h.waiting f i m d p b.1 (sym (put_other (s.grace (PlaceOf f i)).waits c false d b.0) ∙ w) in (
        record { fit = a.0.fit; within = a.0.within },
        waits_all s (returned s c) d (λ f w. put_other (s.grace (FrameOf f)).waits c false d b.0 ∙ w) _ a.1,
      );
  objects = h.objects;
  cores = λ d m. put_all (λ d x. IsTrue (fits Kind.Thread (s.frame x.thread)) × IsTrue (fits Kind.Tcap (s.frame x.tcap))) s.core c _ d
      (λ same. h.cores c (subst (λ n. n < s.limits.cores) same m)) (λ other. h.cores d m);
  numbers = h.numbers;
  beyond = h.beyond;
  bare = h.bare;
  inside = λ d q.
      let b : (d ≢ c) × (o d ≡ true) = others d q in
      (ap (λ k. k.inside) (put_other s.core c _ d b.0) ∙ (h.inside d b.1).0, (h.inside d b.1).1);
}

counted_sound : (s : State) (o : ℕ → Bool) (c : ℕ) → IsSound s o → IsSound (counted s c) o
counted_sound s o c h = core_keeps s o c _ refl refl refl h

owed_sound : (s : State) (o : ℕ → Bool) (c : ℕ) (call : Call) → IsSound s o → IsSound (owed_by s c call) o
owed_sound s o c (Tick n) h = core_keeps s o c _ refl refl refl h
owed_sound s o c _ h = h

shut : (s : State) (o : ℕ → Bool) (c : ℕ) → IsSound s o → IsSound s (put o c false)
shut s o c h = weaken s o (put o c false) (λ d q. elim (cases_eq d c) [
  | inl same ↦ absurd (false≢true (sym (put_same o c false d same) ∙ q))
  | inr other ↦ sym (put_other o c false d other) ∙ q
]) h

changed_sound : (s : State) (o : ℕ → Bool) (c : ℕ) (v : Value) (found : Judged Change)
    → IfFound found (Keeps s o c) → IsFoundAnd found (λ k. k.value ≡ v)
    → IsSound (changed s found) (put o c false)
changed_sound s o c v (Refused r) keeps ok = absurd ok
changed_sound s o c v (Found change) keeps ok = keeps

decided_sound : (s : State) (o : ℕ → Bool) (c : ℕ) (call : Call) (r : Reply) → IsOpen s o c → InLimits call → MayReply s c call r
    → IsSound (state_by s c call r) (put o c false)
decided_sound s o c call (Reply.Ok v) h lim may = counted_sound (changed s (change_of s c call)) (put o c false) c
    (changed_sound s o c v (change_of s c call) (outcome_from (Keeps s o c) s c (rule_of s c call) (rule_keeps s o c h call lim)) may.1.1)
decided_sound s o c call Reply.CallsSpent h lim may = shut s o c h.sound
decided_sound s o c call Reply.Raced h lim may =
    counted_sound (owed_by s c call) (put o c false) c (shut (owed_by s c call) o c (owed_sound s o c call h.sound))
decided_sound s o c call (Reply.Busy e) h lim may =
    counted_sound (owed_by s c call) (put o c false) c (shut (owed_by s c call) o c (owed_sound s o c call h.sound))
decided_sound s o c call _ h lim may = counted_sound s (put o c false) c (shut s o c h.sound)

nobody : (b : Bool) → (IsTrue b → ⊥) → b ≡ false
nobody true h = absurd (h refl)
nobody false h = refl

-- An open call is within its limits.
abbrev OpenWithin : Phase → Type 0
OpenWithin Out = Unit {0}
OpenWithin (Open call) = InLimits call
OpenWithin (Decided call r) = Unit {0}

open_within : (setting : Setting) (events : List Event) → IsRun setting events → (c : ℕ) → OpenWithin (phase_of events c)
open_within setting [] run c = tt
open_within setting (e ∷ events) run c = elim (cases_eq c (core_of e)) [
  | inl same ↦ subst OpenWithin (sym (phase_own e events c same)) (by_event e run.1)
  | inr other ↦ subst OpenWithin (sym (phase_other e events c other)) (open_within setting events run.0 c)
]
  where
    by_event : (e : Event) → MayFollow setting events e → OpenWithin (phase_by e)
    by_event (Enters d call) may = may.in_limits
    by_event _ may = tt

pub open_limits : (setting : Setting) (events : List Event) (c : ℕ) (call : Call)
    → IsRun setting events → phase_of events c ≡ Open call → InLimits call
open_limits setting events c call run is = subst OpenWithin is (open_within setting events run c)

pub runs_sound : (setting : Setting) → IsSetting setting → (events : List Event)
    → IsRun setting events → IsSound (after setting events) (opened events)
runs_sound setting lim [] run = start_sound setting lim
runs_sound setting lim (Enters c call ∷ events) run =
    enter_sound (after setting events) (opened events) (opened (Enters c call ∷ events)) c
    (subst (λ l. c < l.cores) (sym (limits_stay setting events)) run.1.is_core)
    (λ x. nobody (((after setting events).grace x).waits c) (λ w.
    false≢true (sym (inside_is setting events run.0 c ∙ ap is_in run.1.is_out) ∙ waits_inside setting events x c w)))
    (λ d other q. sym (ap is_open (phase_other (Enters c call) events d other)) ∙ q)
    (runs_sound setting lim events run.0)
runs_sound setting lim (Returns c ∷ events) run =
    return_sound (after setting events) (opened events) (opened (Returns c ∷ events)) c
    (λ d q. elim (cases_eq d c) [
      | inl same ↦ absurd (false≢true (sym (ap is_open (phase_own (Returns c) events d same)) ∙ q))
      | inr other ↦ (other, sym (ap is_open (phase_other (Returns c) events d other)) ∙ q)
    ])
    (runs_sound setting lim events run.0)
runs_sound setting lim (Decides c call r ∷ events) run =
    weaken (after setting (Decides c call r ∷ events)) (put (opened events) c false) (opened (Decides c call r ∷ events))
    (decided_opened events c call r)
    (decided_sound (after setting events) (opened events) c call r
    (record { sound = runs_sound setting lim events run.0; is = ap is_open run.1.is_open })
    (open_limits setting events c call run.0 run.1.is_open) run.1.permitted)

-- The state in which a core's call is open.
pub open_is : (setting : Setting) → IsSetting setting → (events : List Event) (c : ℕ)
    → IsRun setting events → IsTrue (is_open (phase_of events c))
    → IsOpen (after setting events) (opened events) c
open_is setting lim events c run is = record { sound = runs_sound setting lim events run; is = is }

pub capabilities_fit : CapabilitiesFit
capabilities_fit setting lim events run = record {
  held = (runs_sound setting lim events run).held;
  used = λ c at k is. usable_good (after setting events) (opened events) c at k (runs_sound setting lim events run) is;
}
