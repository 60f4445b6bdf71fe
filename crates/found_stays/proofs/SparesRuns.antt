-- In every state that a run reaches each core's thread runs on it; and each event spares what the other cores in calls rely on.
use Rattle.kernel_invariant.specs.kernel_rules.proofs as low
use low.{◌≡◌, ◌≢◌, inl, inr, ℕ, zero, suc, ◌+◌, ◌-◌, ◌<◌, arith, Bool, true, false, refl, sym, ◌∙◌, ap, subst, ◌==◌, cond, ltb as nat_lt}
use low.{IsTrue, List, [], ◌∷◌, false≢true, eq-eqb, ne_eqb, ltb-false, or_left, or_right, Setting, IsSetting, InLimits, Call, Tick, Reply}
use low.{Value, Core, Thing, PlaceOf, FrameOf, NumberOf, with_core, thread_in, Some, usable_in, start, times, core_names, node_refs, refs}
use low.{same_thing, new_grace, begun, entered, returned, is_live_in, is_dead_in, Change, Judged, Refused, Found, IsFoundAnd, rule_of}
use low.{change_of, changed, counted, owed_by, state_by, MayReply, Event, Enters, Decides, Returns, after, core_of, Out, is_in, is_open}
use low.{is_decided, phase_by, phase_of, IsRun, IfFound, put_same, put_other, IsGuarded}
use Rattle.kernel_invariant.proofs.{sum_same, times_cons, put_all, past_three, choose, inside_is, opened, open_limits, open_is, limits_stay}
use Rattle.kernel_invariant.proofs.{outcome_from, RefsBy, grace_refs}
use Rattle.found_stays.proofs.Spares.{RunsOn, HasTurn, Spares, SparesBy, spares_by, rule_spares}
use Rattle.{kernel_invariant.specs.kernel_rules.specs.released, kernel_invariant.specs.kernel_rules.specs.MayFollow}
use Rattle.{std.proofs.lemmas.Bool.cases_eq, std.specs.List.list_any, kernel_invariant.specs.kernel_rules.specs.State.State}
use Rattle.{kernel_invariant.proofs.Refs.rule_refs, found_stays.proofs.Apart.apart_same, found_stays.proofs.Apart.acts_more}

-- From s to t by core d, whose own fields change then, but for its thread.
spares_core : (s t : State) (o : ℕ → Bool) (d : ℕ) (k : Core)
    → k.thread ≡ (t.core d).thread → Spares s t o d → Spares s (with_core t d k) o d
spares_core s t o d k same a = record {
  core = λ c other. put_other t.core d k c other ∙ a.core c other;
  frame = a.frame;
  named = a.named;
  thread = a.thread;
  place = a.place;
  waits = a.waits;
  acts = a.acts;
  limits = a.limits;
  runs = ap (λ (x : Core). (thread_in (t.frame x.thread)).runs_on) (put_same t.core d k d refl)
      ∙ ap (λ n. (thread_in (t.frame n)).runs_on) same ∙ a.runs;
}

-- And what other cores in calls guard, they guard still.
pub record SparesAll (s t : State) (o : ℕ → Bool) (d : ℕ) : Type 0 where
  pub spares : Spares s t o d
  pub guarded : (c f : ℕ) → c ≢ d → o c ≡ true → IsGuarded s c f → IsGuarded t c f

-- A core that keeps its thread and temporal capability changes no reference.
pub core_same_refs : (s : State) (c : ℕ) (k : Core) → k.thread ≡ (s.core c).thread
    → k.tcap ≡ (s.core c).tcap → (f : ℕ) → refs (with_core s c k) f ≡ refs s f
unfolding refs node_refs
core_same_refs s c k thread tcap f =
    let a = sum_same (λ d. times f (core_names (s.core d)))
    (λ d. times f (core_names ((with_core s c k).core d))) s.limits.cores (λ d below.
    put_all (λ d x. times f (core_names x) ≡ times f (core_names (s.core d))) s.core c k d
    (λ same. ap (λ n. times f (n ∷ k.tcap ∷ [])) thread ∙ ap (λ n. times f ((s.core c).thread ∷ n ∷ [])) tcap
    ∙ ap (λ n. times f (core_names (s.core n))) (sym same))
    (λ other. refl)) in
    omega (arith, a)

-- Where the references to frames stay, and those who wait for them wait, what is guarded stays so.
same_guarded : (s t : State) (o : ℕ → Bool) (d : ℕ) → ((f : ℕ) → refs t f ≡ refs s f) → Spares s t o d
    → (c f : ℕ) → c ≢ d → o c ≡ true → IsGuarded s c f → IsGuarded t c f
same_guarded s t o d same spares c f other q (inl some) = inl (let r = same f in omega (arith, some, r))
same_guarded s t o d same spares c f other q (inr w) = inr (spares.waits c f other q w)

-- A frame to which a reference is released is among the things whose grace periods begin.
pub among : (f : ℕ) (things : List Thing) → 0 < times f (released things) → list_any (same_thing (FrameOf f)) things ≡ true
among f [] some = absurd (omega (arith, some))
among f (PlaceOf g i ∷ things) some = among f things some
among f (NumberOf l ∷ things) some = among f things some
among f (FrameOf g ∷ things) some = elim (cases_eq f g) [
  | inl same ↦ or_left (f == g) (list_any (same_thing (FrameOf f)) things) (eq-eqb f g same)
  | inr other ↦
      let p = times_cons f g (released things) in
      let z : ℕ = 0 in
      let q : cond (g == f) 1 0 ≡ z = ap (λ t. cond t 1 0) (ne_eqb g f (λ e. other (sym e))) in
      or_right (f == g) (list_any (same_thing (FrameOf f)) things) (among f things (omega (arith, some, p, q)))
]

begun_guarded : (s : State) (o : ℕ → Bool) (d : ℕ) (change : Change)
    → ((c : ℕ) → o c ≡ true → IsTrue (s.core c).inside) → RefsBy s change → SparesBy s o d change
    → (c f : ℕ) → c ≢ d → o c ≡ true → IsGuarded s c f → IsGuarded (begun s change.begins change.next) c f
begun_guarded s o d change inside by spares c f other q (inr w) = inr (spares.waits c f other q w)
begun_guarded s o d change inside by spares c f other q (inl some) = by_refs (refs (begun s change.begins change.next) f) refl
  where
    by_refs : (n : ℕ) → refs (begun s change.begins change.next) f ≡ n → IsGuarded (begun s change.begins change.next) c f
    by_refs (suc n) is = inl (omega (arith, is))
    by_refs zero is =
        let a = grace_refs change.next (begun s change.begins change.next).grace f in
        let b = by f in
        let at : list_any (same_thing (FrameOf f)) change.begins ≡ true = among f change.begins (omega (arith, some, is, a, b)) in
        inr (ap (λ b. (cond b (new_grace s (FrameOf f)) (change.next.grace (FrameOf f))).waits c) at ∙ inside c q)

-- A decision.
owed_spares : (s : State) (o : ℕ → Bool) (d : ℕ) (call : Call) → RunsOn s d → SparesAll s (owed_by s d call) o d
owed_spares s o d (Tick n) runs = record {
  spares = spares_core s s o d _ refl (spares_by s s o d (apart_same s o d) runs);
  guarded = same_guarded s _ o d (core_same_refs s d _ refl refl) (spares_core s s o d _ refl (spares_by s s o d (apart_same s o d) runs));
}
owed_spares s o d _ runs = record { spares = spares_by s s o d (apart_same s o d) runs; guarded = λ c f other q guarded. guarded }

counted_spares : (s t : State) (o : ℕ → Bool) (d : ℕ) → SparesAll s t o d → SparesAll s (counted t d) o d
counted_spares s t o d a = record {
  spares = spares_core s t o d _ refl a.spares;
  guarded = λ c f other q guarded. same_guarded t (counted t d) o d (core_same_refs t d _ refl refl)
      (spares_core t t o d _ refl (spares_by t t o d (apart_same t o d) a.spares.runs)) c f other q (a.guarded c f other q guarded);
}

changed_spares : (s : State) (o : ℕ → Bool) (d : ℕ) (v : Value) (found : Judged Change) → ((c : ℕ) → o c ≡ true → IsTrue (s.core c).inside)
    → IfFound found (SparesBy s o d) → IfFound found (RefsBy s) → IsFoundAnd found (λ k. k.value ≡ v) → SparesAll s (changed s found) o d
changed_spares s o d v (Refused r) inside spares by ok = absurd ok
changed_spares s o d v (Found change) inside spares by ok =
    record { spares = spares; guarded = begun_guarded s o d change inside by spares }

pub decided_spares : (s : State) (o : ℕ → Bool) (d : ℕ) (call : Call) (r : Reply) → HasTurn s o d → InLimits call → MayReply s d call r
    → SparesAll s (state_by s d call r) o d
decided_spares s o d call r h lim may = by_reply r may
  where
    runs : RunsOn s d
    runs = h.runs d (h.opens.sound.inside d h.opens.is).1

    same : SparesAll s s o d
    same = record { spares = spares_by s s o d (apart_same s o d) runs; guarded = λ c f other q guarded. guarded }

    by_reply : (r : Reply) → MayReply s d call r → SparesAll s (state_by s d call r) o d
    by_reply (Reply.Ok v) may = counted_spares s (changed s (change_of s d call)) o d
        (changed_spares s o d v (change_of s d call) (λ c q. (h.inside c q).0)
        (outcome_from (SparesBy s o d) s d (rule_of s d call) (rule_spares s o d h call))
        (outcome_from (RefsBy s) s d (rule_of s d call) (rule_refs s h.opened d h.opens call lim)) may.1.1)
    by_reply Reply.CallsSpent may = same
    by_reply Reply.Raced may = counted_spares s (owed_by s d call) o d (owed_spares s o d call runs)
    by_reply (Reply.Busy e) may = counted_spares s (owed_by s d call) o d (owed_spares s o d call runs)
    by_reply _ may = counted_spares s s o d same

-- An entry and a return.
pub entered_spares : (s : State) (o : ℕ → Bool) (d : ℕ) → RunsOn s d → SparesAll s (entered s d) o d
entered_spares s o d runs =
    let spares : Spares s (entered s d) o d = spares_core s s o d _ refl (spares_by s s o d (apart_same s o d) runs) in
    record { spares = spares; guarded = same_guarded s (entered s d) o d (core_same_refs s d _ refl refl) spares }

pub returned_spares : (s : State) (o : ℕ → Bool) (d : ℕ) → RunsOn s d → SparesAll s (returned s d) o d
returned_spares s o d runs = record { spares = spares; guarded = same_guarded s (returned s d) o d same spares }
  where
    spares : Spares s (returned s d) o d
    spares = record {
      core = λ c other. put_other s.core d _ c other;
      frame = λ c f other q fixed guarded. refl;
      named = λ f fixed some. refl;
      thread = λ c other below. refl;
      place = λ c f i k other q node had. ap (usable_in (s.place f i)) (put_other (s.grace (PlaceOf f i)).waits d false c other) ∙ had;
      waits = λ c f other q w. put_other (s.grace (FrameOf f)).waits d false c other ∙ w;
      acts = λ c l e other q may. acts_more (is_live_in (s.number l) e) (is_dead_in (s.number l) e) ((s.grace (NumberOf l)).waits c) _
          (λ w. put_other (s.grace (NumberOf l)).waits d false c other ∙ w) may;
      limits = refl;
      runs = ap (λ (x : Core). (thread_in (s.frame x.thread)).runs_on) (put_same s.core d _ d refl) ∙ runs;
    }

    same : (f : ℕ) → refs (returned s d) f ≡ refs s f
    same f =
        let a = grace_refs (with_core s d (record (s.core d) { inside = false })) (returned s d).grace f in
        let b = core_same_refs s d (record (s.core d) { inside = false }) refl refl f in
        omega (arith, a, b)

-- Each core's thread runs on it.
start_runs : (setting : Setting) (c : ℕ) → c < setting.cores → RunsOn (start setting) c
start_runs setting c below =
    ap (λ x. (thread_in x).runs_on) (past_three setting (4 + c) (omega arith))
    ∙ choose (λ x. (thread_in x).runs_on ≡ Some c) (nat_lt (4 + c) (4 + setting.cores)) _ _
    (λ e. (let p : (4 + c) - 4 ≡ c = omega arith in ap Some p))
    (λ e. absurd (let p = ltb-false (4 + c) (4 + setting.cores) e in omega (arith, p, below)))

runs_on : (s t : State) (o : ℕ → Bool) (d : ℕ) → SparesAll s t o d
    → ((c : ℕ) → c < s.limits.cores → RunsOn s c) → (c : ℕ) → c < t.limits.cores → RunsOn t c
runs_on s t o d all runs c below = elim (cases_eq c d) [
  | inl same ↦ subst (RunsOn t) (sym same) all.spares.runs
  | inr other ↦
      let less : c < s.limits.cores = subst (λ l. c < l.cores) all.spares.limits below in
      ap (λ (x : Core). (thread_in (t.frame x.thread)).runs_on) (all.spares.core c other)
      ∙ ap (λ x. (thread_in x).runs_on) (all.spares.thread c other less) ∙ runs c less
]

-- A core that is not out is one of the machine.
pub in_machine : (setting : Setting) (events : List Event) (c : ℕ) → IsRun setting events → phase_of events c ≢ Out → c < setting.cores
in_machine setting [] c run in_call = absurd (in_call refl)
in_machine setting (e ∷ events) c run in_call = elim (cases_eq c (core_of e)) [
  | inl same ↦ subst (λ d. d < setting.cores) (sym same) (of_event (λ d. in_machine setting events d run.0) e run.1)
  | inr other ↦ in_machine setting events c run.0 (λ out. in_call (phase_apart other ∙ out))
]
  where
    phase_apart : c ≢ core_of e → phase_of (e ∷ events) c ≡ phase_of events c
    phase_apart other = ap (λ b. cond b (phase_by e) (phase_of events c)) (ne_eqb c (core_of e) other)

    of_event : ((d : ℕ) → phase_of events d ≢ Out → d < setting.cores)
        → (e : Event) → MayFollow setting events e → core_of e < setting.cores
    of_event before (Enters d call) may = may.is_core
    of_event before (Decides d call r) may = before d (λ out. false≢true (ap is_open (sym out ∙ may.is_open)))
    of_event before (Returns d) may = before d (λ out. false≢true (sym (ap is_decided out) ∙ may))

-- The cores that are in a call.
abbrev pub inside_of : List Event → ℕ → Bool
inside_of events c = is_in (phase_of events c)

pub inside_facts : (setting : Setting) (events : List Event) → IsRun setting events → (c : ℕ) → inside_of events c ≡ true
    → IsTrue ((after setting events).core c).inside × (c < (after setting events).limits.cores)
inside_facts setting events run c q = (
  inside_is setting events run c ∙ q,
  subst (λ l. c < l.cores) (sym (limits_stay setting events))
      (in_machine setting events c run (λ out. false≢true (sym (ap is_in out) ∙ q))),
)

-- An event of a run, where each core's thread runs on it, spares what other cores in calls rely on.
by_event : (setting : Setting) → IsSetting setting → (e : Event) (events : List Event) → IsRun setting (e ∷ events)
    → ((c : ℕ) → c < (after setting events).limits.cores → RunsOn (after setting events) c)
    → SparesAll (after setting events) (after setting (e ∷ events)) (inside_of events) (core_of e)
by_event setting lim (Enters d call) events run runs =
    entered_spares (after setting events) (inside_of events) d
    (runs d (subst (λ l. d < l.cores) (sym (limits_stay setting events)) run.1.is_core))
by_event setting lim (Returns d) events run runs =
    returned_spares (after setting events) (inside_of events) d (runs d (subst (λ l. d < l.cores) (sym (limits_stay setting events))
    (in_machine setting events d run.0 (λ out. false≢true (sym (ap is_decided out) ∙ run.1)))))
by_event setting lim (Decides d call r) events run runs =
    decided_spares (after setting events) (inside_of events) d call r
    (record {
      opened = opened events;
      opens = open_is setting lim events d run.0 (ap is_open run.1.is_open);
      inside = inside_facts setting events run.0;
      runs = runs;
    })
    (open_limits setting events d call run.0 run.1.is_open) run.1.permitted

pub runs_of : (setting : Setting) → IsSetting setting → (events : List Event) → IsRun setting events
    → (c : ℕ) → c < (after setting events).limits.cores → RunsOn (after setting events) c
runs_of setting lim [] run c below = start_runs setting c below
runs_of setting lim (e ∷ events) run c below =
    runs_on (after setting events) (after setting (e ∷ events)) (inside_of events) (core_of e)
    (by_event setting lim e events run (runs_of setting lim events run.0)) (runs_of setting lim events run.0) c below

pub event_spares : (setting : Setting) → IsSetting setting → (e : Event) (events : List Event) → IsRun setting (e ∷ events)
    → SparesAll (after setting events) (after setting (e ∷ events)) (inside_of events) (core_of e)
event_spares setting lim e events run = by_event setting lim e events run (runs_of setting lim events run.0)
