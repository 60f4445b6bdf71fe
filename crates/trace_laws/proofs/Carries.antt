-- What a call knows of the history it still knows after a step of another core, and after an own step without event.
use Rattle.boot_words.specs.kernel_history.proofs as low
use low.{◌≡◌, ◌≢◌, inl, inr, ℕ, ◌<◌, ◌≤◌, ◌==◌, ◌&&◌, Bool, true, false, cond, sym, ◌∙◌, ap, subst, ◌∷◌, None, IsSome, is_some, true≢false}
use low.{eq-eqb, ne_eqb, Setting, IsSetting, Call, Word, word_of, Thing, PlaceOf, NumberOf, State, Dead, Step, phase, state_after}
use low.{state_entered, own_left, IfNot, WasAt, is_in, stamp, clock, IsRemoved, MayFollow, IsLegal, cases_word, own_left-here, inside_is}
use Rattle.boot_words.specs.kernel_history.specs.Trace.{Trace, Open, WasBefore}
use Rattle.trace_laws.proofs.Stays.{Stays, ReliesOn, stays_other, stays_plain}
use Rattle.trace_laws.proofs.Waiting.{Passed, Flushed, still_past, stamp_rises, passed_on, flushed_on, node_goes_on, number_goes_on}
use low.{GraceIs, KeepsTime, Steps.own_left-there, Steps.own_left-other}
use Rattle.{std.proofs.lemmas.Bool.cases_eq}

-- own words

-- A word on which the call has stepped is still such.
pub own_stays : (c : ℕ) (e : Step) (t : Trace) → (c ≡ e.core → e.enters ≡ None)
    → (w : Word) → IsSome (own_left t c w) → IsSome (own_left (e ∷ t) c w)
own_stays c e t no_entry w had = elim (cases_eq c e.core) [
  | inr other ↦ ap is_some (own_left-other c e t other w) ∙ had
  | inl own ↦ elim (cases_word w (word_of e.move)) [
    | inl here ↦ ap is_some (own_left-here c e t own w here)
    | inr there ↦ ap is_some (own_left-there c e t own w there ∙ ap (λ o. cond (is_some o) None (own_left t c w)) (no_entry own)) ∙ had
  ]
]

-- And what it left there stands while the call makes no step on that word.
pub own_apart : (c : ℕ) (e : Step) (t : Trace) → c ≡ e.core → e.enters ≡ None
    → (w : Word) → w ≢ word_of e.move → own_left (e ∷ t) c w ≡ own_left t c w
own_apart c e t own no_entry w there = own_left-there c e t own w there ∙ ap (λ o. cond (is_some o) None (own_left t c w)) no_entry

-- moments of a call

if_not : (b : Bool) (Said : Type 0) → b ≡ false → Said → IfNot b Said
if_not true Said is said = absurd (true≢false is)
if_not false Said is said = said

no_own_entry : (c : ℕ) (e : Step) → (c ≡ e.core → e.enters ≡ None) → (c == e.core && is_some e.enters) ≡ false
no_own_entry c e no_entry = elim (cases_eq c e.core) [
  | inl own ↦ ap (λ b. b && is_some e.enters) (eq-eqb c e.core own) ∙ ap is_some (no_entry own)
  | inr other ↦ ap (λ b. b && is_some e.enters) (ne_eqb c e.core other)
]

-- What was at a moment of the call was so after a further step.
pub was_stays : (P : State → Type 0) (setup : Setting) (t : Trace) (e : Step) (c : ℕ)
    → (c ≡ e.core → e.enters ≡ None) → WasAt P setup t c → WasAt P setup (e ∷ t) c
was_stays P setup t e c no_entry was = inr (if_not (c == e.core && is_some e.enters) (WasAt P setup t c) (no_own_entry c e no_entry) was)

-- What is after a step of the call is at a moment of it.
pub was_now : (P : State → Type 0) (setup : Setting) (t : Trace) (e : Step) (c : ℕ)
    → P (state_after setup (e ∷ t)) → WasAt P setup (e ∷ t) c
was_now P setup t e c now = inl now

-- What was at a moment of the call was so before a further own step; and so is what is before that step.
pub was_before : (P : State → Type 0) (setup : Setting) (t : Trace) (e : Step)
    → e.enters ≡ None → WasAt P setup t e.core → WasBefore P setup t e
was_before P setup t e no_entry was = inr (if_not (is_some e.enters) (WasAt P setup t e.core) (ap is_some no_entry) was)

pub was_at_once : (P : State → Type 0) (setup : Setting) (t : Trace) (e : Step)
    → e.enters ≡ None → P (state_after setup t) → WasBefore P setup t e
was_at_once P setup t e no_entry now = inl (subst (λ o. P (state_entered o (state_after setup t) e.core)) (sym no_entry) now)

-- A liveness number is dead in this epoch.
abbrev pub IsDeadIn : ℕ → ℕ → State → Type 0
IsDeadIn l d s = s.number l ≡ Dead d

-- What core c, in an open call, knows after t it knows after e too.
pub record Carries (setup : Setting) (t : Trace) (e : Step) (c : ℕ) : Type 0 where
  -- the words on which its call has stepped
  pub own : (w : Word) → IsSome (own_left t c w) → IsSome (own_left (e ∷ t) c w)
  -- what it has found, and relies on
  pub stays : Stays setup t e c
  -- that a thing was removed at a moment of its call
  pub was_removed : (x : Thing) → WasAt (IsRemoved x) setup t c → WasAt (IsRemoved x) setup (e ∷ t) c
  -- and that a liveness number was dead in an epoch
  pub was_dead : (l d : ℕ) → WasAt (IsDeadIn l d) setup t c → WasAt (IsDeadIn l d) setup (e ∷ t) c
  -- stamps that are past; those of the places of a node on which it relies, and of liveness numbers, only rise
  pub past : (s : ℕ) → s < clock setup t → s < clock setup (e ∷ t)
  pub place_rises : (f i : ℕ) → ReliesOn setup t c f → stamp setup t (PlaceOf f i) ≤ stamp setup (e ∷ t) (PlaceOf f i)
  pub number_rises : (l : ℕ) → stamp setup t (NumberOf l) ≤ stamp setup (e ∷ t) (NumberOf l)
  -- whom a scan for a past stamp has passed
  pub passed : (x : Thing) (s d : ℕ) → s < clock setup t → Passed setup t x s d → Passed setup (e ∷ t) x s d
  pub flushed : (x : Thing) (s d : ℕ) → s < clock setup t → Flushed setup t x s d → Flushed setup (e ∷ t) x s d

carries_by : (setup : Setting) → IsSetting setup → (t : Trace) → IsLegal setup t
    → (e : Step) → MayFollow setup t e → KeepsTime setup t e → ((x : Thing) → GraceIs setup t x)
    → (c : ℕ) → (c ≡ e.core → e.enters ≡ None) → Stays setup t e c → Carries setup t e c
carries_by setup lim t legal e follows time graces c no_entry stays = record {
  own = own_stays c e t no_entry;
  stays = stays;
  was_removed = λ x. was_stays (IsRemoved x) setup t e c no_entry;
  was_dead = λ l d. was_stays (IsDeadIn l d) setup t e c no_entry;
  past = still_past setup t e follows time graces;
  place_rises = λ f i relies. stamp_rises setup t e follows time graces
      (PlaceOf f i) (node_goes_on setup lim t legal e follows f i relies.node);
  number_rises = λ l. stamp_rises setup t e follows time graces (NumberOf l) (number_goes_on setup lim t legal e follows l);
  passed = passed_on setup t e follows time graces;
  flushed = flushed_on setup t e follows time graces;
}

-- After a step of another core.
pub carries_other : (setup : Setting) → IsSetting setup → (t : Trace)
    → IsLegal setup t → (e : Step) → MayFollow setup t e → KeepsTime setup t e
    → ((x : Thing) → GraceIs setup t x) → (c : ℕ) → c ≢ e.core → (call : Call) → phase t c ≡ Open call → Carries setup t e c
carries_other setup lim t legal e follows time graces c other call is =
    carries_by setup lim t legal e follows time graces c (λ own. absurd (other own))
    (stays_other setup lim t legal e follows c other call is)

-- After an own step without event.
pub carries_own : (setup : Setting) → IsSetting setup → (t : Trace) → IsLegal setup t
    → (e : Step) → MayFollow setup t e → KeepsTime setup t e → ((x : Thing) → GraceIs setup t x)
    → e.enters ≡ None → e.decides ≡ None → e.returns ≡ None → Carries setup t e e.core
carries_own setup lim t legal e follows time graces no_entry no_decision no_return =
    carries_by setup lim t legal e follows time graces e.core (λ own. no_entry)
    (stays_plain setup t e e.core no_entry no_decision no_return)

-- A core in a call is inside.
pub open_inside : (setup : Setting) (t : Trace) (c : ℕ) (call : Call) → phase t c ≡ Open call → ((state_after setup t).core c).inside ≡ true
open_inside setup t c call is = inside_is setup t c ∙ ap is_in is
