-- The laws of legal traces.
use Rattle.kernel_history.specs.{◌≡◌, ◌≢◌, ℕ, ◌+◌, ◌==◌, ◌&&◌, ◌++◌, cond, Bool, true, false, List, [], ◌∷◌, length, Option, Some, None}
use Rattle.kernel_history.specs.{refl, IsTrue, is_some, option_to_list, Call, Reply, Setting, Word, word_of, left_of, after, phase_of}
use Rattle.kernel_history.specs.{rule_of, Step, Phase, Out, Decided, phase, after_enter, after_decide, after_return, state_after}
use Rattle.kernel_history.specs.{state_before, calls_of, last_left, own_left, reads, own_read, is_in, MayEnter, MayDecide, MayReturn}
use Rattle.kernel_history.specs.{MayFollow, UnlessEnters, IsUndisturbed, IsAlone}
use Rattle.kernel_rules.proofs.{inl, inr, arith, sym, ◌∙◌, ap, subst, eq-eqb, ne_eqb, eqb-true, false≢true, length-append}
use Rattle.kernel_history.specs.Laws.{LegalRuns, EventsDetermine, LegalUpTo, returned_calls, OneCallAtATime, IsNotHeldUp, AloneGoesOn}
use Rattle.kernel_history.proofs.{Names.cases_word, Steps.phase-own, Steps.phase-other, Steps.calls_of-own, Steps.calls_of-other}
use Rattle.kernel_history.proofs.{Steps.own_left-here, Steps.own_left-there, Steps.own_left-other, Steps.own_read-here}
use Rattle.kernel_history.proofs.{Steps.own_read-there, Steps.own_read-other, Steps.last_left-here, Steps.last_left-there, Events.state_is}
use Rattle.kernel_history.proofs.{Events.phase_is, Events.run_of, Events.plain_inj, Inside.inside_is, Inside.entered-inside}
use Rattle.{std.proofs.lemmas.Bool.cases_eq, kernel_history.specs.Trace.Trace, kernel_history.specs.Trace.Open}
use Rattle.{kernel_history.specs.Justified.IsJustifiedIn, kernel_history.specs.Justified.own_read_before}

pub legal_runs : LegalRuns
legal_runs setup t legal = record { run = run_of setup t legal; state = state_is setup t }

pub events_determine : EventsDetermine
events_determine setup t u same = record {
  state = state_is setup t ∙ ap (after setup) same ∙ sym (state_is setup u);
  phases = λ c. plain_inj (phase t c) (phase u c) (sym (phase_is t c) ∙ ap (λ events. phase_of events c) same ∙ phase_is u c);
}

pub legal_up_to : LegalUpTo
legal_up_to setup [] t legal = legal
legal_up_to setup (e ∷ u) t legal = legal_up_to setup u t legal.0

-- calls and returns

abbrev one_in : Phase → ℕ
one_in p = cond (is_in p) 1 0

entry_count : (o : Option Call) (p : Phase) (calls : List Call) (n : ℕ) → MayEnter o p → length calls ≡ n + one_in p
    → length (calls ++ option_to_list o) ≡ n + one_in (after_enter o p)
entry_count None p calls n may is = let a = length-append calls [] in omega (arith, a, is)
entry_count (Some call) p calls n may is =
    let a = length-append calls (call ∷ []) in
    let z : ℕ = 0 in
    let out : one_in p ≡ z = ap one_in may.0 in
    omega (arith, a, is, out)

decision_count : (o : Option Reply) (p : Phase) → one_in (after_decide o p) ≡ one_in p
decision_count None p = refl
decision_count (Some r) Out = refl
decision_count (Some r) (Open call) = refl
decision_count (Some r) (Decided call q) = refl

return_count : (o : Option Reply) (p : Phase) (m n : ℕ) → MayReturn o p → m ≡ n + one_in p
    → m ≡ cond (is_some o) (n + 1) n + one_in (after_return o p)
return_count None p m n may is = is
return_count (Some r) p m n may is =
    let z : ℕ = 1 in
    let inside : one_in p ≡ z = ap one_in may.was_decided in
    omega (arith, is, inside)

abbrev Counts : Trace → ℕ → Type 0
Counts t c = length (calls_of t c) ≡ returned_calls t c + one_in (phase t c)

own_count : (setup : Setting) (t : Trace) (e : Step) → MayFollow setup t e → Counts t e.core → Counts (e ∷ t) e.core
own_count setup t e follows before =
    let p : Phase = after_enter e.enters (phase t e.core) in
    let entry : length (calls_of t e.core ++ option_to_list e.enters) ≡ returned_calls t e.core + one_in p =
    entry_count e.enters (phase t e.core) (calls_of t e.core) (returned_calls t e.core) follows.enters before in
    ap length (calls_of-own e.core e t refl)
    ∙ return_count e.returns (after_decide e.decides p)
    (length (calls_of t e.core ++ option_to_list e.enters)) (returned_calls t e.core) follows.returns
    (entry ∙ ap (λ k. returned_calls t e.core + k) (sym (decision_count e.decides p)))
    ∙ ap (λ n. n + one_in (after_return e.returns (after_decide e.decides p)))
    (sym (ap (λ b. cond (b && is_some e.returns) (returned_calls t e.core + 1) (returned_calls t e.core)) (eq-eqb e.core e.core refl)))
    ∙ ap (λ q. returned_calls (e ∷ t) e.core + one_in q) (sym (phase-own e.core e t refl))

pub one_call_at_a_time : OneCallAtATime
one_call_at_a_time setup [] legal c = refl
one_call_at_a_time setup (e ∷ t) legal c = elim (cases_eq c e.core) [
  | inl own ↦ subst (λ (d : ℕ). Counts (e ∷ t) d) (sym own) (own_count setup t e legal.1 (one_call_at_a_time setup t legal.0 e.core))
  | inr other ↦
      ap length (calls_of-other c e t other) ∙ one_call_at_a_time setup t legal.0 c
      ∙ ap (λ n. n + one_in (phase t c))
      (sym (ap (λ b. cond (b && is_some e.returns) (returned_calls t c + 1) (returned_calls t c)) (ne_eqb c e.core other)))
      ∙ ap (λ p. returned_calls (e ∷ t) c + one_in p) (sym (phase-other c e t other))
]

-- a call that is alone

-- What a core's call left in a word is what the word has, while the core alone has stepped since.
pub own_is_last : (setup : Setting) (t : Trace) (c : ℕ) (w : Word) (v : ℕ)
    → IsUndisturbed t c → own_left t c w ≡ Some v → last_left setup t w ≡ v
own_is_last setup [] c w v alone own = absurd (cc)
own_is_last setup (e ∷ t) c w v alone own = elim (cases_word w (word_of e.move)) [
  | inl here ↦ last_left-here setup w e t here ∙ some_inj (left_of e.move e.found) v (sym (own_left-here c e t (sym alone.0) w here) ∙ own)
  | inr there ↦ last_left-there setup w e t there
      ∙ by_entry e.enters alone.1 (sym (own_left-there c e t (sym alone.0) w there) ∙ own) (own_is_last setup t c w v)
]
  where
    some_inj : (a b : ℕ) → Some a ≡ Some b → a ≡ b
    some_inj a b same = cc

    none_some : None ≡ Some v → ⊥
    none_some q = cc

    by_entry : (o : Option Call) → UnlessEnters o (IsUndisturbed t c) → cond (is_some o) None (own_left t c w) ≡ Some v
        → (IsUndisturbed t c → own_left t c w ≡ Some v → last_left setup t w ≡ v) → last_left setup t w ≡ v
    by_entry None alone own before = before alone own
    by_entry (Some call) alone own before = absurd (none_some own)

-- What a core's call read last in a word, and left as found, is what it left there.
pub read_is_left : (t : Trace) (c : ℕ) (w : Word) (v : ℕ) → own_read t c w ≡ Some v → own_left t c w ≡ Some v
read_is_left [] c w v has = absurd (cc)
read_is_left (e ∷ t) c w v has = elim (cases_eq c e.core) [
  | inr other ↦ own_left-other c e t other w ∙ read_is_left t c w v (sym (own_read-other c e t other w) ∙ has)
  | inl own ↦ elim (cases_word w (word_of e.move)) [
    | inl here ↦ own_left-here c e t own w here
        ∙ by_reads (reads e.move) (left_of e.move e.found == e.found) refl (sym (own_read-here c e t own w here) ∙ has)
    | inr there ↦ own_left-there c e t own w there ∙ by_entry e.enters (sym (own_read-there c e t own w there) ∙ has) (read_is_left t c w v)
  ]
]
  where
    none_some : None ≡ Some v → ⊥
    none_some q = cc

    by_reads : (r b : Bool) → (left_of e.move e.found == e.found) ≡ b
        → cond (r && b) (Some e.found) None ≡ Some v → Some (left_of e.move e.found) ≡ Some v
    by_reads true true same has = ap (λ (n : ℕ). Some n) (eqb-true (left_of e.move e.found) e.found same) ∙ has
    by_reads true false same has = absurd (none_some has)
    by_reads false b same has = absurd (none_some has)

    by_entry : (o : Option Call) → cond (is_some o) None (own_read t c w) ≡ Some v → (own_read t c w ≡ Some v → own_left t c w ≡ Some v)
        → cond (is_some o) None (own_left t c w) ≡ Some v
    by_entry None has before = before has
    by_entry (Some call) has before = absurd (none_some has)

-- A call that is alone is held up by no core, and loses no race.
module _ (setup : Setting) (t : Trace) (e : Step) (found : e.found ≡ last_left setup t (word_of e.move)) (alone : IsAlone t e) where
  pub not_inside : (d : ℕ) → d ≢ e.core → IsTrue ((state_before setup t e).core d).inside → ⊥
  not_inside d other inside =
      false≢true (sym (entered-inside e.enters (state_after setup t) e.core d
      other ∙ inside_is setup t d ∙ ap is_in (alone.others_out d other)) ∙ inside)

  pub not_changed : (own : ℕ) → own_read_before t e ≡ Some own → e.found ≢ own → ⊥
  not_changed own was changed = by_entry e.enters refl alone.undisturbed was
    where
      none_some : None ≡ Some own → ⊥
      none_some q = cc

      by_entry : (o : Option Call) → e.enters ≡ o → UnlessEnters o (IsUndisturbed t e.core)
          → cond (is_some o) None (own_read t e.core (word_of e.move)) ≡ Some own → ⊥
      by_entry None is undisturbed was =
          changed (found ∙ own_is_last setup t e.core (word_of e.move) own undisturbed (read_is_left t e.core (word_of e.move) own was))
      by_entry (Some call) is undisturbed was = none_some was

  calm : (r : Reply) (call : Call) → IsJustifiedIn setup t e (state_before setup t e) (rule_of (state_before setup t e) e.core call) r
      → IsNotHeldUp (Some r)
  calm Reply.Raced call lost = not_changed lost.own lost.has_read lost.changed
  calm (Reply.Busy d) call held = not_inside d held.other held.is_inside
  calm (Reply.Quiescing d) call waits = not_inside d waits.may_wait.other waits.may_wait.is_inside
  calm _ call justified = tt

  decides_calm : (o : Option Reply) (p : Phase) → MayDecide setup t e o p → IsNotHeldUp o
  decides_calm None p may = tt
  decides_calm (Some r) p may = calm r may.call may.justified

pub alone_goes_on : AloneGoesOn
alone_goes_on setup t e legal alone =
    decides_calm setup t e legal.1.found alone e.decides (after_enter e.enters (phase t e.core)) legal.1.decides
