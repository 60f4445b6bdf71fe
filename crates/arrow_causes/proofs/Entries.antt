-- While a core is in a call, the newest change of its word is the entry of that call.
use Rattle.flight_laws.specs.flight.specs.kept_facts.proofs as low
use low.{◌≡◌, ◌≢◌, inl, inr, ℕ, suc, ◌==◌, ◌&&◌, not, cond, Bool, true, false, [], ◌∷◌, length, Option, Some, None, refl, sym, ◌∙◌, ap}
use low.{subst, is_some, eq-eqb, ne_eqb, eqb-true, true≢false, Setting, IsSetting, Call, Reply, core_of_word, Word, CoreAt, same_word, Move}
use low.{LoadOf, CompareOf, StoreOf, AddOf, word_of, left_of, State, MayEnter, MayFollow, is_in, exit_of, Step, Trace, Phase, Out, Open}
use low.{phase, after_enter, after_decide, after_return, state_after, last_left, inside_is, cases_word, same_word-other, phase-own}
use low.{phase-other, last_left-here, last_left-there, Invariant}
use Rattle.flight_laws.specs.trace_laws.specs.kernel_history.specs.{CoreWord, MayMove, exit_after, clock_seen, Decided}
use Rattle.flight_laws.specs.flight.specs.{cores_after, IsMade}
use Rattle.arrow_laws.specs.{changes, entered_at}
use Rattle.arrow_causes.proofs.Holders.{IsHolders, changes_parts, by_this, by_earlier, this_before, earlier_before}
use Rattle.{std.proofs.lemmas.Bool.cases_eq, wait_steps.specs.call_stages.specs.frame_words.specs.Core.word_of_core}
use Rattle.{wait_steps.specs.call_stages.specs.frame_words.proofs.CoreLemmas.spelling}
use Rattle.{flight_laws.specs.trace_laws.specs.kernel_history.proofs.Names.same_word-same, flight_laws.specs.flight.proofs.Made.made_stands}
use Rattle.{arrow_laws.proofs.Calls.entered_own}

-- The newest change of core d's word is the entry of its call.
pub record IsEntry (t : Trace) (d : ℕ) : Type 0 where
  pub holds : IsHolders t (CoreAt d) d
  pub entry : suc (length holds.before) ≡ entered_at t d

-- The word of core d shows whether it is in a call, and its last exit.
abbrev shown : Setting → Trace → ℕ → CoreWord
shown setup t d = record { inside = ((state_after setup t).core d).inside; stamp = exit_of t d }

core_shows : (setup : Setting) → IsSetting setup → (t : Trace) → IsMade setup t → (d : ℕ)
    → core_of_word (last_left setup t (CoreAt d)) ≡ Some (shown setup t d)
core_shows setup setting t made d = (made_stands setup setting t made).words (CoreAt d)

in_phase : (p : Phase) → p ≢ Out → is_in p ≡ true
in_phase Out h = absurd (h refl)
in_phase (Open call) h = refl
in_phase (Decided call r) h = refl

shows_in : (setup : Setting) (t : Trace) (d : ℕ) → phase t d ≢ Out → (shown setup t d).inside ≡ true
shows_in setup t d inside = inside_is setup t d ∙ in_phase (phase t d) inside

shows_out : (setup : Setting) (t : Trace) (d : ℕ) → phase t d ≡ Out → (shown setup t d).inside ≡ false
shows_out setup t d out = inside_is setup t d ∙ ap is_in out

some_same : (u v : CoreWord) → Some u ≡ Some v → u ≡ v
some_same u v h = cc

-- Another core changes no word of a core.
others_keep : (s : State) (c d : ℕ) (call : Call) (move : Move) (found : ℕ) → c ≢ d → CoreAt d ≡ word_of move → MayMove s c call move
    → left_of move found ≡ found
others_keep s c d call (LoadOf w) found other here may = refl
others_keep s c d call (CompareOf w x y) found other here may =
    absurd (other (sym (eqb-true d c (subst (λ (v : Word). MayMove s c call (CompareOf v x y)) (sym here) may))))
others_keep s c d call (StoreOf w x) found other here may =
    absurd (other (sym (eqb-true d c (subst (λ (v : Word). MayMove s c call (StoreOf v x)) (sym here) may))))
others_keep s c d call (AddOf w by) found other here may = absurd (subst (λ (v : Word). MayMove s c call (AddOf v by)) (sym here) may)

module _ (setup : Setting) (setting : IsSetting setup) (e : Step) (t : Trace) (made : IsMade setup (e ∷ t)) (d : ℕ) where
  after : Invariant setup (cores_after setup (e ∷ t)) (e ∷ t)
  after = made_stands setup setting (e ∷ t) made

  follows : MayFollow setup t e
  follows = after.legal.1

  abbrev w : Word
  w = CoreAt d

  -- A step that does not change the word leaves it, and one that changes it does not.
  left_same : changes e w ≡ false → last_left setup (e ∷ t) w ≡ last_left setup t w
  left_same kept = elim (cases_word w (word_of e.move)) [
    | inl here ↦ last_left-here setup w e t here
        ∙ sym (eqb-true e.found (left_of e.move e.found) (by (e.found == left_of e.move e.found)
        (sym (ap (λ (b : Bool). b && not (e.found == left_of e.move e.found)) (same_word-same w (word_of e.move) here)) ∙ kept)))
        ∙ follows.found ∙ ap (last_left setup t) (sym here)
    | inr there ↦ last_left-there setup w e t there
  ]
    where
      by : (b : Bool) → not b ≡ false → b ≡ true
      by true h = refl
      by false h = absurd (true≢false h)

  kept_where : last_left setup (e ∷ t) w ≡ last_left setup t w → changes e w ≡ false
  kept_where same = by (changes e w) refl where
    by : (b : Bool) → changes e w ≡ b → b ≡ false
    by false is = refl
    by true is =
        let parts = changes_parts (same_word w (word_of e.move)) (e.found == left_of e.move e.found) is in
        elim (cases_word w (word_of e.move)) [
          | inl here ↦ absurd (true≢false (sym (eq-eqb e.found (left_of e.move e.found)
              (follows.found ∙ ap (last_left setup t) (sym here) ∙ sym same ∙ last_left-here setup w e t here)) ∙ parts.1))
          | inr there ↦ absurd (true≢false (sym parts.0 ∙ same_word-other w (word_of e.move) there))
        ]

  -- core d enters its call with the step
  entered_now : d ≡ e.core → phase t d ≡ Out → phase (e ∷ t) d ≢ Out → is_some e.enters ≡ true → IsEntry (e ∷ t) d
  entered_now own out inside enters = record {
    holds = by_this e t w d (by (changes e w) refl) (sym own);
    entry = ap (λ (u : Trace). suc (length u)) (this_before e t w d (by (changes e w) refl) (sym own))
        ∙ sym (ap (entered_at (e ∷ t)) own ∙ entered_own e t ∙ ap (λ (b : Bool). cond b (suc (length t)) (entered_at t e.core)) enters);
  } where
    by : (b : Bool) → changes e w ≡ b → b ≡ true
    by true is = refl
    by false is = absurd (true≢false (sym (shows_in setup (e ∷ t) d inside)
        ∙ ap (λ (v : CoreWord). v.inside) (some_same (shown setup (e ∷ t) d) (shown setup t d)
        (sym (core_shows setup setting (e ∷ t) made d) ∙ ap core_of_word (left_same is) ∙ core_shows setup setting t made.0 d))
        ∙ shows_out setup t d out))

  -- its call goes on
  goes_on : changes e w ≡ false → (d == e.core && is_some e.enters) ≡ false → IsEntry t d → IsEntry (e ∷ t) d
  goes_on kept none h = record {
    holds = by_earlier e t w d kept none h.holds;
    entry = ap (λ (u : Trace). suc (length u)) (earlier_before e t w d kept none h.holds) ∙ h.entry ∙ sym (ap (λ (b : Bool). cond b (suc (length t)) (entered_at t d)) none);
  }

  own_kept : d ≡ e.core → phase t d ≢ Out → phase (e ∷ t) d ≢ Out → e.returns ≡ None → changes e w ≡ false
  own_kept own was inside returns = kept_where
      (sym (spelling.spells (last_left setup (e ∷ t) w) (shown setup (e ∷ t) d) (core_shows setup setting (e ∷ t) made d)).1
      ∙ ap word_of_core same
      ∙ (spelling.spells (last_left setup t w) (shown setup t d) (core_shows setup setting t made.0 d)).1)
    where
      exits : exit_of (e ∷ t) d ≡ exit_of t d
      exits = ap (λ (b : Bool). cond b (exit_after e.returns (clock_seen t d) (exit_of t d)) (exit_of t d)) (eq-eqb d e.core own)
          ∙ ap (λ (o : Option Reply). exit_after o (clock_seen t d) (exit_of t d)) returns

      same : shown setup (e ∷ t) d ≡ shown setup t d
      same = λ i. record { inside = (shows_in setup (e ∷ t) d inside ∙ sym (shows_in setup t d was)) i; stamp = exits i }

  none_returned : (returns decides : Option Reply) (p : Phase) → after_return returns (after_decide decides p) ≢ Out → returns ≡ None
  none_returned None decides p h = refl
  none_returned (Some r) decides p h = absurd (h refl)

  entry_next : phase (e ∷ t) d ≢ Out → (phase t d ≢ Out → IsEntry t d) → IsEntry (e ∷ t) d
  entry_next inside before = elim (cases_eq d e.core) [
    | inr other ↦ goes_on (others (changes e w) refl other)
        (ap (λ (b : Bool). b && is_some e.enters) (ne_eqb d e.core other))
        (before (λ out. inside (phase-other d e t other ∙ out)))
    | inl own ↦ by e.enters refl own (subst (MayEnter e.enters) (ap (phase t) (sym own)) follows.enters)
        (λ out. follows.in_call (ap (λ (c : ℕ). after_enter e.enters (phase t c)) (sym own) ∙ out))
  ]
    where
      others : (b : Bool) → changes e w ≡ b → d ≢ e.core → b ≡ false
      others false is other = refl
      others true is other =
          let parts = changes_parts (same_word w (word_of e.move)) (e.found == left_of e.move e.found) is in
          elim (cases_word w (word_of e.move)) [
            | inl here ↦ absurd (true≢false (sym (eq-eqb e.found (left_of e.move e.found)
                (sym (others_keep (state_after setup t) e.core d after.discipline.1.call e.move e.found (λ h. other (sym h)) here
                after.discipline.1.moves))) ∙ parts.1))
            | inr there ↦ absurd (true≢false (sym parts.0 ∙ same_word-other w (word_of e.move) there))
          ]

      by : (o : Option Call) → e.enters ≡ o → d ≡ e.core → MayEnter o (phase t d) → after_enter o (phase t d) ≢ Out → IsEntry (e ∷ t) d
      by (Some call) is own may in_call = entered_now own may.0 inside (ap is_some is)
      by None is own may in_call = goes_on
          (own_kept own in_call inside (none_returned e.returns e.decides (after_enter e.enters (phase t d))
          (λ out. inside (phase-own d e t own ∙ out))))
          (ap (λ (o : Option Call). d == e.core && is_some o) is ∙ and_false (d == e.core)) (before in_call)
        where
          and_false : (b : Bool) → (b && false) ≡ false
          and_false true = refl
          and_false false = refl

pub newest_entry : (setup : Setting) → IsSetting setup → (t : Trace) → IsMade setup t → (d : ℕ) → phase t d ≢ Out → IsEntry t d
newest_entry setup setting [] made d inside = absurd (inside refl)
newest_entry setup setting (e ∷ t) made d inside = entry_next setup setting e t made d inside (newest_entry setup setting t made.0 d)
