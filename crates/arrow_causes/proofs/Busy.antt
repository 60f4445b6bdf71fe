-- `busy d` has a line from the call of core d that has marked the word.
use Rattle.flight_laws.specs.trace_laws.specs.kernel_history.proofs as low
use low.{◌≡◌, ◌≢◌, inl, inr, ℕ, ◌==◌, ◌&&◌, not, Bool, true, false, [], ◌∷◌, Some, IsTrue, refl, sym, ◌∙◌, ap, subst, is_some, eq-eqb}
use low.{ne_eqb, true≢false, false≢true, Setting, IsSetting, Word, EntryAt, FrameAt, CountAt, CoreAt, FlushAt, LiveAt, ClockAt, same_word}
use low.{word_of, left_of, Frame, State, mark_of, marked_by, is_in, MayDecide, IsLegal, Step, Out, phase, after_enter, state_after}
use low.{state_before, IfNot, inside_is, entered-inside, same_word-same, same_word-other, cases_word, Reply}
use Rattle.flight_laws.specs.flight.proofs.{Trace, Invariant, cores_after, IsMade}
use Rattle.arrow_causes.proofs.{Puts.puts_by_change, Puts.entered_frames, Holders.IsHolders, Holders.changes_parts, Holders.by_this}
use Rattle.arrow_causes.proofs.{Holders.by_earlier, Lines.line_of}
use Rattle.{std.proofs.lemmas.Bool.cases_eq, flight_laws.specs.trace_laws.specs.kernel_history.specs.Marking.HasMarked}
use Rattle.{flight_laws.specs.flight.specs.kept_facts.proofs.WordFrames.mark_same, flight_laws.specs.flight.proofs.Made.made_stands}
use Rattle.{arrow_laws.specs.page_layers.specs.Layers.is_blamed, arrow_laws.specs.page_drawing.specs.page_touches.specs.Touches.is_clock}
use Rattle.{arrow_laws.specs.Arrows.changes, arrow_causes.specs.Causes.BusyAreLines}
use low.{Markings.cases_mark}

module _ (setup : Setting) (setting : IsSetting setup) (e : Step) (t : Trace) (made : IsMade setup (e ∷ t)) (w : Word) (d : ℕ) where
  after : Invariant setup (cores_after setup (e ∷ t)) (e ∷ t)
  after = made_stands setup setting (e ∷ t) made

  changed : w ≡ word_of e.move → left_of e.move e.found ≢ e.found → changes e w ≡ true
  changed here other = ap (λ (b : Bool). b && not (e.found == left_of e.move e.found)) (same_word-same w (word_of e.move) here)
      ∙ ap not (ne_eqb e.found (left_of e.move e.found) (λ same. other (sym same)))

  -- where d has entered no call with the step, its mark has been put before
  no_entry : marked_by setup t w ≡ Some d → HasMarked setup (e ∷ t) w d → (d == e.core && is_some e.enters) ≡ false
  no_entry was (inl puts) = absurd (puts.before was)
  no_entry was (inr still) = by (d == e.core && is_some e.enters) still where
    by : (b : Bool) → IfNot b (HasMarked setup t w d) → b ≡ false
    by true h = absurd h
    by false h = refl

  -- another core leaves what d has marked
  others_leave : changes e w ≡ true → marked_by setup t w ≡ Some d → e.core ≡ d
  others_leave change was =
      let parts = changes_parts (same_word w (word_of e.move)) (e.found == left_of e.move e.found) change in
      elim (cases_eq d e.core) [
        | inl own ↦ sym own
        | inr other ↦ elim (cases_word w (word_of e.move)) [
          | inl here ↦ absurd (true≢false (sym (eq-eqb e.found (left_of e.move e.found)
              (sym (after.discipline.1.keeps d (sym (ap (marked_by setup t) here) ∙ was) other))) ∙ parts.1))
          | inr there ↦ absurd (true≢false (sym parts.0 ∙ same_word-other w (word_of e.move) there))
        ]
      ]

  holders_next : marked_by setup (e ∷ t) w ≡ Some d → (marked_by setup t w ≡ Some d → IsHolders t w d) → IsHolders (e ∷ t) w d
  holders_next is before = elim (cases_mark (marked_by setup t w) d) [
    | inl was ↦ by (changes e w) refl was
    | inr new ↦ elim (after.discipline.1.marks w d is) [
      | inl was ↦ absurd (new was)
      | inr own ↦ by_this e t w d (changed (sym own.1) (puts_by_change setup setting t e made w (sym own.1)
          (λ h. new (h ∙ ap (λ (n : ℕ). Some n) own.0)) (is ∙ ap (λ (n : ℕ). Some n) (sym own.0)))) own.0
    ]
  ]
    where
      by : (b : Bool) → changes e w ≡ b → marked_by setup t w ≡ Some d → IsHolders (e ∷ t) w d
      by true change was = by_this e t w d change (others_leave change was)
      by false kept was = by_earlier e t w d kept (no_entry was (after.marked w d is)) (before was)

-- Where a word carries the mark of core d, its newest change is d's, in the call that d has entered last.
pub marked_holders : (setup : Setting) → IsSetting setup → (t : Trace) → IsMade setup t → (w : Word) (d : ℕ)
    → marked_by setup t w ≡ Some d → IsHolders t w d
marked_holders setup setting [] made w d is = absurd ((made_stands setup setting [] made).marked w d is)
marked_holders setup setting (e ∷ t) made w d is =
    holders_next setup setting e t made w d is (marked_holders setup setting t made.0 w d)

no_clock : (s : State) (w : Word) (x d : ℕ) → mark_of s w x ≡ Some d → is_clock w ≡ false
no_clock s (EntryAt f i) x d h = refl
no_clock s (FrameAt f) x d h = refl
no_clock s (CountAt f c) x d h = refl
no_clock s (CoreAt c) x d h = refl
no_clock s (FlushAt c) x d h = refl
no_clock s (LiveAt l) x d h = refl
no_clock s ClockAt x d h = cc

module _ (setup : Setting) (setting : IsSetting setup) (t : Trace) (e : Step) (d : ℕ) (legal : IsLegal setup (e ∷ t)) where
  busy_may : e.decides ≡ Some (Reply.Busy d) → MayDecide setup t e (Some (Reply.Busy d)) (after_enter e.enters (phase t e.core))
  busy_may is = subst (λ o. MayDecide setup t e o (after_enter e.enters (phase t e.core))) is legal.1.decides

  -- the mark was there before the step
  marked_then : mark_of (state_before setup t e) (word_of e.move) e.found ≡ Some d → marked_by setup t (word_of e.move) ≡ Some d
  marked_then marked = ap (mark_of (state_after setup t) (word_of e.move)) (sym legal.1.found)
      ∙ sym (mark_same (state_after setup t) (state_before setup t e) (word_of e.move) e.found
      (λ f. ap (λ (r : ℕ → Frame). r f) (entered_frames e.enters (state_after setup t) e.core)))
      ∙ marked

-- And so was the call of another core.
pub inside_then : (setup : Setting) (t : Trace) (e : Step) (d : ℕ) → d ≢ e.core → IsTrue ((state_before setup t e).core d).inside
    → phase t d ≢ Out
inside_then setup t e d other inside out = false≢true (sym (ap is_in out) ∙ sym (inside_is setup t d)
    ∙ sym (entered-inside e.enters (state_after setup t) e.core d other) ∙ inside)

pub busy_are_lines : BusyAreLines
busy_are_lines page setup t e d setting history taken is =
    let may = busy_may setup setting t e d history.legal is in
    let h = may.justified in
    (line_of page setup setting t e history.legal taken (ap is_blamed is)
    (no_clock (state_before setup t e) (word_of e.move) e.found d h.marked) d h.other
    (inside_then setup t e d h.other h.is_inside)
    (marked_holders setup setting t history.made.0 (word_of e.move) d (marked_then setup setting t e d history.legal h.marked))).0
