-- Who lost a race has met another core: one that changed a word was in a call.
use Rattle.kernel_history.proofs.{◌≡◌, ◌≢◌, inl, inr, ℕ, ◌==◌, ◌&&◌, ◌||◌, Bool, true, false, List, [], ◌∷◌, Option, Some, None, refl, sym}
use Rattle.kernel_history.proofs.{◌∙◌, ap, subst, IsTrue, is_some, eq-eqb, ne_eqb, false≢true, Setting, Call, Reply, Word, same_word}
use Rattle.kernel_history.proofs.{word_of, Step, Phase, Out, Decided, phase, after_enter, IfNot, plain_phase, IsLegal, MayFollow}
use Rattle.marked_laws.specs.{with_enter, with_decide, with_return, marks_of}
use Rattle.kernel_history.specs.{Trace.Trace, Trace.Open, Laws.WasChanged}
use Rattle.marked_history.specs.declared.marks.Mark.TheVariants.{Enter, Decide, Return}
use Rattle.marked_history.specs.Histories.{IsAnotherIn, enters, Unless, HasMet}
use Rattle.{std.proofs.lemmas.Bool.cases_eq, kernel_history.specs.kernel_rules.specs.Runs.is_in}
use Rattle.{marked_history.specs.declared.marks.Mark.Mark, marked_laws.proofs.Events.entered_marks, marked_laws.proofs.Events.entered_in}

-- Who meets another core now has met one: before all marks no core is in a call.
met_now : (marks : List Mark) (c : ℕ) → IsAnotherIn marks c → HasMet marks c
met_now [] c meets = absurd (false≢true meets.is.inside)
met_now (m ∷ marks) c meets = inl meets

-- Who has met one still has after a mark by which it enters no call.
met_on : (m : Mark) (marks : List Mark) (c : ℕ) → enters m c ≡ false → HasMet marks c → HasMet (m ∷ marks) c
met_on m marks c not met = inr (unless (enters m c) not)
  where
    unless : (b : Bool) → b ≡ false → Unless b (HasMet marks c)
    unless true is = absurd (false≢true (sym is))
    unless false is = met

met_entered : (o : Option Call) (d : ℕ) (marks : List Mark) (c : ℕ) → c ≢ d → HasMet marks c → HasMet (with_enter o d marks) c
met_entered None d marks c other met = met
met_entered (Some call) d marks c other met = met_on (Enter d call) marks c (ne_eqb c d other) met

met_decided : (o : Option Reply) (d : ℕ) (marks : List Mark) (c : ℕ) → HasMet marks c → HasMet (with_decide o d marks) c
met_decided None d marks c met = met
met_decided (Some r) d marks c met = met_on (Decide d r) marks c refl met

met_returned : (o : Option Reply) (d : ℕ) (marks : List Mark) (c : ℕ) → HasMet marks c → HasMet (with_return o d marks) c
met_returned None d marks c met = met
met_returned (Some r) d marks c met = met_on (Return d) marks c refl met

-- The same after the rest of a step's marks.
met_after : (t : Trace) (e : Step) (c : ℕ) → HasMet (entered_marks t e) c → HasMet (marks_of (e ∷ t)) c
met_after t e c met = met_returned e.returns e.core _ c (met_decided e.decides e.core (entered_marks t e) c met)

-- A core in a phase that is not `Out` is in a call.
in_phase : (p : Phase) → p ≢ Out → IsTrue (is_in (plain_phase p))
in_phase Out not = absurd (not refl)
in_phase (Open call) not = refl
in_phase (Decided call r) not = refl

-- Another core that steps is met.
steps_met : (setup : Setting) (t : Trace) (e : Step) → MayFollow setup t e → (c : ℕ) → e.core ≢ c → HasMet (entered_marks t e) c
steps_met setup t e follows c other =
    met_now (entered_marks t e) c (record {
      core = e.core;
      is = record {
        other = other;
        inside = ap is_in (entered_in t e) ∙ in_phase (after_enter e.enters (phase t e.core)) follows.in_call;
      };
    })

-- Where another core has changed a word since core c's last step on it, c has met a core.
pub changed_met : (setup : Setting) (t : Trace) → IsLegal setup t → (c : ℕ) (w : Word) → WasChanged t c w → HasMet (marks_of t) c
changed_met setup [] legal c w changed = absurd changed
changed_met setup (e ∷ t) legal c w (inl here) = met_after t e c (steps_met setup t e legal.1 c here.other)
changed_met setup (e ∷ t) legal c w (inr before) = elim (cases_eq c e.core) [
  | inr other ↦ met_after t e c (met_entered e.enters e.core (marks_of t) c other (changed_met setup t legal.0 c w (apart other)))
  | inl own ↦ met_after t e c (mine own (changed_met setup t legal.0 c w))
]
  where
    if_not : (b : Bool) → b ≡ false → IfNot b (WasChanged t c w) → WasChanged t c w
    if_not true is said = absurd said
    if_not false is said = said

    apart : c ≢ e.core → WasChanged t c w
    apart other = if_not _ (ap (λ b. b && (same_word w (word_of e.move) || is_some e.enters)) (ne_eqb c e.core other)) before

    by_core : (b : Bool) → b ≡ true → IfNot (b && (same_word w (word_of e.move) || is_some e.enters)) (WasChanged t c w)
        → IfNot (same_word w (word_of e.move) || is_some e.enters) (WasChanged t c w)
    by_core true is said = said
    by_core false is said = absurd (false≢true is)

    by_entry : (b : Bool) (o : Option Call) → IfNot (b || is_some o) (WasChanged t c w) → (o ≡ None) × WasChanged t c w
    by_entry true o said = absurd said
    by_entry false None said = (refl, said)
    by_entry false (Some call) said = absurd said

    mine : c ≡ e.core → (WasChanged t c w → HasMet (marks_of t) c) → HasMet (entered_marks t e) c
    mine own met_before =
        let none : (e.enters ≡ None) × WasChanged t c w = by_entry (same_word w (word_of e.move)) e.enters
        (by_core (c == e.core) (eq-eqb c e.core own) before) in
        subst (λ (o : Option Call). HasMet (with_enter o e.core (marks_of t)) c) (sym none.0) (met_before none.1)
