-- A race is lost only to another core.
use Rattle.kernel_history.specs.{◌≡◌, ◌≢◌, ℕ, ◌==◌, ◌&&◌, ◌||◌, cond, Bool, true, false, [], ◌∷◌, Option, Some, None, refl, is_some}
use Rattle.kernel_history.specs.{Setting, Call, Word, same_word, word_of, left_of, Reply, after_enter, phase, last_left, reads, own_read}
use Rattle.kernel_history.specs.{IfNot, MayDecide, IsLegal, WasChanged}
use Rattle.std.proofs.Common.{inl, inr, sym, ◌∙◌, ap, subst, ne_eqb, eqb-true, true≢false}
use Rattle.kernel_history.proofs.Steps.{own_read-here, own_read-there, own_read-other, last_left-here, last_left-there}
use Rattle.{std.proofs.lemmas.Bool.cases_eq, kernel_history.specs.Trace.Trace, kernel_history.specs.Laws.RacedByAnother}
use Rattle.{kernel_history.proofs.Names.cases_word, kernel_history.proofs.Names.same_word-other}

none_some : (v : ℕ) → None ≡ Some v → ⊥
none_some v h = cc

-- A step of its own that has read a word and left it as found leaves what it read.
kept_read : (r b : Bool) (found left own : ℕ) → (left == found) ≡ b → cond (r && b) (Some found) None ≡ Some own → left ≡ own
kept_read true true found left own same has = eqb-true left found same ∙ some_inj has
  where
    some_inj : Some found ≡ Some own → found ≡ own
    some_inj h = cc
kept_read true false found left own same has = absurd (none_some own has)
kept_read false b found left own same has = absurd (none_some own has)

if_not : (b : Bool) (Said : Type 0) → b ≡ false → Said → IfNot b Said
if_not true Said is said = absurd (true≢false is)
if_not false Said is said = said

-- Where a word is no longer what core c's call has read last in it, another core has changed it.
changed_since : (setup : Setting) (t : Trace) → IsLegal setup t → (c : ℕ) (w : Word) (own : ℕ)
    → own_read t c w ≡ Some own → last_left setup t w ≢ own → WasChanged t c w
changed_since setup [] legal c w own has changed = absurd (none_some own has)
changed_since setup (e ∷ t) legal c w own has changed = elim (cases_eq c e.core) [
  | inl mine ↦ elim (cases_word w (word_of e.move)) [
    | inl here ↦ absurd (changed (last_left-here setup w e t here
        ∙ kept_read (reads e.move) (left_of e.move e.found == e.found) e.found
        (left_of e.move e.found) own refl (sym (own_read-here c e t mine w here) ∙ has)))
    | inr there ↦ inr (mine_there e.enters refl (same_word-other w (word_of e.move) there) (sym (own_read-there c e t mine w there) ∙ has)
        (λ has. changed_since setup t legal.0 c w own has (λ same. changed (last_left-there setup w e t there ∙ same))))
  ]
  | inr other ↦ elim (cases_word w (word_of e.move)) [
    | inl here ↦ elim (cases_eq (left_of e.move e.found) e.found) [
      | inr changes ↦ inl (record { other = λ h. other (sym h); here = sym here; changed = changes })
      | inl kept ↦ inr (if_not _ _ (ap (λ b. b && (same_word w (word_of e.move) || is_some e.enters)) (ne_eqb c e.core other))
          (changed_since setup t legal.0 c w own (sym (own_read-other c e t other w) ∙ has)
          (λ same. changed (last_left-here setup w e t here ∙ kept ∙ legal.1.found ∙ ap (last_left setup t) (sym here) ∙ same))))
    ]
    | inr there ↦ inr (if_not _ _ (ap (λ b. b && (same_word w (word_of e.move) || is_some e.enters)) (ne_eqb c e.core other))
        (changed_since setup t legal.0 c w own (sym (own_read-other c e t other w) ∙ has)
        (λ same. changed (last_left-there setup w e t there ∙ same))))
  ]
]
  where
    mine_there : (o : Option Call) → e.enters ≡ o → same_word w (word_of e.move) ≡ false → cond (is_some o) None (own_read t c w) ≡ Some own
        → (own_read t c w ≡ Some own → WasChanged t c w)
        → IfNot (c == e.core && (same_word w (word_of e.move) || is_some e.enters)) (WasChanged t c w)
    mine_there None os not has before = if_not _ _
        (ap (λ b. c == e.core && (b || is_some e.enters)) not
        ∙ ap (λ x. c == e.core && is_some x) os ∙ and_false (c == e.core)) (before has)
      where
        and_false : (b : Bool) → (b && false) ≡ false
        and_false true = refl
        and_false false = refl
    mine_there (Some call) os not has before = absurd (none_some own has)

pub raced_by_another : RacedByAnother
raced_by_another setup t e legal is =
    by_decision (subst (λ o. MayDecide setup t e o (after_enter e.enters (phase t e.core))) is legal.1.decides)
  where
    by_entry : (o : Option Call) (own : ℕ) → cond (is_some o) None (own_read t e.core (word_of e.move)) ≡ Some own
        → own_read t e.core (word_of e.move) ≡ Some own
    by_entry None own has = has
    by_entry (Some call) own has = absurd (none_some own has)

    by_decision : MayDecide setup t e (Some Reply.Raced) (after_enter e.enters (phase t e.core)) → WasChanged t e.core (word_of e.move)
    by_decision may = changed_since setup t legal.0 e.core (word_of e.move)
        may.justified.own (by_entry e.enters may.justified.own may.justified.has_read)
        (λ same. may.justified.changed (legal.1.found ∙ same))
