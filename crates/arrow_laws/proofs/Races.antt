-- Each lost race is shown by a line from a step that is later than the call's own entry.
use Rattle.page_drawing.specs.kernel_history.proofs as low
use low.{◌≡◌, ◌≢◌, inl, inr, ℕ, suc, ◌<◌, ◌≤◌, ◌==◌, ◌&&◌, ◌||◌, not, cond, Bool, true, false, [], ◌∷◌, length, Option, Some, None, refl}
use low.{sym, ◌∙◌, ap, subst, arith, is_some, get_or as slice_index_or, ne_eqb, eq-eqb, true≢false, Setting, Call, Word, EntryAt, FrameAt}
use low.{CountAt, CoreAt, FlushAt, LiveAt, ClockAt, same_word, place_of, word_of, left_of, Rule, State, rule_of, Step, phase, after_enter}
use low.{state_before, IfNot, IsLegal, MayDecide, shape_of, same_word-same}
use Rattle.arrow_laws.specs.{changes, newest, entered_at, returned_at, before_entry}
use Rattle.page_drawing.specs.kernel_history.specs.{Trace.Trace, Justified.MayLose, Laws.WasChanged}
use Rattle.page_drawing.specs.page_layers.specs.{Seen.Seen, Seen.seen, Layers.is_blamed, declared.lanes.Change.Change}
use Rattle.page_drawing.specs.page_touches.specs.{declared.touches.Touch.Touch, Touches.untouched, Touches.is_clock}
use Rattle.arrow_laws.proofs.{Calls.entered_before, Calls.returned_before, Calls.before_less, Calls.before_own, Calls.entered_other}
use Rattle.arrow_laws.proofs.{Heads.newest_core, Known.Says, Known.Known, Known.page_known, Lines.line_from}
use Rattle.{page_drawing.specs.Page, page_drawing.specs.page_after, page_drawing.specs.page_touches.proofs.Blamed.blamed_are_met}
use Rattle.{arrow_laws.specs.Arrows.IsLateLine, arrow_laws.specs.Arrows.RacesAreLines}
use low.{Races.raced_by_another}
use Rattle.page_drawing.specs.spk_nums.specs.declared.replies.Reply.TheVariants as reply

-- The newest change of a word is another core's than c, and later than c's last entry.
pub record ByAnother (t : Trace) (c : ℕ) (w : Word) : Type 0 where
  tail : Step
  before : Trace
  is_newest : newest t w ≡ tail ∷ before
  other : tail.core ≢ c
  later : entered_at t c < suc (length before)

module _ (e : Step) (t : Trace) (c : ℕ) (w : Word) where
  by_this : changes e w ≡ true → e.core ≢ c → ByAnother (e ∷ t) c w
  by_this change other = record {
    tail = e;
    before = t;
    is_newest = ap (λ (b : Bool). cond b (e ∷ t) (newest t w)) change;
    other = other;
    later = let h = entered_before t c in
        let same = entered_other e t c (λ h. other (sym h)) in omega arith;
  }

  by_earlier : changes e w ≡ false → (c == e.core && is_some e.enters) ≡ false → ByAnother t c w → ByAnother (e ∷ t) c w
  by_earlier kept goes b = record {
    tail = b.tail;
    before = b.before;
    is_newest = ap (λ (x : Bool). cond x (e ∷ t) (newest t w)) kept ∙ b.is_newest;
    other = b.other;
    later = subst (λ (n : ℕ). n < suc (length b.before)) (sym (ap (λ (x : Bool). cond x (suc (length t)) (entered_at t c)) goes)) b.later;
  }

not_if : (b : Bool) (Said : Type 0) → IfNot b Said → (b ≡ false) × Said
not_if true Said h = absurd h
not_if false Said h = (refl, h)

left_false : (a b c : Bool) → (a && (b || c)) ≡ false → (a && c) ≡ false
left_false true true c h = absurd (true≢false h)
left_false true false c h = h
left_false false b c h = refl

first_false : (a b c : Bool) → (a && (b || c)) ≡ false → b ≡ true → a ≡ false
first_false true true c h is = absurd (true≢false h)
first_false true false c h is = absurd (true≢false (sym is))
first_false false b c h is = refl

left_true : (a b : Bool) → (a && b) ≡ true → a ≡ true
left_true true b h = refl
left_true false b h = absurd (true≢false (sym h))

pub changed_newest : (t : Trace) (c : ℕ) (w : Word) → WasChanged t c w → ByAnother t c w
changed_newest [] c w was = absurd was
changed_newest (e ∷ t) c w (inl h) = by_this e t c w
    (ap (λ (b : Bool). b && not (e.found == left_of e.move e.found)) (same_word-same w (word_of e.move) (sym h.here))
    ∙ ap not (ne_eqb e.found (left_of e.move e.found) (λ s. h.changed (sym s)))) h.other
changed_newest (e ∷ t) c w (inr h) =
    let parts = not_if (c == e.core && (same_word w (word_of e.move) || is_some e.enters)) (WasChanged t c w) h in
    by (changes e w) refl parts.0 parts.1 (λ was. changed_newest t c w was)
  where
    by : (b : Bool) → changes e w ≡ b → (c == e.core && (same_word w (word_of e.move) || is_some e.enters)) ≡ false → WasChanged t c w
        → (WasChanged t c w → ByAnother t c w) → ByAnother (e ∷ t) c w
    by true change goes was earlier = by_this e t c w change (λ same. true≢false (sym (eq-eqb c e.core (sym same))
        ∙ first_false (c == e.core) (same_word w (word_of e.move)) (is_some e.enters) goes (left_true (same_word w (word_of e.move)) _ change)))
    by false kept goes was earlier = by_earlier e t c w kept
        (left_false (c == e.core) (same_word w (word_of e.move)) (is_some e.enters) goes) (earlier was)

-- What is known of a step that decides `raced`: it enters no call, and its word is not the clock.
no_clock : (s : State) (c : ℕ) (rule : Rule) (w : Word) → MayLose s c rule w → is_clock w ≡ false
no_clock s c rule (EntryAt f i) h = refl
no_clock s c rule (FrameAt f) h = refl
no_clock s c rule (CountAt f d) h = refl
no_clock s c rule (CoreAt d) h = refl
no_clock s c rule (FlushAt d) h = refl
no_clock s c rule (LiveAt l) h = refl
no_clock s c rule ClockAt h = absurd h

no_entry : (o : Option Call) (r : Option ℕ) (v : ℕ) → cond (is_some o) None r ≡ Some v → o ≡ None
no_entry None r v h = refl
no_entry (Some call) r v h = cc

record IsRaced (setup : Setting) (t : Trace) (e : Step) : Type 0 where
  word : is_clock (word_of e.move) ≡ false
  entry : e.enters ≡ None

raced_step : (setup : Setting) (t : Trace) (e : Step) → MayDecide setup t e (Some reply.Raced) (after_enter e.enters (phase t e.core))
    → IsRaced setup t e
raced_step setup t e may = record {
  word = no_clock (state_before setup t e) e.core (rule_of (state_before setup t e) e.core may.call) (word_of e.move) may.justified.at;
  entry = no_entry e.enters _ may.justified.own may.justified.has_read;
}

module _ (page : ℕ) (setup : Setting) (t : Trace) (e : Step) (legal : IsLegal setup (e ∷ t)) (raced : e.decides ≡ Some reply.Raced)
    (known : Known setup t (page_after page setup t)) (is : IsRaced setup t e) (by : ByAnother t e.core (word_of e.move))
    (own_core : e.core < 8) (most : setup.cores ≤ 8) where
  abbrev p : Page
  p = page_after page setup t

  abbrev s : Seen
  s = seen (shape_of setup) e

  abbrev touch : Touch
  touch = slice_index_or p.words (place_of (shape_of setup) (word_of e.move)) untouched

  blamed : is_blamed e.decides ≡ true
  blamed = ap is_blamed raced

  -- when e's call was entered, no core had returned later than that
  no_later : (d : ℕ) → returned_at (before_entry (e ∷ t) e.core) d ≤ entered_at t e.core
  no_later d = subst (λ (u : Trace). returned_at u d ≤ entered_at t e.core)
      (sym (before_own e t ∙ ap (λ (o : Option Call). cond (is_some o) t (before_entry t e.core)) is.entry))
      (let h = returned_before (before_entry t e.core) d in let g = before_less t e.core in omega arith)

  few : (d : ℕ) → d ≡ by.tail.core → d < 8
  few d same = omega (arith, same, newest_core setup t legal.0 (word_of e.move) by.tail by.before by.is_newest, most)

  by_says : (o : Option Change) → touch.change ≡ o → Says (by.tail ∷ by.before) o → IsLateLine page setup t e
  by_says None there says = absurd says
  by_says (Some c) there says = record {
    change = c;
    arrow = blamed_are_met touch s c blamed is.word there (λ h. by.other (sym says.0 ∙ h));
    line = line_from page setup t e known own_core c (few c.core says.0) (omega (arith, no_later c.core, by.later, says.1));
    later = omega (arith, by.later, says.1);
  }

  late_line : IsLateLine page setup t e
  late_line = by_says touch.change refl (subst (λ (u : Trace). Says u touch.change) by.is_newest
      (known.words (word_of e.move) legal.1.is_in))

pub races_are_lines : RacesAreLines
races_are_lines page setup t e setting legal uncut raced =
    late_line page setup t e legal raced (page_known page setup setting t legal.0 uncut)
    (raced_step setup t e (subst (λ o. MayDecide setup t e o (after_enter e.enters (phase t e.core))) raced legal.1.decides))
    (changed_newest t e.core (word_of e.move) (raced_by_another setup t e legal raced))
    (omega (arith, legal.1.is_core, setting.most_cores)) setting.most_cores
