-- The head of an arrow finds what its tail left.
use Rattle.page_drawing.specs.kernel_history.proofs.{◌≡◌, ◌≢◌, inl, inr, ◌<◌, ◌==◌, ◌&&◌, not, cond, Bool, true, false, [], ◌∷◌, Option}
use Rattle.page_drawing.specs.kernel_history.proofs.{Some, None, refl, sym, ◌∙◌, ap, subst, get_or as slice_index_or, eqb-true, eq-eqb}
use Rattle.page_drawing.specs.kernel_history.proofs.{true≢false, Setting, Word, place_of, word_of, left_of, Step, last_left, IsLegal}
use Rattle.page_drawing.specs.kernel_history.proofs.{shape_of, cases_word, same_word-same, same_word-other, last_left-here, last_left-there}
use Rattle.page_drawing.specs.page_layers.specs.{Seen.Seen, Seen.seen, declared.lanes.Change.Change}
use Rattle.page_drawing.specs.page_touches.specs.{declared.touches.Touch.Touch, Touches.untouched, Touches.is_told_of, Touches.met_by}
use Rattle.{arrow_laws.specs.changes, arrow_laws.specs.newest, page_drawing.specs.kernel_history.specs.Trace.Trace}
use Rattle.{page_drawing.specs.Pages.page_after, arrow_laws.specs.Arrows.ComesFrom, arrow_laws.specs.Arrows.HeadsFindTails}
use Rattle.{arrow_laws.proofs.Known.Says, arrow_laws.proofs.Known.page_known}

-- The word has last what its newest change left.
pub newest_left : (setup : Setting) (t : Trace) → IsLegal setup t → (w : Word) (a : Step) (u : Trace) → newest t w ≡ a ∷ u
    → last_left setup t w ≡ left_of a.move a.found
newest_left setup [] legal w a u is = cc
newest_left setup (e ∷ t) legal w a u is = elim (cases_word w (word_of e.move)) [
  | inl here ↦ last_left-here setup w e t here ∙ by_change (e.found == left_of e.move e.found) refl
      (sym (newest_here here) ∙ is) here (λ h. newest_left setup t legal.0 w a u h)
  | inr there ↦ last_left-there setup w e t there ∙ newest_left setup t legal.0 w a u (sym (newest_there there) ∙ is)
] where
  newest_here : w ≡ word_of e.move → newest (e ∷ t) w ≡ cond (not (e.found == left_of e.move e.found)) (e ∷ t) (newest t w)
  newest_here here = rw (same_word-same w (word_of e.move) here)

  newest_there : w ≢ word_of e.move → newest (e ∷ t) w ≡ newest t w
  newest_there there = rw (same_word-other w (word_of e.move) there)

  head_same : (x y : Step) (s r : Trace) → x ∷ s ≡ y ∷ r → x ≡ y
  head_same x y s r h = cc

  by_change : (b : Bool) → (e.found == left_of e.move e.found) ≡ b → cond (not (e.found == left_of e.move e.found)) (e ∷ t) (newest t w) ≡ a ∷ u
      → w ≡ word_of e.move → (newest t w ≡ a ∷ u → last_left setup t w ≡ left_of a.move a.found)
      → left_of e.move e.found ≡ left_of a.move a.found
  by_change true kept h here earlier =
      sym (eqb-true e.found (left_of e.move e.found) kept) ∙ legal.1.found ∙ ap (last_left setup t) (sym here)
      ∙ earlier (sym (ap (λ (b : Bool). cond (not b) (e ∷ t) (newest t w)) kept) ∙ h)
  by_change false changed h here earlier =
      ap (λ (x : Step). left_of x.move x.found)
      (head_same e a t u (sym (ap (λ (b : Bool). cond (not b) (e ∷ t) (newest t w)) changed) ∙ h))

-- The newest change of a word is a step of one of the machine's cores.
pub newest_core : (setup : Setting) (t : Trace) → IsLegal setup t → (w : Word) (a : Step) (u : Trace) → newest t w ≡ a ∷ u
    → a.core < setup.cores
newest_core setup [] legal w a u is = cc
newest_core setup (e ∷ t) legal w a u is = by (changes e w) is (λ h. newest_core setup t legal.0 w a u h) where
  head_same : (x y : Step) (s r : Trace) → x ∷ s ≡ y ∷ r → x ≡ y
  head_same x y s r h = cc

  by : (b : Bool) → cond b (e ∷ t) (newest t w) ≡ a ∷ u → (newest t w ≡ a ∷ u → a.core < setup.cores) → a.core < setup.cores
  by true h earlier = subst (λ (x : Step). x.core < setup.cores) (head_same e a t u h) legal.1.is_core
  by false h earlier = earlier h

none_some : {A : Type 0} (x : A) → None ≡ Some x → ⊥
none_some x h = cc

some_same : {A : Type 0} (x y : A) → Some x ≡ Some y → x ≡ y
some_same x y h = cc

-- Where a step is met, its change is there, and another core's.
met_some : (told : Bool) (o : Option Change) (s : Seen) (c : Change) → met_by told o s ≡ Some c → (o ≡ Some c) × (c.core ≢ s.core)
met_some told None s c is = absurd (none_some c is)
met_some told (Some d) s c is = by (told && not (d.core == s.core)) refl is where
  both : (a b : Bool) → (a && not b) ≡ true → b ≡ false
  both true true h = absurd (true≢false (sym h))
  both true false h = refl
  both false b h = absurd (true≢false (sym h))

  by : (b : Bool) → (told && not (d.core == s.core)) ≡ b → cond b (Some d) None ≡ Some c → (Some d ≡ Some c) × (c.core ≢ s.core)
  by true h e = (
    e,
    λ same. true≢false
        (sym (eq-eqb d.core s.core (ap (λ (x : Change). x.core) (some_same d c e) ∙ same)) ∙ both told (d.core == s.core) h),
  )
  by false h e = absurd (none_some c e)

found_by : (setup : Setting) (t : Trace) (e : Step) → IsLegal setup (e ∷ t) → (c : Change) (n : Trace) (o : Option Change)
    → newest t (word_of e.move) ≡ n → Says n o → o ≡ Some c → c.core ≢ e.core → ComesFrom t e c
found_by setup t e legal c [] None is says met apart = absurd (none_some c met)
found_by setup t e legal c [] (Some d) is says met apart = absurd says
found_by setup t e legal c (a ∷ u) None is says met apart = absurd says
found_by setup t e legal c (a ∷ u) (Some d) is says met apart =
    let same : d ≡ c = some_same d c met in
    let core : c.core ≡ a.core = ap (λ (x : Change). x.core) (sym same) ∙ says.0 in
    record {
      tail = a;
      before = u;
      is_newest = is;
      other = λ h. apart (core ∙ h);
      core = core;
      step = ap (λ (x : Change). x.step) (sym same) ∙ says.1;
      call = ap (λ (x : Change). x.index) (sym same) ∙ says.2;
      same_value = legal.1.found ∙ newest_left setup t legal.0 (word_of e.move) a u is;
    }

pub heads_find_tails : HeadsFindTails
heads_find_tails page setup t e c setting legal uncut arrow =
    let known = page_known page setup setting t legal.0 uncut in
    let p = page_after page setup t in
    let touch : Touch = slice_index_or p.words (place_of (shape_of setup) (word_of e.move)) untouched in
    let met = met_some (is_told_of touch (seen (shape_of setup) e)) touch.change (seen (shape_of setup) e) c arrow in
    found_by setup t e legal c _ touch.change refl (known.words (word_of e.move) legal.1.is_in) met.0 met.1
