-- Liveness numbers: what their words show, which are in the footprint of a call, and whose component lives under one.
use Rattle.count_invariant.specs.step_ways.proofs.{◌≡◌, ℕ, ◌^◌, ◌<◌, ◌==◌, ◌||◌, Bool, true, false, List, [], ◌∷◌, ◌++◌, Option, Some, None}
use Rattle.count_invariant.specs.step_ways.proofs.{IsTrue, refl, sym, ◌∙◌, ap, subst, flat_map, eqb-true, false≢true, Setting, IsSetting}
use Rattle.count_invariant.specs.step_ways.proofs.{live_of_word, LiveWord, Comp, Frame, Kernel, Liveness, Unused, Live, Dead, State}
use Rattle.count_invariant.specs.step_ways.proofs.{comp_in, fits, is_live_in, is_one_of, live_mark, IsLegal, Trace, state_after, state_is}
use Rattle.count_invariant.specs.step_ways.proofs.{run_of, after, events_of, Acquired, LiveAt, holds_counts, NumberIs, Kind}
use Rattle.{count_invariant.specs.plan_ways.proofs.one_left, count_invariant.specs.plan_ways.proofs.one_right}
use Rattle.{state_laws.specs.Lives.IsCompOf, state_laws.proofs.Lives.live_numbers_fit, state_laws.proofs.CompsApart.comps_apart}
use Rattle.count_invariant.specs.frame_words.proofs.LiveLemmas as lives

-- No count is the word of a liveness number.
pub no_number : (fate : Option (Option ℕ)) (xs : List Acquired) (l : ℕ) → (holds_counts fate xs).marks (LiveAt l) ≡ false
no_number fate [] l = refl
no_number fate (x ∷ xs) l = no_number fate xs l

-- A word without a mark that says what a number is, is spelled.
pub record IsSpelled (x : ℕ) : Type 0 where
  pub unmarked : live_mark (live_of_word x) ≡ None
  pub small : x < 2 ^ 64

by_value : (v : LiveWord) (x : ℕ) → live_of_word x ≡ Some v → live_mark (Some v) ≡ None → IsSpelled x
by_value v x is bare = let spells = lives.spelling.spells x v is in record {
  unmarked = ap live_mark is ∙ bare;
  small = subst (λ (n : ℕ). n < 2 ^ 64) spells.1 (lives.spelling.small v spells.0);
}

pub spelled : (p : Liveness) (r x : ℕ) → NumberIs p r (live_of_word x) → IsSpelled x
spelled Unused r x is = by_value LiveWord.Free x is refl
spelled (Live e f) r x is = by_value (LiveWord.Live e f) x is refl
spelled (Dead e) r x is = by_value (LiveWord.Dead e r) x is.says refl

-- Whether a word shows a number live in an epoch.
abbrev pub shows_live : Option LiveWord → ℕ → Bool
shows_live None e = false
shows_live (Some LiveWord.Free) e = false
shows_live (Some (LiveWord.Live d f)) e = d == e
shows_live (Some (LiveWord.Closing d by)) e = false
shows_live (Some (LiveWord.Dead d stamp)) e = false

pub lives_as_shown : (p : Liveness) (r e : ℕ) (o : Option LiveWord) → NumberIs p r o → is_live_in p e ≡ shows_live o e
lives_as_shown Unused r e o is = ap (λ x. shows_live x e) (sym is)
lives_as_shown (Live d f) r e o is = ap (λ x. shows_live x e) (sym is)
lives_as_shown (Dead d) r e o is = ap (λ x. shows_live x e) (sym is.says)

-- A word that says what a number is shows something.
pub shows_some : (p : Liveness) (r : ℕ) (o : Option LiveWord) → NumberIs p r o → o ≡ None → ⊥
shows_some Unused r o is none = absurd (cc)
shows_some (Live d f) r o is none = absurd (cc)
shows_some (Dead d) r o is none = absurd (not_none _ (sym none ∙ is.says))
  where
    not_none : (v : LiveWord) → None ≡ Some v → ⊥
    not_none v h = cc

-- One that shows it live is that of a number that lives.
pub number_is : (p : Liveness) (r e f : ℕ) (o : Option LiveWord) → NumberIs p r o → o ≡ Some (LiveWord.Live e f) → p ≡ Live e f
number_is Unused r e f o is shows = absurd (not_live (sym is ∙ shows))
  where
    not_live : Some LiveWord.Free ≡ Some (LiveWord.Live e f) → ⊥
    not_live h = cc
number_is (Live d g) r e f o is shows = same (sym is ∙ shows)
  where
    same : Some (LiveWord.Live d g) ≡ Some (LiveWord.Live e f) → Live d g ≡ Live e f
    same h = cc
number_is (Dead d) r e f o is shows = absurd (not_live (sym is.says ∙ shows))
  where
    not_live : Some (LiveWord.Dead d r) ≡ Some (LiveWord.Live e f) → ⊥
    not_live h = cc

-- A number of a frame in the footprint is in it.
pub one_of_many : (g : ℕ → List ℕ) (l f : ℕ) (fs : List ℕ) → is_one_of f fs ≡ true → is_one_of l (g f) ≡ true
    → is_one_of l (flat_map g fs) ≡ true
one_of_many g l f [] is here = absurd (false≢true is)
one_of_many g l f (x ∷ xs) is here = by (x == f) refl is (λ h. one_of_many g l f xs h here)
  where
    by : (b : Bool) → (x == f) ≡ b → (b || is_one_of f xs) ≡ true → (is_one_of f xs ≡ true → is_one_of l (flat_map g xs) ≡ true)
        → is_one_of l (flat_map g (x ∷ xs)) ≡ true
    by true same h rest = one_left l (g x) (flat_map g xs) (ap (λ (n : ℕ). is_one_of l (g n)) (eqb-true x f same) ∙ here)
    by false same h rest = one_right l (g x) (flat_map g xs) (rest h)

-- The component of a frame, and its number.
pub comp_is : (x : Frame) → IsTrue (fits Kind.Comp x) → x ≡ Kernel (Comp (comp_in x))
comp_is (Kernel (Comp k)) fit = refl
comp_is _ fit = absurd (false≢true fit)

-- Where a number lives in the epoch of a component that has it, it lives for this component.
pub lives_for : (setup : Setting) → IsSetting setup → (t : Trace) → IsLegal setup t → (f l e g : ℕ)
    → IsTrue (fits Kind.Comp ((state_after setup t).frame f)) → (comp_in ((state_after setup t).frame f)).number ≡ l
    → (comp_in ((state_after setup t).frame f)).epoch ≡ e → (state_after setup t).number l ≡ Live e g → g ≡ f
lives_for setup setting t legal f l e g = subst Said (sym (state_is setup t)) said
  where
    Said : State → Type 0
    Said s = IsTrue (fits Kind.Comp (s.frame f)) → (comp_in (s.frame f)).number ≡ l → (comp_in (s.frame f)).epoch ≡ e
        → s.number l ≡ Live e g → g ≡ f

    said : Said (after setup (events_of t))
    said comp number epoch live =
        let of : IsCompOf ((after setup (events_of t)).frame g) l e =
        live_numbers_fit setup setting (events_of t) (run_of setup t legal) l e g live in
        comps_apart setup setting (events_of t) (run_of setup t legal) g f of.comp comp (of.number ∙ sym number) (of.epoch ∙ sym epoch)
