-- What a core holds of the counters that it has frozen.
use Rattle.act_fits.specs.act_states.proofs as low
use low.{◌≡◌, ◌≢◌, ℕ, ◌<◌, ◌≤◌, ◌&&◌, ◌==◌, ltb as nat_lt, leb as nat_le, Bool, true, false, if◌then◌else◌, length, slice_get, Option, Some}
use low.{None, arith, refl, sym, ◌∙◌, ap, false≢true, eq-eqb, ne_eqb, eqb-true, ltb-true, leb-true, lt-ltb, le-leb, word_of_count, Word}
use low.{EntryAt, FrameAt, CountAt, FlushAt, same_word, same_same, released, thaw_of, Swept, Thaw}
use Rattle.core_invariant.specs.{is_frozen, holds_thaw, holds_release, ThawsFrame, Frozen.thawed, Holding.Holding}
use Rattle.act_fits.specs.act_states.specs.declared.untypings.Release.{Release}

-- Whether a word is a count.
abbrev pub is_count : Word → Bool
is_count (CountAt f d) = true
is_count _ = false

-- Two holdings hold the same of a word.
abbrev pub SameAt : Holding → Holding → Word → Type 0
SameAt h g w = (h.marks w ≡ g.marks w) × (h.stands w ≡ g.stands w)

-- Of a word that is no count the frozen counters hold nothing.
pub thaw_plain : (o : Option Thaw) (h : Holding) (w : Word) → is_count w ≡ false → SameAt (holds_thaw o h) h w
thaw_plain (Some t) h (CountAt f d) is = absurd (false≢true (sym is))
thaw_plain _ h _ is = (refl, refl)

-- Nor of a count of another frame.
pub thaw_away : (o : Option Thaw) (h : Holding) (f g d : ℕ) → ThawsFrame g o → f ≢ g → SameAt (holds_thaw o h) h (CountAt f d)
thaw_away None h f g d of other = (refl, refl)
thaw_away (Some t) h f g d of other =
    let not : (f == t.frame) ≡ false = ne_eqb f t.frame (λ same. other (same ∙ of)) in (
      ap (λ b. if b && (nat_le t.at d && nat_lt d (length t.words)) then true else h.marks (CountAt f d)) not,
      ap (λ b. if b && (nat_le t.at d && nat_lt d (length t.words)) then thawed t (CountAt f d) else h.stands (CountAt f d)) not,
    )

-- What is held beside them does not depend on what is held before.
pub thaw_over : (o : Option Thaw) (h g : Holding) (w : Word) → SameAt h g w → SameAt (holds_thaw o h) (holds_thaw o g) w
thaw_over None h g w same = same
thaw_over (Some t) h g w same = (
  ap (λ b. if is_frozen t w then true else b) same.0,
  ap (λ (n : ℕ). if is_frozen t w then thawed t w else n) same.1,
)

pub release_over : (x : Release) (h g : Holding) (w : Word) → SameAt h g w → SameAt (holds_release x h) (holds_release x g) w
release_over x h g w same =
    let over = thaw_over x.thaw h g w same in (
      ap (λ b. if same_word w (FrameAt x.frame) then true else b) over.0,
      ap (λ (n : ℕ). if same_word w (FrameAt x.frame) then x.word else n) over.1,
    )

-- A release holds the frame's word, and no entry, no core's word, no flush and no number.
pub release_frame : (x : Release) (h : Holding) → ((holds_release x h).marks (FrameAt x.frame) ≡ true)
    × ((holds_release x h).stands (FrameAt x.frame) ≡ x.word)
release_frame x h = (
  ap (λ b. if b then true else (holds_thaw x.thaw h).marks (FrameAt x.frame)) (same_same (FrameAt x.frame)),
  ap (λ b. if b then x.word else (holds_thaw x.thaw h).stands (FrameAt x.frame)) (same_same (FrameAt x.frame)),
)

pub release_entry : (x : Release) (h : Holding) (f i : ℕ) → SameAt (holds_release x h) h (EntryAt f i)
release_entry x h f i = thaw_plain x.thaw h (EntryAt f i) refl

pub release_flush : (x : Release) (h : Holding) (c : ℕ) → SameAt (holds_release x h) h (FlushAt c)
release_flush x h c = thaw_plain x.thaw h (FlushAt c) refl

pub release_away : (x : Release) (h : Holding) (f d : ℕ) → ThawsFrame x.frame x.thaw → f ≢ x.frame
    → SameAt (holds_release x h) h (CountAt f d)
release_away x h f d of other = thaw_away x.thaw h f x.frame d of other

-- A counter that is frozen.
frozen_at : (t : Thaw) (d : ℕ) → t.at ≤ d → d < length t.words → is_frozen t (CountAt t.frame d) ≡ true
frozen_at t d from below =
    ap (λ b. b && (nat_le t.at d && nat_lt d (length t.words))) (eq-eqb t.frame t.frame refl)
    ∙ ap (λ b. b && nat_lt d (length t.words)) (le-leb t.at d from) ∙ lt-ltb d (length t.words) below

pub thaw_here : (t : Thaw) (h : Holding) (d : ℕ) → t.at ≤ d → d < length t.words
    → ((holds_thaw (Some t) h).marks (CountAt t.frame d) ≡ true)
    × ((holds_thaw (Some t) h).stands (CountAt t.frame d) ≡ word_of_count (released t.clear (slice_get t.words d)))
thaw_here t h d from below = (
  ap (λ b. if b then true else h.marks (CountAt t.frame d)) (frozen_at t d from below),
  ap (λ b. if b then thawed t (CountAt t.frame d) else h.stands (CountAt t.frame d)) (frozen_at t d from below),
)

-- Which word is frozen: a counter of the frame, from the one that is next on.
pub record IsFrozenWord (t : Thaw) (w : Word) : Type 0 where
  pub d : ℕ
  pub word : w ≡ CountAt t.frame d
  pub from : t.at ≤ d
  pub below : d < length t.words

pub frozen_word : (t : Thaw) (w : Word) → is_frozen t w ≡ true → IsFrozenWord t w
frozen_word t (CountAt f d) is =
    let first = both (f == t.frame) (nat_le t.at d && nat_lt d (length t.words)) is in
    let rest = both (nat_le t.at d) (nat_lt d (length t.words)) first.1 in record {
      d = d;
      word = ap (λ (n : ℕ). CountAt n d) (eqb-true f t.frame first.0);
      from = leb-true t.at d rest.0;
      below = ltb-true d (length t.words) rest.1;
    }
  where
    both : (x y : Bool) → (x && y) ≡ true → (x ≡ true) × (y ≡ true)
    both true true h = (refl, refl)
    both _ _ h = absurd (false≢true h)
frozen_word t _ is = absurd (false≢true is)

-- The release of no counter is none.
abbrev pub thaw_from : Swept → Bool → Thaw
thaw_from w clear = record { frame = w.frame; words = w.words; clear = clear; at = 0 }

pub thaw_all : (w : Swept) (clear : Bool) (h : Holding) (u : Word)
    → SameAt (holds_thaw (thaw_of w clear) h) (holds_thaw (Some (thaw_from w clear)) h) u
thaw_all w clear h u = by (length w.words == 0) refl
  where
    by : (b : Bool) → (length w.words == 0) ≡ b
        → SameAt (holds_thaw (if b then None else Some (thaw_from w clear)) h) (holds_thaw (Some (thaw_from w clear)) h) u
    by false is = (refl, refl)
    by true is = (
      sym (ap (λ b. if b then true else h.marks u) (none (is_frozen (thaw_from w clear) u) refl)),
      sym (ap (λ b. if b then thawed (thaw_from w clear) u else h.stands u) (none (is_frozen (thaw_from w clear) u) refl)),
    )
      where
        none : (b : Bool) → is_frozen (thaw_from w clear) u ≡ b → b ≡ false
        none false at = refl
        none true at =
            let word = frozen_word (thaw_from w clear) u at in
            let below = word.below in
            let zero : length w.words ≡ 0 = eqb-true (length w.words) 0 is in
            absurd (omega (arith, below, zero))

-- The counters that a sweep has frozen are those of its frame.
pub thaws_own : (w : Swept) (clear : Bool) → ThawsFrame w.frame (thaw_of w clear)
thaws_own w clear = by (length w.words == 0)
  where
    by : (b : Bool) → ThawsFrame w.frame (if b then None else Some (thaw_from w clear))
    by true = tt
    by false = refl

-- No word is kept without a mark beside them.
pub thaw_bare : (o : Option Thaw) (h : Holding) (f i : ℕ) → (holds_thaw o h).bare f i ≡ h.bare f i
thaw_bare None h f i = refl
thaw_bare (Some t) h f i = refl

pub release_bare : (x : Release) (h : Holding) (f i : ℕ) → (holds_release x h).bare f i ≡ h.bare f i
release_bare x h f i = thaw_bare x.thaw h f i
