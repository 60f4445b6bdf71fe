-- The way in which a call makes a step by which its core marks a word or gives it back; and what the counts are that it then holds.
use Rattle.kept_facts.proofs.{◌≡◌, ◌≢◌, ℕ, ◌+◌, ◌++◌, ◌^◌, ◌<◌, Bool, true, false, if◌then◌else◌, List, [], ◌∷◌, Option, Some, None, arith}
use Rattle.kept_facts.proofs.{refl, sym, ◌∙◌, ap, All, false≢true, Setting, IsSetting, Word, CountAt, FlushAt, ClockAt, same_word, Move}
use Rattle.kept_facts.proofs.{word_of, left_of, same_same, FrameOf, put, Step, Trace, state_after, last_left, mark_of, marked_by, MayFollow}
use Rattle.kept_facts.proofs.{same_word-other, phase-own, steps_in_call-own, last_left-there, Acquired, ActiveCall, Core, count_of}
use Rattle.kept_facts.proofs.{committed, holds_counts, AreApart, settled_by, settled, phase_at, Knows, IsCount, CoreIs, flushing_in}
use Rattle.kept_facts.proofs.{holds_in, holds, held_by, Invariant, marks_own, sums_stay, calm_words, none_stored, IsUntimed, plain_time}
use Rattle.kept_facts.proofs.{plain_exit, AsBefore, SparesExclusive, hold_marks, hold_words, settled_stays, calm_same, exclusive_still}
use Rattle.step_ways.proofs.{Flushing.still_flushed, Good.IsGood, Good.SparesBlanks, Users.spares_none, Loads.Lands, Loads.IsOfCall}
use Rattle.step_ways.proofs.{Loads.core_in_call, Loads.core_is, Loads.call_is, Loads.in_call, Loads.inner, Loads.inner_within}
use Rattle.{kept_facts.specs.trace_laws.proofs.Carries.Carries, kept_facts.specs.trace_laws.proofs.Carries.carries_own}
use Rattle.{kept_facts.specs.kernel_history.proofs.Names.same_word-same, kept_facts.proofs.Calm.plain_flushed}
use Rattle.{kept_facts.proofs.Exclusive.keeps_given, step_ways.proofs.Loads.inner_disciplined, step_ways.proofs.Loads.inner_footprint}

-- A step of a call, within it, on the word of a count, of an entry or of a frame: what the core holds of other words stays, no other core
-- has marked the word, and what the word stands for stays too.
module _ (setup : Setting) (setting : IsSetting setup) (cores : ℕ → Core) (t : Trace) (stands : Invariant setup cores t) (c : ℕ)
    (here : c < setup.cores)
    (a : ActiveCall) (active : (cores c).active ≡ Some a) (move : Move) (next : ActiveCall) where
  abbrev pub e : Step
  e = inner setup setting cores t stands c here a active move None None

  abbrev pub after : Core
  after = core_in_call (cores c) (cores c).own.made next

  abbrev pub was : ℕ
  was = last_left setup t (word_of move)

  pub holds_on : ((b : ℕ) → same_word (FlushAt b) (word_of move) ≡ false) → ClockAt ≢ word_of move → next.steps ≡ a.steps + 1
      → IsOfCall setup t c a.call move → Lands setup after (word_of move) → left_of move was < 2 ^ 64
      → ((w : Word) → w ≢ word_of move
      → ((holds after).marks w ≡ (holds (cores c)).marks w) × ((holds after).stands w ≡ (holds (cores c)).stands w))
      → AsBefore (holds (cores c)) (holds after) (word_of move)
      → mark_of (state_after setup t) (word_of move) (left_of move was) ≡ (if (holds after).marks (word_of move) then Some c else None)
      → ((b : ℕ) → b ≢ c → marked_by setup t (word_of move) ≡ Some b → ⊥)
      → settled_by (if (holds after).marks (word_of move) then Some c else None) (held_by (put cores c after)) (word_of move)
      (left_of move was) ≡ settled setup (held_by cores) t (word_of move)
      → phase_at a.call a.stage ≡ phase_at next.call next.stage
      → (Carries setup t e c → Knows setup (e ∷ t) c (cores c).own.table next) → All (IsCount setup (e ∷ t) c next.call) next.counts
      → AreApart next.counts
      → SparesBlanks setup t e → SparesExclusive cores e
      → IsGood setup cores t e after
  holds_on flushes not_clock one_more of_call lands small elsewhere bares now unowned settles same_phase knows counts apart blanks spares =
      let plain : IsUntimed setup t e = record {
        begins = λ x. refl;
        ends = λ x. refl;
        flushes = refl;
        apart = λ b. none_stored t c b _ (flushes b);
        same = last_left-there setup ClockAt e t not_clock;
      } in
      let follows : MayFollow setup t e = record {
        is_core = here;
        is_in = lands.is_in;
        found = refl;
        small = small;
        enters = tt;
        in_call = in_call setup setting cores t stands c here a active;
        decides = tt;
        returns = tt;
      } in
      let marks = hold_marks setup cores t e after (λ g. refl) elsewhere bares now unowned settles stands.marks in
      let is : CoreIs setup (cores c) t c = core_is setup setting cores t stands c here a active in
      record {
        follows = follows;
        within = inner_within setup setting cores t stands c here a active move None None;
        alone = λ is_alone. tt;
        disciplined = inner_disciplined setup setting cores t stands c here a active move None None of_call
            (marks_own setup cores t e after (λ w there. (elsewhere w there).0) stands.marks marks)
            (λ b m other. absurd (unowned b other m));
        footprint = inner_footprint setup setting cores t stands c here a active move None None of_call;
        blanks = blanks;
        counted = spares_none setup t e (λ f. plain.ends (FrameOf f));
        marks = marks;
        words = hold_words setup cores t e after (λ g. refl) elsewhere bares now unowned settles
            (λ v. calm_words setup t e (calm_same (state_after setup t) c) plain v (λ g i h. refl) (λ b h. (refl, plain_exit t e refl b)))
            stands.words;
        exclusive = exclusive_still setup cores t stands e after (keeps_given setup cores t e after bares) refl marks;
        spares = spares;
        sums = sums_stay setup t e (held_by cores) (held_by (put cores c after))
            (λ g b. settled_stays setup cores t e after (λ g. refl) elsewhere bares now unowned settles (CountAt g b))
            (calm_same (state_after setup t) c) plain (λ g i. refl) stands.sums;
        draws = (let a = stands.draws in let b = plain.same in omega arith);
        time = plain_time setup t e plain;
        leaves = tt;
        own = record {
          fits = lands.fits;
          number = is.number;
          shape = is.shape;
          limit = is.limit;
          epochs = is.epochs;
          works = is.works;
          exit = is.exit ∙ sym (plain_exit t e refl c);
          flushed = λ done. plain_flushed setup t e plain c (is.flushed (ap flushing_in active ∙ still_flushed setup t c
              (cores c).own.table a next.stage next.counts (call_is setup setting cores t stands c here a active).knows
              ((elsewhere (FlushAt c) (λ h. false≢true (sym (flushes c) ∙ same_word-same (FlushAt c) (word_of move) h))).1
              ∙ ap (λ o. (holds_in o).stands (FlushAt c)) active) done));
          active = record {
            phase = phase-own c e t refl ∙ (call_is setup setting cores t stands c here a active).phase ∙ same_phase;
            steps = steps_in_call-own c e t refl ∙ ap (λ (n : ℕ). n + 1) (call_is setup setting cores t stands c here a active).steps ∙
                sym one_more;
            knows = knows (carries_own setup setting t stands.legal e follows (plain_time setup t e plain) stands.graces refl refl refl);
            counts = counts;
            apart = apart;
          };
        };
      }

-- One count more is held: its word is, and what is held of other words stays.
pub more_elsewhere : (fate : Option (Option ℕ)) (xs : List Acquired) (x : Acquired) (w : Word) → w ≢ count_of x
    → ((holds_counts fate (xs ++ x ∷ [])).marks w ≡ (holds_counts fate xs).marks w) ×
    ((holds_counts fate (xs ++ x ∷ [])).stands w ≡ (holds_counts fate xs).stands w)
more_elsewhere fate [] x w there = (
  ap (λ b. if b then true else false) (same_word-other w (count_of x) there),
  ap (λ b. if b then committed fate x else 0) (same_word-other w (count_of x) there),
)
more_elsewhere fate (y ∷ ys) x w there =
    let rest = more_elsewhere fate ys x w there in (
      ap (λ b. if same_word w (count_of y) then true else b) rest.0,
      ap (λ (n : ℕ). if same_word w (count_of y) then committed fate y else n) rest.1,
    )

pub more_marked : (fate : Option (Option ℕ)) (xs : List Acquired) (x : Acquired)
    → (holds_counts fate (xs ++ x ∷ [])).marks (count_of x) ≡ true
more_marked fate [] x = ap (λ b. if b then true else false) (same_same (count_of x))
more_marked fate (y ∷ ys) x =
    ap (λ b. if same_word (count_of x) (count_of y) then true else b) (more_marked fate ys x) ∙ both (same_word (count_of x) (count_of y))
  where
    both : (b : Bool) → (if b then true else true) ≡ true
    both true = refl
    both false = refl

-- It stands for its commit, where it was not held before.
pub more_stands : (fate : Option (Option ℕ)) (xs : List Acquired) (x : Acquired) → (holds_counts fate xs).marks (count_of x) ≡ false
    → (holds_counts fate (xs ++ x ∷ [])).stands (count_of x) ≡ committed fate x
more_stands fate [] x new = ap (λ b. if b then committed fate x else 0) (same_same (count_of x))
more_stands fate (y ∷ ys) x new = by (same_word (count_of x) (count_of y)) new (more_stands fate ys x)
  where
    by : (b : Bool) → (if b then true else (holds_counts fate ys).marks (count_of x)) ≡ false
        → ((holds_counts fate ys).marks (count_of x) ≡ false → (holds_counts fate (ys ++ x ∷ [])).stands (count_of x) ≡ committed fate x)
        → (if b then committed fate y else (holds_counts fate (ys ++ x ∷ [])).stands (count_of x)) ≡ committed fate x
    by true new rest = absurd (false≢true (sym new))
    by false new rest = rest new

-- No count is then acquired twice.
pub more_apart : (xs : List Acquired) (x : Acquired) → AreApart xs → (holds_counts None xs).marks (count_of x) ≡ false
    → AreApart (xs ++ x ∷ [])
more_apart [] x apart new = (refl, tt)
more_apart (y ∷ ys) x apart new = (
  (more_elsewhere None ys x (count_of y) (λ same. false≢true (sym new ∙ ap
      (λ b. if b then true else (holds_counts None ys).marks (count_of x)) (same_word-same (count_of x) (count_of y) (sym same))))).0 ∙
      apart.0,
  more_apart ys x apart.1 (rest (same_word (count_of x) (count_of y)) new),
)
  where
    rest : (b : Bool) → (if b then true else (holds_counts None ys).marks (count_of x)) ≡ false
        → (holds_counts None ys).marks (count_of x) ≡ false
    rest true new = absurd (false≢true (sym new))
    rest false new = new

-- The earliest count is given back: its word is held no more, and what is held of other words stays.
pub rest_elsewhere : (fate : Option (Option ℕ)) (x : Acquired) (xs : List Acquired) (w : Word) → w ≢ count_of x
    → ((holds_counts fate xs).marks w ≡ (holds_counts fate (x ∷ xs)).marks w) ×
    ((holds_counts fate xs).stands w ≡ (holds_counts fate (x ∷ xs)).stands w)
rest_elsewhere fate x xs w there = (
  ap (λ b. if b then true else (holds_counts fate xs).marks w) (sym (same_word-other w (count_of x) there)),
  ap (λ b. if b then committed fate x else (holds_counts fate xs).stands w) (sym (same_word-other w (count_of x) there)),
)

pub first_marked : (fate : Option (Option ℕ)) (x : Acquired) (xs : List Acquired) → (holds_counts fate (x ∷ xs)).marks (count_of x) ≡ true
first_marked fate x xs = ap (λ b. if b then true else (holds_counts fate xs).marks (count_of x)) (same_same (count_of x))

pub first_stands : (fate : Option (Option ℕ)) (x : Acquired) (xs : List Acquired)
    → (holds_counts fate (x ∷ xs)).stands (count_of x) ≡ committed fate x
first_stands fate x xs = ap (λ b. if b then committed fate x else (holds_counts fate xs).stands (count_of x)) (same_same (count_of x))
