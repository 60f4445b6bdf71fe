-- What a decision makes of the counts that its call has acquired: each stands for what its commit will store, and so the counts of each
-- frame sum to the references that the decision leaves.
use Rattle.step_ways.proofs.{◌≡◌, ◌≢◌, ◌⊎◌, ℕ, suc, zero, ℤ, pos, negsuc, ◌+ℤ◌, ◌+◌, ◌^◌, ◌<◌, ◌≤◌, max, map, slice_get, true, false}
use Rattle.step_ways.proofs.{if◌then◌else◌, List, [], ◌∷◌, Option, Some, None, inl, inr, arith, refl, sym, ◌∙◌, ap, subst, false≢true, All}
use Rattle.step_ways.proofs.{Setting, IsSetting, Reply, CountFits, word_of_count, count_of_word, CountWord, Word, CountAt, same_word, Move}
use Rattle.step_ways.proofs.{word_of, left_of, FrameOf, State, put, refs, counters, count_in, count_sum, mark_of, marked_by, stamp, Step}
use Rattle.step_ways.proofs.{Trace, state_after, last_left, cases_word, same_word-other, unheld, later, stamp_of_change, Acquired, Due}
use Rattle.step_ways.proofs.{ActiveCall, Core, count_of, committed, holds_counts, settled_by, settled, SaysCount, WordIs, due_of, IsCount}
use Rattle.step_ways.proofs.{holds, held_by, times_of, count_shown, SumIs, Invariant, limits_of, ReadsAlike, others_settled, residue}
use Rattle.step_ways.proofs.{first_marked, first_stands, call_is, inner}
use Rattle.step_ways.specs.core_invariant.specs.{stamp_in, AreApart, newest_of}
use Rattle.step_ways.specs.kept_facts.proofs.{own_settled, counter_once}
use Rattle.std.proofs.lemmas.List.Elements.{All-nil, All-cons, All-head, All-tail, All-map, All-weaker}
use Rattle.plan_ways.specs.frame_words.proofs.ResidueLemmas.{wrapped_fits, residue_wrapped}
use Rattle.step_ways.specs.kept_facts.proofs.CountSums.{sum_same, sum_by, newest_same, newest_one}
use Rattle.{std.proofs.lemmas.Bool.cases_eq, step_ways.specs.stage_pins.specs.Counts.changed}
use Rattle.{step_ways.specs.stage_pins.proofs.PinLemmas.changed_none, step_ways.specs.core_invariant.proofs.Residues.plus_residue}
use Rattle.plan_ways.specs.frame_words.proofs.CountLemmas as counts

same_count : (f d g b : ℕ) → CountAt f d ≡ CountAt g b → (f ≡ g) × (d ≡ b)
same_count f d g b h = (cc, cc)

-- The later of a stamp and one that was drawn, if one was.
later_max : (x : ℕ) (o : Option ℕ) → later x o ≡ max x (later 0 o)
later_max x None = omega arith
later_max x (Some y) = omega arith

-- The stamp that a change brings is the one that was drawn, or none.
brought_small : (z : ℤ) (drawn : Option ℕ) → later 0 drawn < 2 ^ 43 → later 0 (stamp_of_change z drawn) < 2 ^ 43
brought_small (pos n) drawn small = omega arith
brought_small (negsuc n) drawn small = small

-- One of the counts that a call has acquired, and the only one of its frame: what the call's words of the frame are by it.
record IsOneOf (xs : List Acquired) (x : Acquired) : Type 0 where
  marked : (holds_counts None xs).marks (count_of x) ≡ true
  found : (holds_counts None xs).stands (count_of x) ≡ committed None x
  made : (drawn : Option ℕ) → (holds_counts (Some drawn) xs).stands (count_of x) ≡ committed (Some drawn) x
  bare : (d : ℕ) → d ≢ x.pin.core → (holds_counts None xs).marks (CountAt x.pin.frame d) ≡ false

-- A frame has one of the counts, or none.
record HasOne (xs : List Acquired) (f : ℕ) : Type 0 where
  x : Acquired
  i : ℕ
  at : slice_get xs i ≡ Some x
  frame : f ≡ x.pin.frame
  one : IsOneOf xs x

record HasNone (xs : List Acquired) (f : ℕ) : Type 0 where
  bare : (d : ℕ) → (holds_counts None xs).marks (CountAt f d) ≡ false
  apart : All (λ x. f ≢ x.pin.frame) xs

some_count : (x y : Acquired) → Some x ≡ Some y → x ≡ y
some_count x y h = cc

all_at : (P : Acquired → Type 0) (xs : List Acquired) (i : ℕ) (x : Acquired) → slice_get xs i ≡ Some x → All P xs → P x
all_at P [] i x is all = absurd (cc)
all_at P (y ∷ ys) zero x is all = subst P (some_count y x is) (All-head P y ys all)
all_at P (y ∷ ys) (suc i) x is all = all_at P ys i x is (All-tail P y ys all)

due_at : (P : Due → Type 0) (xs : List Acquired) (i : ℕ) (x : Acquired) → slice_get xs i ≡ Some x → All P (map due_of xs) → P (due_of x)
due_at P [] i x is all = absurd (cc)
due_at P (y ∷ ys) zero x is all =
    subst (λ z. P (due_of z)) (some_count y x is) (All-head P (due_of y) (map due_of ys) all)
due_at P (y ∷ ys) (suc i) x is all = due_at P ys i x is (All-tail P (due_of y) (map due_of ys) all)

-- Where the count of a frame is held by none of these, none of these is of the frame.
later_bare : (c : ℕ) (x : Acquired) (xs : List Acquired) → x.pin.core ≡ c → All (λ y. y.pin.core ≡ c) xs
    → (holds_counts None xs).marks (count_of x) ≡ false → HasOne xs x.pin.frame ⊎ HasNone xs x.pin.frame → (d : ℕ)
    → (holds_counts None xs).marks (CountAt x.pin.frame d) ≡ false
later_bare c x xs own cores bare (inr none) d = none.bare d
later_bare c x xs own cores bare (inl has) d =
    absurd (false≢true (sym bare ∙ ap (λ w. (holds_counts None xs).marks w) same_at ∙ has.one.marked))
  where
    same_at : count_of x ≡ count_of has.x
    same_at = ap (λ (g : ℕ). CountAt g x.pin.core) has.frame ∙ ap (λ (b : ℕ). CountAt has.x.pin.frame b)
        (own ∙ sym (all_at (λ y. y.pin.core ≡ c) xs has.i has.x has.at cores))

which : (c : ℕ) (xs : List Acquired) → All (λ x. x.pin.core ≡ c) xs → AreApart xs → (f : ℕ) → HasOne xs f ⊎ HasNone xs f
which c [] cores apart f = inr (record { bare = λ d. refl; apart = All-nil (λ x. f ≢ x.pin.frame) })
which c (x ∷ xs) cores apart f = elim (cases_eq f x.pin.frame) [
  | inl same ↦ inl (record {
    x = x;
    i = 0;
    at = refl;
    frame = same;
    one = record {
      marked = first_marked None x xs;
      found = first_stands None x xs;
      made = λ drawn. first_stands (Some drawn) x xs;
      bare = λ d other.
          ap (λ b. if b then true else (holds_counts None xs).marks (CountAt x.pin.frame d))
          (same_word-other (CountAt x.pin.frame d) (count_of x) (λ h. other (same_count _ _ _ _ h).1))
          ∙ later_bare c x xs (All-head (λ y. y.pin.core ≡ c) x xs cores) rest apart.0 (which c xs rest apart.1 x.pin.frame) d;
    };
  })
  | inr other ↦ elim (which c xs rest apart.1 f) [
    | inl has ↦ inl (record {
      x = has.x;
      i = suc has.i;
      at = has.at;
      frame = has.frame;
      one =
          let there : (d : ℕ) → same_word (CountAt has.x.pin.frame d) (count_of x) ≡ false =
          (λ d. same_word-other (CountAt has.x.pin.frame d) (count_of x) (λ h. other (has.frame ∙ (same_count _ _ _ _ h).0))) in
          record {
            marked = ap (λ b. if b then true else (holds_counts None xs).marks (count_of has.x)) (there has.x.pin.core)
                ∙ has.one.marked;
            found = ap (λ b. if b then committed None x else (holds_counts None xs).stands (count_of has.x))
                (there has.x.pin.core) ∙ has.one.found;
            made = λ drawn. ap (λ b. if b then committed (Some drawn) x else (holds_counts (Some drawn) xs).stands (count_of has.x))
                (there has.x.pin.core) ∙ has.one.made drawn;
            bare = λ d at_other. ap (λ b. if b then true else (holds_counts None xs).marks (CountAt has.x.pin.frame d)) (there d)
                ∙ has.one.bare d at_other;
          };
    })
    | inr none ↦ inr (record {
      bare = λ d. ap (λ b. if b then true else (holds_counts None xs).marks (CountAt f d))
          (same_word-other (CountAt f d) (count_of x) (λ h. other (same_count _ _ _ _ h).0)) ∙ none.bare d;
      apart = All-cons (λ y. f ≢ y.pin.frame) x xs other none.apart;
    })
  ]
]
  where
    rest : All (λ y. y.pin.core ≡ c) xs
    rest = All-tail (λ y. y.pin.core ≡ c) x xs cores

-- A word that a call holds by its counts is that of a count.
count_word : (xs : List Acquired) (w : Word) → (holds_counts None xs).marks w ≡ true → (f : ℕ) × (d : ℕ) × (w ≡ CountAt f d)
count_word [] w mark = absurd (false≢true mark)
count_word (x ∷ xs) w mark = elim (cases_word w (count_of x)) [
  | inl same ↦ (x.pin.frame, x.pin.core, same)
  | inr other ↦ count_word xs w (sym (ap (λ b. if b then true else (holds_counts None xs).marks w) (same_word-other w (count_of x) other))
      ∙ mark)
]

-- The call has drawn this stamp or none, and the dues of the counts that it has acquired are these. Of a frame that is spared the core
-- holds no count beside those; the frames of these are spared.
module _ (setup : Setting) (setting : IsSetting setup) (cores : ℕ → Core) (t : Trace) (stands : Invariant setup cores t) (c : ℕ)
    (here : c < setup.cores)
    (a : ActiveCall) (active : (cores c).active ≡ Some a) (drawn : Option ℕ) (drawn_small : later 0 drawn < 2 ^ 43)
    (ds : List Due) (all : ds ≡ map due_of a.counts)
    (spared : ℕ → Type 0) (all_spared : All (λ x. spared x.pin.frame) a.counts)
    (move : Move) (r : Reply) (after : Core) (still : (w : Word) → (holds after).marks w ≡ (holds (cores c)).marks w)
    (before_count : (f d : ℕ) → spared f → ((holds (cores c)).marks (CountAt f d) ≡ (holds_counts None a.counts).marks (CountAt f d))
    × ((holds (cores c)).stands (CountAt f d) ≡ (holds_counts None a.counts).stands (CountAt f d)))
    (after_count : (f d : ℕ) → spared f → (holds after).stands (CountAt f d) ≡ (holds_counts (Some drawn) a.counts).stands (CountAt f d))
    (alike : ReadsAlike setup t (inner setup setting cores t stands c here a active move (Some r) None))
    (was : marked_by setup t (word_of move) ≡ None) (now : mark_of (state_after setup t) (word_of move)
    (left_of move (last_left setup t (word_of move))) ≡ None)
    (no_count : (f d : ℕ) → CountAt f d ≢ word_of move) where
  abbrev e : Step
  e = inner setup setting cores t stands c here a active move (Some r) None

  abbrev s : State
  s = state_after setup t

  abbrev s' : State
  s' = state_after setup (e ∷ t)

  abbrev shown : ℕ → ℕ → Option CountWord
  shown = count_shown setup (held_by cores) t

  abbrev shown' : ℕ → ℕ → Option CountWord
  shown' = count_shown setup (held_by (put cores c after)) (e ∷ t)

  -- a count that the core has marked is one that the call has acquired
  own_word : (f d : ℕ) → spared f → marked_by setup t (CountAt f d) ≡ Some c → (holds_counts None a.counts).marks (CountAt f d) ≡ true
  own_word f d ok is = sym (before_count f d ok).0 ∙ (stands.marks (CountAt f d) c).owned is

  -- what the word of another count shows stays
  other_shown : (f d : ℕ) → spared f → ((holds_counts None a.counts).marks (CountAt f d) ≡ false) → shown' f d ≡ shown f d
  other_shown f d ok bare =
      ap count_of_word (others_settled setup cores t e after still alike was now (CountAt f d) (no_count f d)
      (λ is. false≢true (sym bare ∙ own_word f d ok is)) refl)

  all_known : All (IsCount setup t c a.call) a.counts
  all_known = (call_is setup setting cores t stands c here a active).counts

  own_cores : All (λ x. x.pin.core ≡ c) a.counts
  own_cores = All-weaker (IsCount setup t c a.call) (λ x. x.pin.core ≡ c) (λ x known. known.core) a.counts all_known

  which_of : (f : ℕ) → HasOne a.counts f ⊎ HasNone a.counts f
  which_of = which c a.counts own_cores (call_is setup setting cores t stands c here a active).apart

  module _ (f : ℕ) (has : HasOne a.counts f) where
    abbrev x : Acquired
    x = has.x

    ok : spared x.pin.frame
    ok = all_at (λ y. spared y.pin.frame) a.counts has.i x has.at all_spared

    known : IsCount setup t c a.call x
    known = all_at (IsCount setup t c a.call) a.counts has.i x has.at all_known

    abbrev frame : ℕ
    frame = x.pin.frame

    abbrev counter : ℕ
    counter = x.pin.core

    abbrev count : ℤ
    count = x.pin.word.count

    abbrev old : ℕ
    old = x.pin.word.stamp

    abbrev brought : Option ℕ
    brought = stamp_of_change x.change drawn

    abbrev new : ℕ
    new = later old brought

    own_mark : marked_by setup t (count_of x) ≡ Some c
    own_mark = (stands.marks (count_of x) c).kept ((before_count frame counter ok).0 ∙ has.one.marked)

    -- before the decision it shows the count that was found
    found_word : committed None x ≡ word_of_count (unheld count old)
    found_word = ap (λ y. word_of_count (unheld y old)) (changed_none count known.fits.1)

    settled_found : settled setup (held_by cores) t (count_of x) ≡ committed None x
    settled_found = ap (λ o. settled_by o (held_by cores) (count_of x) (last_left setup t (count_of x))) own_mark
        ∙ (before_count frame counter ok).1 ∙ has.one.found

    shows_found : shown frame counter ≡ Some (unheld count old)
    shows_found = ap count_of_word (settled_found ∙ found_word) ∙ counts.spelling.reads (unheld count old) known.fits

    -- after it, the count with the change, modulo 2 ^ 16, and the later stamp
    abbrev made_count : ℤ
    made_count = changed count x.change

    new_small : new < 2 ^ 43
    new_small =
        let a = later_max old brought in
        let b = known.fits.2 in
        let d = brought_small x.change drawn drawn_small in
        omega (arith, a, b, d)

    shows_made : count_of_word (committed (Some drawn) x) ≡ Some (unheld made_count new)
    shows_made = counts.spelling.reads (unheld made_count new) (tt, wrapped_fits (count +ℤ x.change), new_small)

    commits_one : SaysCount (count_of_word (committed (Some drawn) x))
    commits_one = record { count = made_count; stamp = new; says = shows_made }

    shows_after : shown' frame counter ≡ Some (unheld made_count new)
    shows_after = ap count_of_word (own_settled setup cores t e after still alike was now (count_of x) (no_count frame counter) own_mark
        ∙ after_count frame counter ok ∙ has.one.made drawn)
        ∙ shows_made

    core_below : x.pin.core < s.limits.cores
    core_below =
        let own = known.core in
        let limits : s.limits.cores ≡ setup.cores = ap (λ l. l.cores) (limits_of setup t) in
        omega (arith, own, limits, here)

    there_shown : (d : ℕ) → d ≢ counter → shown' frame d ≡ shown frame d
    there_shown d there = other_shown frame d ok (has.one.bare d there)

    -- the sum of the counts of its frame, and the newest of their stamps
    sum_here : residue (count_sum (shown' frame) (counters s.limits.cores))
        ≡ residue (count_sum (shown frame) (counters s.limits.cores) +ℤ x.change)
    sum_here = sum_by (shown frame) (shown' frame) (counters s.limits.cores) counter x.change
        (counter_once s.limits.cores x.pin.core core_below)
        there_shown
        (ap residue (ap count_in shows_after) ∙ residue_wrapped (count +ℤ x.change)
        ∙ ap (λ y. residue (y +ℤ x.change)) (sym (ap count_in shows_found)))

    newest_here : newest_of (shown' frame) (counters s.limits.cores) ≡ max (newest_of (shown frame) (counters s.limits.cores))
        (later 0 brought)
    newest_here = newest_one (shown frame) (shown' frame) (counters s.limits.cores) counter (later 0 brought)
        (counter_once s.limits.cores x.pin.core core_below)
        (λ d there. ap stamp_in (there_shown d there))
        (ap stamp_in shows_after ∙ later_max old brought ∙ sym
        (ap (λ (n : ℕ). max n (later 0 brought)) (ap stamp_in shows_found)))

  -- and so of every frame: the references change exactly where a due names the frame, by its change, and the last release is then the
  -- stamp that it brings
  module _ (cores_same : s'.limits.cores ≡ s.limits.cores) (kept : (f : ℕ) → spared f → All (λ d. f ≢ d.frame) ds
      → (refs s' f ≡ refs s f) × (stamp setup (e ∷ t) (FrameOf f) ≡ stamp setup t (FrameOf f)))
      (changes : All (λ d. (pos (refs s' d.frame) ≡ pos (refs s d.frame) +ℤ d.change)
      × (stamp setup (e ∷ t) (FrameOf d.frame) ≡ max (stamp setup t (FrameOf d.frame)) (later 0 (stamp_of_change d.change drawn)))) ds)
    where
      abbrev Changes : Due → Type 0
      Changes d = (pos (refs s' d.frame) ≡ pos (refs s d.frame) +ℤ d.change)
          × (stamp setup (e ∷ t) (FrameOf d.frame) ≡ max (stamp setup t (FrameOf d.frame)) (later 0 (stamp_of_change d.change drawn)))

      stays : (f : ℕ) → spared f → HasNone a.counts f → SumIs setup (held_by (put cores c after)) (e ∷ t) f
      stays f ok none =
          let same : (d : ℕ) → shown' f d ≡ shown f d = (λ d. other_shown f d ok (none.bare d)) in
          let stay = kept f ok (subst (All (λ d. f ≢ d.frame)) (sym all) (All-map (λ d. f ≢ d.frame) due_of a.counts none.apart)) in
          record {
            sum = ap (λ (n : ℕ). residue (count_sum (shown' f) (counters n))) cores_same
                ∙ ap residue (sum_same (shown f) (shown' f) (counters s.limits.cores) same) ∙ (stands.sums f).sum
                ∙ ap (λ (n : ℕ). residue (pos n)) (sym stay.0);
            newest = ap (λ (n : ℕ). newest_of (shown' f) (counters n)) cores_same
                ∙ newest_same (shown f) (shown' f) (counters s.limits.cores) (λ d. ap stamp_in (same d)) ∙ (stands.sums f).newest ∙ sym
                stay.1;
          }

      here_now : (f : ℕ) (has : HasOne a.counts f) → SumIs setup (held_by (put cores c after)) (e ∷ t) has.x.pin.frame
      here_now f has =
          let change : Changes (due_of has.x) = due_at Changes a.counts has.i has.x has.at (subst (All Changes) all changes) in
          record {
            sum = ap (λ (n : ℕ). residue (count_sum (shown' has.x.pin.frame) (counters n))) cores_same
                ∙ sum_here f has
                ∙ plus_residue (count_sum (shown has.x.pin.frame) (counters s.limits.cores)) (pos (refs s has.x.pin.frame)) has.x.change
                (stands.sums has.x.pin.frame).sum
                ∙ ap residue (sym change.0);
            newest = ap (λ (n : ℕ). newest_of (shown' has.x.pin.frame) (counters n)) cores_same
                ∙ newest_here f has ∙ ap (λ (n : ℕ). max n (later 0 (stamp_of_change has.x.change drawn)))
                (stands.sums has.x.pin.frame).newest
                ∙ sym change.1;
          }

      pub spared_sum : (f : ℕ) → spared f → SumIs setup (held_by (put cores c after)) (e ∷ t) f
      spared_sum f ok = elim (which_of f) [
        | inl has ↦ subst (λ (g : ℕ). SumIs setup (held_by (put cores c after)) (e ∷ t) g) (sym has.frame) (here_now f has)
        | inr none ↦ stays f ok none
      ]

  commits_count : (f d : ℕ) → (holds_counts None a.counts).marks (CountAt f d) ≡ true
      → WordIs s' (times_of setup (e ∷ t)) (CountAt f d) ((holds_counts (Some drawn) a.counts).stands (CountAt f d))
  commits_count f d mark = elim (which_of f) [
    | inl has ↦ elim (cases_eq d has.x.pin.core) [
      | inl same ↦
          let at : CountAt f d ≡ count_of has.x =
          ap (λ (g : ℕ). CountAt g d) has.frame ∙ ap (λ (b : ℕ). CountAt has.x.pin.frame b) same in
          subst (λ v. WordIs s' (times_of setup (e ∷ t)) v ((holds_counts (Some drawn) a.counts).stands v)) (sym at)
          (subst (λ (n : ℕ). SaysCount (count_of_word n)) (sym (has.one.made drawn)) (commits_one f has))
      | inr other ↦ absurd (false≢true (sym (ap (λ (g : ℕ). (holds_counts None a.counts).marks (CountAt g d)) has.frame
          ∙ has.one.bare d other) ∙ mark))
    ]
    | inr none ↦ absurd (false≢true (sym (none.bare d) ∙ mark))
  ]

  -- each count that the call holds says then what its commit will store
  pub spared_commit : (w : Word) → (holds_counts None a.counts).marks w ≡ true
      → WordIs s' (times_of setup (e ∷ t)) w ((holds_counts (Some drawn) a.counts).stands w)
  spared_commit w mark =
      let is = count_word a.counts w mark in
      subst (λ v. WordIs s' (times_of setup (e ∷ t)) v ((holds_counts (Some drawn) a.counts).stands v)) (sym is.2)
      (commits_count is.0 is.1 (subst (λ v. (holds_counts None a.counts).marks v ≡ true) is.2 mark))

all_unit : (xs : List Acquired) → All (λ x. Unit {0}) xs
all_unit [] = All-nil (λ x. Unit {0})
all_unit (x ∷ xs) = All-cons (λ x. Unit {0}) x xs tt (all_unit xs)

-- The core holds no other count.
module _ (setup : Setting) (setting : IsSetting setup) (cores : ℕ → Core) (t : Trace) (stands : Invariant setup cores t) (c : ℕ)
    (here : c < setup.cores)
    (a : ActiveCall) (active : (cores c).active ≡ Some a) (drawn : Option ℕ) (drawn_small : later 0 drawn < 2 ^ 43)
    (ds : List Due) (all : ds ≡ map due_of a.counts)
    (move : Move) (r : Reply) (after : Core) (still : (w : Word) → (holds after).marks w ≡ (holds (cores c)).marks w)
    (before_count : (f d : ℕ) → ((holds (cores c)).marks (CountAt f d) ≡ (holds_counts None a.counts).marks (CountAt f d))
    × ((holds (cores c)).stands (CountAt f d) ≡ (holds_counts None a.counts).stands (CountAt f d)))
    (after_count : (f d : ℕ) → (holds after).stands (CountAt f d) ≡ (holds_counts (Some drawn) a.counts).stands (CountAt f d))
    (alike : ReadsAlike setup t (inner setup setting cores t stands c here a active move (Some r) None))
    (was : marked_by setup t (word_of move) ≡ None) (now : mark_of (state_after setup t) (word_of move)
    (left_of move (last_left setup t (word_of move))) ≡ None)
    (no_count : (f d : ℕ) → CountAt f d ≢ word_of move) where
  abbrev e' : Step
  e' = inner setup setting cores t stands c here a active move (Some r) None

  abbrev before : State
  before = state_after setup t

  abbrev later_state : State
  later_state = state_after setup (e' ∷ t)

  pub dues_sum : later_state.limits.cores ≡ before.limits.cores
      → ((f : ℕ) → All (λ d. f ≢ d.frame) ds → (refs later_state f ≡ refs before f)
      × (stamp setup (e' ∷ t) (FrameOf f) ≡ stamp setup t (FrameOf f)))
      → All (λ d. (pos (refs later_state d.frame) ≡ pos (refs before d.frame) +ℤ d.change)
      × (stamp setup (e' ∷ t) (FrameOf d.frame) ≡ max (stamp setup t (FrameOf d.frame)) (later 0 (stamp_of_change d.change drawn)))) ds
      → (f : ℕ) → SumIs setup (held_by (put cores c after)) (e' ∷ t) f
  dues_sum cores_same kept changes f = spared_sum setup setting cores t stands c here a active drawn drawn_small ds all
      (λ g. Unit {0}) (all_unit a.counts) move r after still (λ g d ok. before_count g d) (λ g d ok. after_count g d) alike was now no_count
      cores_same (λ g ok. kept g) changes f tt

  pub dues_commit : (w : Word) → (holds_counts None a.counts).marks w ≡ true
      → WordIs later_state (times_of setup (e' ∷ t)) w ((holds_counts (Some drawn) a.counts).stands w)
  dues_commit = spared_commit setup setting cores t stands c here a active drawn drawn_small ds all
      (λ g. Unit {0}) (all_unit a.counts) move r after still (λ g d ok. before_count g d) (λ g d ok. after_count g d) alike was now no_count
