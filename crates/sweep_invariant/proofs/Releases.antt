-- The stores of a call that has swept a frame: after its decision it commits its counts, then it gives back the frame's counters, as they
-- were found or cleared, and at last the frame's word.
use Rattle.freeze_invariant.specs.step_ways.proofs.{◌≡◌, ◌≢◌, inl, inr, ℕ, ◌+◌, ◌^◌, ◌<◌, ◌≤◌, ◌==◌, ◌&&◌, ltb as nat_lt, leb as nat_le}
use Rattle.freeze_invariant.specs.step_ways.proofs.{length, Bool, true, false, List, [], ◌∷◌, Option, Some, None, IsTrue, arith, refl, sym}
use Rattle.freeze_invariant.specs.step_ways.proofs.{◌∙◌, ap, subst, ne_eqb, le-leb, leb-true, leb-false, ltb-true, ltb-false, Setting}
use Rattle.freeze_invariant.specs.step_ways.proofs.{IsSetting, Reply, count_of_word, word_of_count, Word, EntryAt, FrameAt, CountAt, CoreAt}
use Rattle.freeze_invariant.specs.step_ways.proofs.{FlushAt, LiveAt, ClockAt, same_word, Move, StoreOf, word_of, told_of, State, put}
use Rattle.freeze_invariant.specs.step_ways.proofs.{IsInFootprint, footprint_frames, is_one_of, marked_by, count_mark, Step, Trace}
use Rattle.freeze_invariant.specs.step_ways.proofs.{state_after, last_left, same_word-other, Acquired, Thaw, Nothing, StageFits, ActiveCall}
use Rattle.freeze_invariant.specs.step_ways.proofs.{Decided, GoesOn, went_with, Core, holds_release, holds_thaw, Holding, committed}
use Rattle.freeze_invariant.specs.step_ways.proofs.{count_of, holds_counts, settled, settled_by, IsCount, KnowsTail, KnowsUnmark, phase_at}
use Rattle.freeze_invariant.specs.step_ways.proofs.{Invariant, done_by, held_by, holds, holds_at, holds_in, SaysCount, as_none, counts_bare}
use Rattle.freeze_invariant.specs.step_ways.proofs.{counts_on, exclusive_elsewhere, if◌then◌else◌, slice_get, All, released}
use Rattle.freeze_invariant.specs.step_ways.proofs.{Release as release_tail, is_ok, tail_move, took_tail, spares_other, call_is}
use Rattle.freeze_invariant.specs.step_ways.proofs.{core_in_call, inner, is_active, GoodTook, same_marks}
use Rattle.freeze_invariant.specs.core_invariant.proofs.{AreApart, SameAt, release_away, release_bare, release_frame, thaw_here}
use Rattle.freeze_invariant.specs.act_states.specs.{commit_of, ThawFits, thaw_left_by}
use Rattle.std.proofs.{lemmas.Bool.cases_eq, lemmas.List.Elements.All-head, lemmas.List.Elements.All-tail}
use Rattle.freeze_invariant.specs.core_invariant.specs.Sweeps.{ThawsFrame, KnowsRelease}
use Rattle.freeze_invariant.specs.kernel_history.proofs.OwnCounts.{own_counts, untype_counts}
use Rattle.freeze_invariant.specs.stage_sweep.specs.Release.{at_next, more_end, thaw_after, thaw_end, thaw_move}
use Rattle.freeze_invariant.specs.core_invariant.proofs.Freezing.{is_count, release_over, thaw_plain}
use Rattle.{freeze_invariant.specs.kernel_history.specs.Discipline.may_count, freeze_invariant.specs.stage_pins.specs.Commit.settled_word}
use Rattle.{freeze_invariant.specs.act_states.specs.declared.untypings.Release.Release}
use Rattle.{freeze_invariant.specs.call_stages.specs.Tails.tail_counts}
use Rattle.{freeze_invariant.specs.count_invariant.proofs.MakingCounts.argument_footprint}
use Rattle.freeze_invariant.specs.frame_words.proofs.CountLemmas as counts
use Rattle.freeze_invariant.specs.step_ways.proofs.Counting as counting

some_inj : (x y : ℕ) → Some x ≡ Some y → x ≡ y
some_inj x y h = cc

stored_by : (r : Reply) (drawn : Option ℕ) (x : Acquired)
    → committed (done_by r drawn) x ≡ word_of_count (settled_word (commit_of (is_ok r) drawn x))
stored_by (Reply.Ok v) drawn x = refl
stored_by r drawn x = refl

no_frame : (fate : Option (Option ℕ)) (xs : List Acquired) (f : ℕ) → (holds_counts fate xs).marks (FrameAt f) ≡ false
no_frame fate [] f = refl
no_frame fate (x ∷ xs) f = no_frame fate xs f

-- The counter after this is the next.
le_next : (a d : ℕ) → d ≢ a → nat_le (a + 1) d ≡ nat_le a d
le_next a d other = by (nat_le a d) refl
  where
    past : (b : Bool) → nat_le (a + 1) d ≡ b → nat_le a d ≡ false → b ≡ false
    past false is not = refl
    past true is not = let more = leb-true (a + 1) d is in let less = leb-false a d not in absurd (omega (arith, more, less))

    by : (b : Bool) → nat_le a d ≡ b → nat_le (a + 1) d ≡ b
    by true is = le-leb (a + 1) d (let low = leb-true a d is in omega (arith, low, other))
    by false is = past (nat_le (a + 1) d) refl is

le_past : (a : ℕ) → nat_le (a + 1) a ≡ false
le_past a = by (nat_le (a + 1) a) refl
  where
    by : (b : Bool) → nat_le (a + 1) a ≡ b → b ≡ false
    by false is = refl
    by true is = let more = leb-true (a + 1) a is in absurd (omega (arith, more))

-- What is held of the frozen counters after the store of one.
module _ (th : Thaw) (h : Holding) where
  abbrev n : ℕ
  n = length th.words

  abbrev later : Bool → Thaw
  later more = record { frame = th.frame; words = th.words; clear = th.clear; at = at_next more th.at }

  -- another word is held as before
  count_rest : (more : Bool) → nat_lt (th.at + 1) n ≡ more → (g d : ℕ) → CountAt g d ≢ CountAt th.frame th.at
      → SameAt (holds_thaw (thaw_left_by (later more) (more_end more)) h) (holds_thaw (Some th) h) (CountAt g d)
  count_rest more more_is g d there = elim (cases_eq g th.frame) [
    | inl same ↦ own more more_is (λ at. there (ap (λ (k : ℕ). CountAt k d) same ∙ ap (λ (k : ℕ). CountAt th.frame k) at))
    | inr other ↦ away more other
  ]
    where
      away : (b : Bool) → g ≢ th.frame
          → SameAt (holds_thaw (thaw_left_by (later b) (more_end b)) h) (holds_thaw (Some th) h) (CountAt g d)
      away true other =
          let not : (g == th.frame) ≡ false = ne_eqb g th.frame other in (
            ap (λ b. if b && (nat_le (th.at + 1) d && nat_lt d n) then true else h.marks (CountAt g d)) not
                ∙ sym (ap (λ b. if b && (nat_le th.at d && nat_lt d n) then true else h.marks (CountAt g d)) not),
            ap (λ b. if b && (nat_le (th.at + 1) d && nat_lt d n) then word_of_count (released th.clear (slice_get th.words d)) else
                h.stands (CountAt g d)) not
                ∙ sym (ap (λ b. if b && (nat_le th.at d && nat_lt d n) then word_of_count (released th.clear (slice_get th.words d)) else
                h.stands (CountAt g d)) not),
          )
      away false other =
          let not : (g == th.frame) ≡ false = ne_eqb g th.frame other in (
            sym (ap (λ b. if b && (nat_le th.at d && nat_lt d n) then true else h.marks (CountAt g d)) not),
            sym (ap (λ b. if b && (nat_le th.at d && nat_lt d n) then word_of_count (released th.clear (slice_get th.words d)) else
                h.stands (CountAt g d)) not),
          )

      last_none : (low high : Bool) → nat_le th.at d ≡ low → nat_lt d n ≡ high → d ≢ th.at → n ≤ th.at + 1 → (low && high) ≡ false
      last_none false high low_is high_is other last = refl
      last_none true false low_is high_is other last = refl
      last_none true true low_is high_is other last =
          let from = leb-true th.at d low_is in
          let below = ltb-true d n high_is in
          absurd (omega (arith, from, below, other, last))

      and_false : (b : Bool) → (b && false) ≡ false
      and_false true = refl
      and_false false = refl

      own : (b : Bool) → nat_lt (th.at + 1) n ≡ b → d ≢ th.at
          → SameAt (holds_thaw (thaw_left_by (later b) (more_end b)) h) (holds_thaw (Some th) h) (CountAt g d)
      own true is other =
          let same = le_next th.at d other in (
            ap (λ b. if (g == th.frame) && (b && nat_lt d n) then true else h.marks (CountAt g d)) same,
            ap (λ b. if (g == th.frame) && (b && nat_lt d n) then word_of_count (released th.clear (slice_get th.words d)) else
                h.stands (CountAt g d)) same,
          )
      own false is other =
          let none : ((g == th.frame) && (nat_le th.at d && nat_lt d n)) ≡ false =
          ap (λ b. (g == th.frame) && b) (last_none (nat_le th.at d) (nat_lt d n) refl refl other (ltb-false (th.at + 1) n is))
          ∙ and_false (g == th.frame) in (
            sym (ap (λ b. if b then true else h.marks (CountAt g d)) none),
            sym (ap (λ b. if b then word_of_count (released th.clear (slice_get th.words d)) else h.stands (CountAt g d)) none),
          )

  plain_rest : (o : Option Thaw) (q : Word) → is_count q ≡ false
      → SameAt (holds_thaw o h) (holds_thaw (Some th) h) q
  plain_rest o q is =
      let first = thaw_plain o h q is in
      let second = thaw_plain (Some th) h q is in
      (first.0 ∙ sym second.0, first.1 ∙ sym second.1)

  abbrev next_thaw : Option Thaw
  next_thaw = thaw_left_by (thaw_after th) (thaw_end th)

  thaw_rest : (q : Word) → q ≢ CountAt th.frame th.at → SameAt (holds_thaw next_thaw h) (holds_thaw (Some th) h) q
  thaw_rest (CountAt g d) there = count_rest (nat_lt (th.at + 1) n) refl g d there
  thaw_rest (EntryAt g i) there = plain_rest next_thaw (EntryAt g i) refl
  thaw_rest (FrameAt g) there = plain_rest next_thaw (FrameAt g) refl
  thaw_rest (CoreAt d) there = plain_rest next_thaw (CoreAt d) refl
  thaw_rest (FlushAt d) there = plain_rest next_thaw (FlushAt d) refl
  thaw_rest (LiveAt l) there = plain_rest next_thaw (LiveAt l) refl
  thaw_rest ClockAt there = plain_rest next_thaw ClockAt refl

  -- the counter is held no more
  thaw_gone : h.marks (CountAt th.frame th.at) ≡ false → (holds_thaw next_thaw h).marks (CountAt th.frame th.at) ≡ false
  thaw_gone bare = by (nat_lt (th.at + 1) n)
    where
      and_false : (b : Bool) → (b && false) ≡ false
      and_false true = refl
      and_false false = refl

      by : (more : Bool) → (holds_thaw (thaw_left_by (later more) (more_end more)) h).marks (CountAt th.frame th.at) ≡ false
      by false = bare
      by true =
          let none : ((th.frame == th.frame) && (nat_le (th.at + 1) th.at && nat_lt th.at n)) ≡ false =
          ap (λ b. (th.frame == th.frame) && (b && nat_lt th.at n)) (le_past th.at) ∙ and_false (th.frame == th.frame) in
          ap (λ b. if b then true else h.marks (CountAt th.frame th.at)) none ∙ bare

  next_frame : (f : ℕ) → th.frame ≡ f → ThawsFrame f next_thaw
  next_frame f same = by (nat_lt (th.at + 1) n)
    where
      by : (more : Bool) → ThawsFrame f (thaw_left_by (later more) (more_end more))
      by true = same
      by false = tt

module _ (setup : Setting) (setting : IsSetting setup) (cores : ℕ → Core) (t : Trace) (stands : Invariant setup cores t) (c : ℕ)
    (here : c < setup.cores)
    (a : ActiveCall) (active : (cores c).active ≡ Some a) (r : Reply) (drawn : Option ℕ) (f word : ℕ) where
  abbrev s : State
  s = state_after setup t

  abbrev fate : Option (Option ℕ)
  fate = done_by r drawn

  abbrev release : Option Thaw → Release
  release o = record { frame = f; word = word; thaw = o }

  abbrev IsAt : Option Thaw → Type 0
  IsAt o = a.stage ≡ Decided r drawn (release_tail (release o))

  abbrev Known : Option Thaw → Type 0
  Known o = KnowsUnmark a.call f word × KnowsRelease a.call a.counts (release o)

  held_is : (o : Option Thaw) → IsAt o → holds (cores c) ≡ holds_release (release o) (holds_counts fate a.counts)
  held_is o is = ap holds_in active ∙ ap (λ stage. holds_at stage a.counts) is

  none_kept : (o : Option Thaw) (xs : List Acquired) (g i : ℕ) → (holds_release (release o) (holds_counts fate xs)).bare g i ≡ None
  none_kept o xs g i = release_bare (release o) (holds_counts fate xs) g i ∙ counts_bare fate xs g i

  frame_footprint : KnowsUnmark a.call f word → is_one_of f (footprint_frames s c a.call) ≡ true
  frame_footprint unmark = argument_footprint s c a.call f unmark.argument

  -- A count is committed.
  module _ (o : Option Thaw) (stage_is : IsAt o) (has : Known o) (x : Acquired) (xs : List Acquired) (counts_are : a.counts ≡ x ∷ xs) where
    abbrev stored : ℕ
    stored = word_of_count (settled_word (commit_of (is_ok r) drawn x))

    abbrev store : Move
    store = StoreOf (count_of x) stored

    release_known : KnowsRelease a.call (x ∷ xs) (release o)
    release_known = subst (λ ys. KnowsRelease a.call ys (release o)) counts_are has.1

    other_frame : x.pin.frame ≢ f
    other_frame = All-head (λ (y : Acquired). y.pin.frame ≢ f) x xs release_known.apart

    was_held : holds (cores c) ≡ holds_release (release o) (holds_counts fate (x ∷ xs))
    was_held = held_is o stage_is ∙ ap (λ ys. holds_release (release o) (holds_counts fate ys)) counts_are

    count_away : (h : Holding) → SameAt (holds_release (release o) h) h (count_of x)
    count_away h = release_away (release o) h x.pin.frame x.pin.core release_known.thaws other_frame

    own_mark : marked_by setup t (count_of x) ≡ Some c
    own_mark = (stands.marks (count_of x) c).kept (ap (λ h. h.marks (count_of x)) was_held
        ∙ (count_away (holds_counts fate (x ∷ xs))).0 ∙ counting.first_marked fate x xs)

    settles : settled setup (held_by cores) t (count_of x) ≡ stored
    settles = ap (λ p. settled_by p (held_by cores) (count_of x) (last_left setup t (count_of x))) own_mark
        ∙ ap (λ h. h.stands (count_of x)) was_held ∙ (count_away (holds_counts fate (x ∷ xs))).1
        ∙ counting.first_stands fate x xs ∙ stored_by r drawn x

    stored_says : SaysCount (count_of_word stored)
    stored_says = subst (λ (k : ℕ). SaysCount (count_of_word k)) settles (stands.words (count_of x))

    apart : AreApart (x ∷ xs)
    apart = subst AreApart counts_are (call_is setup setting cores t stands c here a active).apart

    known : All (IsCount setup t c a.call) (x ∷ xs)
    known = subst (All (IsCount setup t c a.call)) counts_are (call_is setup setting cores t stands c here a active).counts

    first : IsCount setup t c a.call x
    first = All-head (IsCount setup t c a.call) x xs known

    bare : (holds_release (release o) (holds_counts fate xs)).marks (count_of x) ≡ false
    bare = (count_away (holds_counts fate xs)).0 ∙ same_marks fate None xs (count_of x) ∙ apart.0

    commit_beside : GoodTook setup cores t c store (GoesOn (went_with a xs (Decided r drawn (release_tail (release o)))))
    commit_beside lands =
        let next : ActiveCall = went_with a xs (Decided r drawn (release_tail (release o))) in
        let e : Step = inner setup setting cores t stands c here a active store None None in
        let after : Core = core_in_call (cores c) (cores c).own.made next in
        let spells = counts.spelling.spells stored _ stored_says.says in
        counting.holds_on setup setting cores t stands c here a active store next (λ b. refl) (λ h. cc) refl
        (record { moves = own_counts a.call x.pin.frame c x.pin.core first.core first.counts; footprint = inr first.footprint }) lands
        (subst (λ (k : ℕ). k < 2 ^ 64) spells.1 (counts.spelling.small _ spells.0))
        (λ w there.
        let rest = counting.rest_elsewhere fate x xs w there in
        let over = release_over (release o) (holds_counts fate xs) (holds_counts fate (x ∷ xs)) w rest in
        (over.0 ∙ sym (ap (λ h. h.marks w) was_held), over.1 ∙ sym (ap (λ h. h.stands w) was_held)))
        (as_none (holds (cores c)) (holds after) (count_of x)
        (λ g i. ap (λ h. h.bare g i) was_held ∙ none_kept o (x ∷ xs) g i) (none_kept o xs))
        (ap count_mark stored_says.says ∙ sym (ap (λ b. if b then Some c else None) bare))
        (λ b other is. other (sym (some_inj c b (sym own_mark ∙ is))))
        (ap (λ b. settled_by (if b then Some c else None) (held_by (put cores c after)) (count_of x) stored) bare ∙ sym settles)
        (ap (phase_at a.call) stage_is)
        (λ carries. (
          has.0,
          record {
            range = release_known.range;
            retypes = release_known.retypes;
            counting = release_known.counting;
            thaws = release_known.thaws;
            apart = All-tail (λ (y : Acquired). y.pin.frame ≢ f) x xs release_known.apart;
          },
        ))
        (counts_on setup t e c a.call (λ own. refl) xs (All-tail (IsCount setup t c a.call) x xs known))
        apart.1
        (spares_other setup t e (λ g i h. cc)) (exclusive_elsewhere cores e (λ g i h. cc))

  -- All are committed: a counter of the frame is given back.
  module _ (th : Thaw) (stage_is : IsAt (Some th)) (has : Known (Some th)) (counts_are : a.counts ≡ []) where
    abbrev at : Word
    at = CountAt th.frame th.at

    abbrev given : ℕ
    given = word_of_count (released th.clear (slice_get th.words th.at))

    abbrev rest : Holding
    rest = holds_counts fate []

    its_fits : ThawFits (cores c).own.layout th
    its_fits = (subst (StageFits (cores c).own.layout) stage_is (is_active setup setting cores t stands c here a active).stage).thaw

    thaw_held : holds (cores c) ≡ holds_release (release (Some th)) rest
    thaw_held = held_is (Some th) stage_is ∙ ap (λ ys. holds_release (release (Some th)) (holds_counts fate ys)) counts_are

    frozen : ((holds_thaw (Some th) rest).marks at ≡ true) × ((holds_thaw (Some th) rest).stands at ≡ given)
    frozen = thaw_here th rest th.at (omega arith) its_fits.at

    thaw_mark : marked_by setup t at ≡ Some c
    thaw_mark = (stands.marks at c).kept (ap (λ h. h.marks at) thaw_held ∙ frozen.0)

    thaw_settles : settled setup (held_by cores) t at ≡ given
    thaw_settles = ap (λ p. settled_by p (held_by cores) at (last_left setup t at)) thaw_mark ∙ ap (λ h. h.stands at) thaw_held ∙ frozen.1

    given_says : SaysCount (count_of_word given)
    given_says = subst (λ (k : ℕ). SaysCount (count_of_word k)) thaw_settles (stands.words at)

    abbrev left : Option Thaw
    left = thaw_left_by (thaw_after th) (thaw_end th)

    gone : (holds_release (release left) rest).marks at ≡ false
    gone = thaw_gone th rest refl

    elsewhere : (w : Word) → w ≢ at → SameAt (holds_release (release left) rest) (holds_release (release (Some th)) rest) w
    elsewhere w there =
        let over = thaw_rest th rest w there in (
          ap (λ b. if same_word w (FrameAt f) then true else b) over.0,
          ap (λ (k : ℕ). if same_word w (FrameAt f) then word else k) over.1,
        )

    footprint_counter : IsInFootprint c a.call at s
    footprint_counter = subst (λ (k : ℕ). is_one_of k (footprint_frames s c a.call) ≡ true) (sym has.1.thaws) (frame_footprint has.0)

    counts_own : IsTrue (may_count c a.call th.frame th.at)
    counts_own = subst (λ k. IsTrue (may_count c k th.frame th.at)) (sym has.1.retypes)
        (untype_counts has.1.range f th.frame c th.at has.1.thaws)

    thaw_good : GoodTook setup cores t c (thaw_move th) (GoesOn (went_with a [] (Decided r drawn (release_tail (release left)))))
    thaw_good lands =
        let next : ActiveCall = went_with a [] (Decided r drawn (release_tail (release left))) in
        let e : Step = inner setup setting cores t stands c here a active (thaw_move th) None None in
        let after : Core = core_in_call (cores c) (cores c).own.made next in
        let spells = counts.spelling.spells given _ given_says.says in
        counting.holds_on setup setting cores t stands c here a active (thaw_move th) next (λ b. refl) (λ h. cc) refl
        (record { moves = counts_own; footprint = inl footprint_counter }) lands
        (subst (λ (k : ℕ). k < 2 ^ 64) spells.1 (counts.spelling.small _ spells.0))
        (λ w there.
        let over = elsewhere w there in
        (over.0 ∙ sym (ap (λ h. h.marks w) thaw_held), over.1 ∙ sym (ap (λ h. h.stands w) thaw_held)))
        (as_none (holds (cores c)) (holds after) at
        (λ g i. ap (λ h. h.bare g i) thaw_held ∙ none_kept (Some th) [] g i) (none_kept left []))
        (ap count_mark given_says.says ∙ sym (ap (λ b. if b then Some c else None) gone))
        (λ b other is. other (sym (some_inj c b (sym thaw_mark ∙ is))))
        (ap (λ b. settled_by (if b then Some c else None) (held_by (put cores c after)) at given) gone ∙ sym thaw_settles)
        (ap (phase_at a.call) stage_is)
        (λ carries. (
          has.0,
          record {
            range = has.1.range;
            retypes = has.1.retypes;
            counting = has.1.counting;
            thaws = next_frame th rest f has.1.thaws;
            apart = Rattle.std.proofs.lemmas.List.Elements.All-nil (λ (y : Acquired). y.pin.frame ≢ f);
          },
        ))
        (Rattle.std.proofs.lemmas.List.Elements.All-nil (IsCount setup (e ∷ t) c a.call)) tt
        (spares_other setup t e (λ g i h. cc)) (exclusive_elsewhere cores e (λ g i h. cc))

  -- And then its word.
  module _ (stage_is : IsAt None) (has : Known None) (counts_are : a.counts ≡ []) where
    abbrev give_back : Move
    give_back = StoreOf (FrameAt f) word

    abbrev none : Holding
    none = holds_counts fate []

    was_marked : holds (cores c) ≡ holds_release (release None) none
    was_marked = held_is None stage_is ∙ ap (λ ys. holds_release (release None) (holds_counts fate ys)) counts_are

    its_mark : marked_by setup t (FrameAt f) ≡ Some c
    its_mark = (stands.marks (FrameAt f) c).kept (ap (λ h. h.marks (FrameAt f)) was_marked ∙ (release_frame (release None) none).0)

    its_value : settled setup (held_by cores) t (FrameAt f) ≡ word
    its_value = ap (λ p. settled_by p (held_by cores) (FrameAt f) (last_left setup t (FrameAt f))) its_mark
        ∙ ap (λ h. h.stands (FrameAt f)) was_marked ∙ (release_frame (release None) none).1

    bare_good : GoodTook setup cores t c give_back (GoesOn (went_with a [] (Decided r drawn Nothing)))
    bare_good lands =
        let next : ActiveCall = went_with a [] (Decided r drawn Nothing) in
        let e : Step = inner setup setting cores t stands c here a active give_back None None in
        let after : Core = core_in_call (cores c) (cores c).own.made next in
        counting.holds_on setup setting cores t stands c here a active give_back next (λ b. refl) (λ h. cc) refl
        (record { moves = has.0.changes; footprint = inl (frame_footprint has.0) }) lands has.0.small
        (λ w there. (
          sym (ap (λ h. h.marks w) was_marked ∙ ap (λ b. if b then true else none.marks w) (same_word-other w (FrameAt f) there)),
          sym (ap (λ h. h.stands w) was_marked ∙ ap (λ b. if b then word else none.stands w) (same_word-other w (FrameAt f) there)),
        ))
        (as_none (holds (cores c)) (holds after) (FrameAt f)
        (λ g i. ap (λ h. h.bare g i) was_marked ∙ none_kept None [] g i) (counts_bare fate []))
        (has.0.bare ∙ sym (ap (λ b. if b then Some c else None) (no_frame fate [] f)))
        (λ b other is. other (sym (some_inj c b (sym its_mark ∙ is))))
        (ap (λ b. settled_by (if b then Some c else None) (held_by (put cores c after)) (FrameAt f) word)
        (no_frame fate [] f) ∙ sym its_value)
        (ap (phase_at a.call) stage_is)
        (λ carries. tt)
        (Rattle.std.proofs.lemmas.List.Elements.All-nil (IsCount setup (e ∷ t) c a.call)) tt
        (spares_other setup t e (λ g i h. cc)) (exclusive_elsewhere cores e (λ g i h. cc))

-- The step of a call that has still to release a frame.
pub release_good : (setup : Setting) → IsSetting setup
    → (cores : ℕ → Core) (t : Trace) → Invariant setup cores t → (c : ℕ) → c < setup.cores
    → (a : ActiveCall) → (cores c).active ≡ Some a → (r : Reply) (drawn : Option ℕ) (x : Release)
    → a.stage ≡ Decided r drawn (release_tail x) → KnowsTail setup t c a.call a.counts (release_tail x)
    → GoodTook setup cores t c (tail_move r drawn (release_tail x) a.counts)
    (GoesOn (went_with a (tail_counts (release_tail x) a.counts) (took_tail r drawn (release_tail x) a.counts
    (told_of (tail_move r drawn (release_tail x) a.counts) (last_left setup t (word_of (tail_move r drawn (release_tail x) a.counts)))))))
release_good setup setting cores t stands c here a active r drawn x is has = by a.counts refl x.thaw is has
  where
    Goal : List Acquired → Option Thaw → Type 0
    Goal xs o = GoodTook setup cores t c (tail_move r drawn (release_tail (record { frame = x.frame; word = x.word; thaw = o })) xs)
        (GoesOn (went_with a (tail_counts (release_tail (record { frame = x.frame; word = x.word; thaw = o })) xs)
        (took_tail r drawn (release_tail (record { frame = x.frame; word = x.word; thaw = o })) xs
        (told_of (tail_move r drawn (release_tail (record { frame = x.frame; word = x.word; thaw = o })) xs)
        (last_left setup t (word_of (tail_move r drawn (release_tail (record { frame = x.frame; word = x.word; thaw = o })) xs)))))))

    by : (xs : List Acquired) → a.counts ≡ xs → (o : Option Thaw)
        → a.stage ≡ Decided r drawn (release_tail (record { frame = x.frame; word = x.word; thaw = o }))
        → KnowsTail setup t c a.call a.counts (release_tail (record { frame = x.frame; word = x.word; thaw = o })) → Goal xs o
    by (y ∷ ys) counts_are o at knows =
        commit_beside setup setting cores t stands c here a active r drawn x.frame x.word o at knows y ys counts_are
    by [] counts_are (Some th) at knows =
        thaw_good setup setting cores t stands c here a active r drawn x.frame x.word th at knows counts_are
    by [] counts_are None at knows = bare_good setup setting cores t stands c here a active r drawn x.frame x.word at knows counts_are
