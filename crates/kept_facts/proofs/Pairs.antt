-- What a call knows of two temporal capabilities it knows still after a step that spares their words.
use Rattle.core_invariant.proofs.{◌≡◌, ◌≢◌, ◌⊎◌, inl, inr, ℕ, zero, suc, ◌<◌, ◌≤◌, ◌==◌, ◌&&◌, not, Bool, true, false, IsSome, is_some}
use Rattle.core_invariant.proofs.{if◌then◌else◌, List, Option, Some, None, arith, refl, sym, ◌∙◌, ap, subst, ◌∷◌, eq-eqb, ne_eqb}
use Rattle.core_invariant.proofs.{false≢true, Setting, word_of_head, head_of_word, quality_of_word, HeadWord, Word, EntryAt, FrameAt}
use Rattle.core_invariant.proofs.{CountAt, CoreAt, FlushAt, LiveAt, ClockAt, word_of, left_of, Kernel, Tcap, TcapFields, mark_in_frame}
use Rattle.core_invariant.proofs.{head_mark, marked_by, Step, Trace, state_after, last_left, own_read, cases_word, last_left-here}
use Rattle.core_invariant.proofs.{last_left-there, marked, read_word, Pair, PairAt, MarkA, ListA, LoadB, ListB, CompareB, AgainB}
use Rattle.core_invariant.proofs.{list_changed, TurnsHead, SparesTcap, list_word, read_up, HasMarkedA, HasBoth}
use Rattle.core_invariant.proofs.{KnowsPairAt, StoresA, HeadFits}
use Rattle.core_invariant.specs.{turns_list, HasSeenB, KeepsList, KnowsRefillAt}
use Rattle.core_invariant.specs.{Shares.MayTurn, Shares.ReadsHead, Shares.HasReadB, Refills.HasReadList, Refills.HasWeighed}
use Rattle.{core_invariant.specs.act_states.specs.Refill, core_invariant.specs.act_states.specs.RefillAt, std.proofs.lemmas.Bool.cases_eq}
use Rattle.thread_laws.specs.tcap_words.proofs.HeadLemmas as heads

-- A list is read alike from words that are alike.
pub read_alike : (w v : ℕ → ℕ) (n : ℕ) → ((j : ℕ) → w j ≡ v j) → read_up w n ≡ read_up v n
read_alike w v zero same = refl
read_alike w v (suc n) same =
    ap (λ o. read_word o (quality_of_word (w n))) (read_alike w v n same)
    ∙ ap (λ (x : ℕ). read_word (read_up v n) (quality_of_word x)) (same n)

first_entry : (f g i : ℕ) → EntryAt f 0 ≡ EntryAt g i → (f ≡ g) × (i ≡ 0)
first_entry f g i h = (cc, cc)

list_entry : (f g j i : ℕ) → EntryAt f (suc j) ≡ EntryAt g i → (f ≡ g) × (suc j ≡ i)
list_entry f g j i h = (cc, cc)

-- Whether the list was changed, after a step that leaves its word, or is on another frame's, or on no entry.
kept_list : (w : Word) (f : ℕ) (before : Bool) → turns_list w true f before ≡ before
kept_list (EntryAt g zero) f before = by (g == f)
  where
    by : (b : Bool) → (if b && false then false else before) ≡ before
    by true = refl
    by false = refl
kept_list (EntryAt g (suc i)) f before = by (g == f)
  where
    by : (b : Bool) → (if b && false then true else before) ≡ before
    by true = refl
    by false = refl
kept_list _ f before = refl

away_list : (w : Word) (same : Bool) (f : ℕ) (before : Bool) → ((i : ℕ) → w ≢ EntryAt f i) → turns_list w same f before ≡ before
away_list (EntryAt g zero) same f before away =
    ap (λ b. if b && not same then false else before) (ne_eqb g f (λ h. away 0 (ap (λ (x : ℕ). EntryAt x 0) h)))
away_list (EntryAt g (suc i)) same f before away =
    ap (λ b. if b && not same then true else before) (ne_eqb g f (λ h. away (suc i) (ap (λ (x : ℕ). EntryAt x (suc i)) h)))
away_list _ same f before away = refl

module _ (setup : Setting) (t : Trace) (e : Step) (found_is : e.found ≡ last_left setup t (word_of e.move)) where
  abbrev left : ℕ
  left = left_of e.move e.found

  -- a word that the step leaves, or that it is not on
  pub left_same : (w : Word) → (w ≡ word_of e.move → left ≡ e.found) → last_left setup (e ∷ t) w ≡ last_left setup t w
  left_same w kept = elim (cases_word w (word_of e.move)) [
    | inl here ↦ last_left-here setup w e t here ∙ kept here ∙ found_is ∙ ap (last_left setup t) (sym here)
    | inr there ↦ last_left-there setup w e t there
  ]

  -- where the step leaves each word of the frame, its list is as changed as it was
  pub list_same : (f : ℕ) → ((i : ℕ) → EntryAt f i ≡ word_of e.move → left ≡ e.found) → list_changed (e ∷ t) f ≡ list_changed t f
  list_same f kept = by (left == e.found) refl
    where
      by : (same : Bool) → (left == e.found) ≡ same → turns_list (word_of e.move) (left == e.found) f (list_changed t f) ≡ list_changed t f
      by true is = ap (λ b. turns_list (word_of e.move) b f (list_changed t f)) is ∙ kept_list (word_of e.move) f (list_changed t f)
      by false is =
          away_list (word_of e.move) (left == e.found) f (list_changed t f)
          (λ i at. false≢true (sym is ∙ eq-eqb left e.found (kept i (sym at))))

  -- A's words stay, where the step leaves each of them.
  pub marked_on : (p : Pair) (n : ℕ) → ((i : ℕ) → EntryAt p.a i ≡ word_of e.move → left ≡ e.found) → HasMarkedA setup t p n
      → HasMarkedA setup (e ∷ t) p n
  marked_on p n kept has = record {
    raw = left_same (EntryAt p.a 0) (kept 0) ∙ has.raw;
    fits = has.fits;
    bare = has.bare;
    enough = has.enough;
    list = has.list ∙ sym (read_alike (list_word setup (e ∷ t) p.a) (list_word setup t p.a) n
        (λ j. left_same (EntryAt p.a (suc j)) (kept (suc j))));
    clean = list_same p.a kept ∙ has.clean;
  }

  pub stores_on_a : (p : Pair) → ((i : ℕ) → EntryAt p.a i ≡ word_of e.move → left ≡ e.found) → StoresA setup t p → StoresA setup (e ∷ t) p
  stores_on_a p kept has = record {
    raw = left_same (EntryAt p.a 0) (kept 0) ∙ has.raw;
    fits = has.fits;
    bare = has.bare;
    clean = list_same p.a kept ∙ has.clean;
  }

  -- B's list stays, where the step leaves each of its words.
  pub keeps_on_b : (p : Pair) → ((i : ℕ) → EntryAt p.b i ≡ word_of e.move → left ≡ e.found) → KeepsList setup t p
      → KeepsList setup (e ∷ t) p
  keeps_on_b p kept has = record {
    clean = list_same p.b kept ∙ has.clean;
    words = λ j low. left_same (EntryAt p.b (suc j)) (kept (suc j)) ∙ has.words j low;
  }

  -- Another core leaves each word of a temporal capability whose head this core has marked.
  module _ (f c : ℕ) (other : c ≢ e.core) (h : HeadWord) (shown : head_of_word (last_left setup t (EntryAt f 0)) ≡ Some h)
      (mark : h.mark ≡ Some c) (mark_is : marked_by setup t (EntryAt f 0) ≡ head_mark (head_of_word (last_left setup t (EntryAt f 0))))
      (spares : (i : ℕ) → word_of e.move ≡ EntryAt f i → SparesTcap setup t e f i) where
    some_same : (x y : ℕ) → Some x ≡ Some y → x ≡ y
    some_same x y is = cc

    no_turn : MayTurn e.core h.mark → ⊥
    no_turn (inl none) = absurd (not_none (sym mark ∙ none))
      where
        not_none : Some c ≡ None → ⊥
        not_none is = cc
    no_turn (inr own) = other (some_same c e.core (sym mark ∙ own))

    head_kept : (x y : Option HeadWord) → x ≡ Some h → TurnsHead e.core (list_changed t f) x y → left ≡ e.found
    head_kept None y is turns = absurd (cc)
    head_kept (Some k) None is turns = absurd turns
    head_kept (Some k) (Some l) is turns = absurd (no_turn (subst (λ o. MayTurn e.core o) (ap (λ v. v.mark) (same k h is)) turns.0))
      where
        same : (v u : HeadWord) → Some v ≡ Some u → v ≡ u
        same v u is = cc

    pub kept_all : (i : ℕ) → EntryAt f i ≡ word_of e.move → left ≡ e.found
    kept_all zero at = by (spares 0 (sym at))
      where
        by : (left ≡ e.found) ⊎ TurnsHead e.core (list_changed t f) (head_of_word e.found) (head_of_word left) → left ≡ e.found
        by (inl kept) = kept
        by (inr turns) =
            head_kept (head_of_word e.found) (head_of_word left)
            (ap head_of_word (found_is ∙ ap (last_left setup t) (sym at)) ∙ shown) turns
    kept_all (suc j) at = by (spares (suc j) (sym at))
      where
        by : (left ≡ e.found) ⊎ ((marked_by setup t (EntryAt f 0) ≡ Some e.core) × IsSome (quality_of_word left)) → left ≡ e.found
        by (inl kept) = kept
        by (inr is) = absurd (other (some_same c e.core (sym (mark_is ∙ ap head_mark shown ∙ mark) ∙ is.0)))

  -- What was seen of B stays so.
  module _ (f version : ℕ) (list : Option (List (ℕ × ℕ))) (n : ℕ) (has : HasSeenB setup t f version list n)
      (mark_is : marked_by setup t (EntryAt f 0) ≡ head_mark (head_of_word (last_left setup t (EntryAt f 0))))
      (spares : (i : ℕ) → word_of e.move ≡ EntryAt f i → SparesTcap setup t e f i) where
    -- no word of it changes
    all_kept : ((i : ℕ) → EntryAt f i ≡ word_of e.move → left ≡ e.found) → HasSeenB setup (e ∷ t) f version list n
    all_kept kept = record {
      now = has.now;
      shown = ap head_of_word (left_same (EntryAt f 0) (kept 0)) ∙ has.shown;
      later = has.later;
      same = λ is. on (has.same is);
      valid = λ j low. subst (λ (x : ℕ). IsSome (quality_of_word x)) (sym (left_same (EntryAt f (suc j)) (kept (suc j)))) (has.valid j low);
    }
      where
        on : (list ≡ read_up (list_word setup t f) n) ⊎ ((list_changed t f ≡ true) × IsSome has.now.mark)
            → (list ≡ read_up (list_word setup (e ∷ t) f) n) ⊎ ((list_changed (e ∷ t) f ≡ true) × IsSome has.now.mark)
        on (inl is) = inl (is ∙ sym (read_alike (list_word setup (e ∷ t) f) (list_word setup t f) n
            (λ j. left_same (EntryAt f (suc j)) (kept (suc j)))))
        on (inr is) = inr (list_same f kept ∙ is.0, is.1)

    -- its head changes
    head_on : (at : EntryAt f 0 ≡ word_of e.move) (k : HeadWord) → head_of_word left ≡ Some k
        → TurnsHead e.core (list_changed t f) (Some has.now) (Some k) → HasSeenB setup (e ∷ t) f version list n
    head_on at k leaves turns = record {
      now = k;
      shown = ap head_of_word (last_left-here setup (EntryAt f 0) e t at) ∙ leaves;
      later = rises turns.1;
      same = λ is. inl (on is turns.1);
      valid = λ j low. subst (λ (x : ℕ). IsSome (quality_of_word x)) (sym (words j)) (has.valid j low);
    }
      where
        words : (j : ℕ) → last_left setup (e ∷ t) (EntryAt f (suc j)) ≡ last_left setup t (EntryAt f (suc j))
        words j = last_left-there setup (EntryAt f (suc j)) e t (λ h. absurd (apart j (h ∙ sym at)))
          where
            apart : (j : ℕ) → EntryAt f (suc j) ≡ EntryAt f 0 → ⊥
            apart j h = let same : suc j ≡ 0 = (list_entry f f j 0 h).1 in omega (arith, same)

        rises : (has.now.version < k.version) ⊎ ((has.now.version ≡ k.version) × ((has.now.mark ≡ None) ⊎ (list_changed t f ≡ false)))
            → version ≤ k.version
        rises (inl more) = let low = has.later in omega (arith, low, more)
        rises (inr is) = let low = has.later in let same = is.0 in omega (arith, low, same)

        listed : (list ≡ read_up (list_word setup t f) n) ⊎ ((list_changed t f ≡ true) × IsSome has.now.mark)
            → (has.now.mark ≡ None) ⊎ (list_changed t f ≡ false) → list ≡ read_up (list_word setup t f) n
        listed (inl is) clean = is
        listed (inr is) (inl bare) = absurd (false≢true (sym (ap is_some bare) ∙ is.1))
        listed (inr is) (inr clean) = absurd (false≢true (sym clean ∙ is.0))

        on : k.version ≡ version
            → (has.now.version < k.version) ⊎ ((has.now.version ≡ k.version) × ((has.now.mark ≡ None) ⊎ (list_changed t f ≡ false)))
            → list ≡ read_up (list_word setup (e ∷ t) f) n
        on is (inl more) = absurd (let low = has.later in omega (arith, low, more, is))
        on is (inr turn) = listed (has.same (turn.0 ∙ is)) turn.1
            ∙ sym (read_alike (list_word setup (e ∷ t) f) (list_word setup t f) n words)

    -- a word of its list changes, whose head is marked
    list_on : (j : ℕ) (at : EntryAt f (suc j) ≡ word_of e.move) → (left == e.found) ≡ false → marked_by setup t (EntryAt f 0) ≡ Some e.core
        → IsSome (quality_of_word left) → HasSeenB setup (e ∷ t) f version list n
    list_on j at changes mark valid = record {
      now = has.now;
      shown = ap head_of_word (last_left-there setup (EntryAt f 0) e t (λ h. apart (h ∙ sym at))) ∙ has.shown;
      later = has.later;
      same = λ is. inr (changed, subst IsSome (sym marked_now) refl);
      valid = λ i low. elim (cases_eq i j) [
        | inl same ↦ subst (λ (x : ℕ). IsSome (quality_of_word x))
            (sym (last_left-here setup (EntryAt f (suc i)) e t (ap (λ (x : ℕ). EntryAt f (suc x)) same ∙ at))) valid
        | inr other ↦ subst (λ (x : ℕ). IsSome (quality_of_word x))
            (sym (last_left-there setup (EntryAt f (suc i)) e t (λ h. other (index i (h ∙ sym at))))) (has.valid i low)
      ];
    }
      where
        apart : EntryAt f 0 ≡ EntryAt f (suc j) → ⊥
        apart h = let same : suc j ≡ 0 = (first_entry f f (suc j) h).1 in omega (arith, same)

        index : (i : ℕ) → EntryAt f (suc i) ≡ EntryAt f (suc j) → i ≡ j
        index i h = let same : suc i ≡ suc j = (list_entry f f i (suc j) h).1 in omega (arith, same)

        marked_now : has.now.mark ≡ Some e.core
        marked_now = sym (ap head_mark has.shown) ∙ sym mark_is ∙ mark

        changed : list_changed (e ∷ t) f ≡ true
        changed = ap (λ (w : Word). turns_list w (left == e.found) f (list_changed t f)) (sym at)
            ∙ ap (λ b. if b && not (left == e.found) then true else list_changed t f) (eq-eqb f f refl)
            ∙ ap (λ b. if not b then true else list_changed t f) changes

    pub seen_on : HasSeenB setup (e ∷ t) f version list n
    seen_on = by (word_of e.move) refl
      where
        by_head : (EntryAt f 0 ≡ word_of e.move)
            → (left ≡ e.found) ⊎ TurnsHead e.core (list_changed t f) (head_of_word e.found) (head_of_word left)
            → HasSeenB setup (e ∷ t) f version list n
        by_head at (inl kept) = all_kept (λ i here. kept)
        by_head at (inr turns) = leaves (head_of_word left) refl
            (subst (λ o. TurnsHead e.core (list_changed t f) o (head_of_word left))
            (ap head_of_word (found_is ∙ ap (last_left setup t) (sym at)) ∙ has.shown) turns)
          where
            leaves : (o : Option HeadWord) → head_of_word left ≡ o → TurnsHead e.core (list_changed t f) (Some has.now) (head_of_word left)
                → HasSeenB setup (e ∷ t) f version list n
            leaves None is turns = absurd (subst (TurnsHead e.core (list_changed t f) (Some has.now)) is turns)
            leaves (Some k) is turns = head_on at k is (subst (TurnsHead e.core (list_changed t f) (Some has.now)) is turns)

        by_list : (j : ℕ) → EntryAt f (suc j) ≡ word_of e.move → (same : Bool) → (left == e.found) ≡ same
            → (left ≡ e.found) ⊎ ((marked_by setup t (EntryAt f 0) ≡ Some e.core) × IsSome (quality_of_word left))
            → HasSeenB setup (e ∷ t) f version list n
        by_list j at same is (inl kept) = all_kept (λ i here. kept)
        by_list j at true is (inr turns) = all_kept (λ i here. Rattle.std.proofs.lemmas.Bool.eqb-true left e.found is)
        by_list j at false is (inr turns) = list_on j at is turns.0 turns.1

        away : (w : Word) → word_of e.move ≡ w → ((i : ℕ) → EntryAt f i ≢ w) → HasSeenB setup (e ∷ t) f version list n
        away w is apart = all_kept (λ i here. absurd (apart i (here ∙ is)))

        by : (w : Word) → word_of e.move ≡ w → HasSeenB setup (e ∷ t) f version list n
        by (EntryAt g zero) is = elim (cases_eq g f) [
          | inl same ↦ by_head (sym (is ∙ ap (λ (x : ℕ). EntryAt x 0) same)) (spares 0 (is ∙ ap (λ (x : ℕ). EntryAt x 0) same))
          | inr other ↦ away (EntryAt g zero) is (λ i h. other (frame_is i h))
        ]
          where
            frame_is : (i : ℕ) → EntryAt f i ≡ EntryAt g zero → g ≡ f
            frame_is i h = cc
        by (EntryAt g (suc j)) is = elim (cases_eq g f) [
          | inl same ↦ by_list j (sym (is ∙ ap (λ (x : ℕ). EntryAt x (suc j)) same)) (left == e.found) refl
              (spares (suc j) (is ∙ ap (λ (x : ℕ). EntryAt x (suc j)) same))
          | inr other ↦ away (EntryAt g (suc j)) is (λ i h. other (frame_is i h))
        ]
          where
            frame_is : (i : ℕ) → EntryAt f i ≡ EntryAt g (suc j) → g ≡ f
            frame_is i h = cc
        by (FrameAt g) is = away (FrameAt g) is (λ i h. cc)
        by (CountAt g d) is = away (CountAt g d) is (λ i h. cc)
        by (CoreAt d) is = away (CoreAt d) is (λ i h. cc)
        by (FlushAt d) is = away (FlushAt d) is (λ i h. cc)
        by (LiveAt l) is = away (LiveAt l) is (λ i h. cc)
        by ClockAt is = away ClockAt is (λ i h. cc)

-- The mark in the head of a temporal capability.
pub tcap_mark : (setup : Setting) (t : Trace) (f : ℕ) (q : TcapFields) → (state_after setup t).frame f ≡ Kernel (Tcap q)
    → marked_by setup t (EntryAt f 0) ≡ head_mark (head_of_word (last_left setup t (EntryAt f 0)))
tcap_mark setup t f q is = ap (λ x. mark_in_frame x 0 (last_left setup t (EntryAt f 0))) is

-- A step of another core, where one is a temporal capability that ticks are given back to.
module _ (setup : Setting) (t : Trace) (e : Step) (found_is : e.found ≡ last_left setup t (word_of e.move)) (c : ℕ)
    (r : Refill) (own : (w : Word) → own_read (e ∷ t) c w ≡ own_read t c w)
    (mark : marked_by setup t (EntryAt r.tcap 0) ≡ head_mark (head_of_word (last_left setup t (EntryAt r.tcap 0))))
    (spares : (i : ℕ) → word_of e.move ≡ EntryAt r.tcap i → SparesTcap setup t e r.tcap i) where
  read_other : (n : ℕ) → HasReadList setup t c r n → HasReadList setup (e ∷ t) c r n
  read_other n has = record {
    head = record { own = own (EntryAt r.tcap 0) ∙ has.head.own; fits = has.head.fits; bare = has.head.bare };
    seen = seen_on setup t e found_is r.tcap r.head.version r.list n has.seen mark spares;
  }

  weighed_other : (covered : Bool) → HasWeighed setup t c r covered → HasWeighed setup (e ∷ t) c r covered
  weighed_other covered has = record { read = read_other 8 has.read; is = has.is; enough = has.enough }

  pub refill_other : (at : RefillAt) → KnowsRefillAt setup t c r at → KnowsRefillAt setup (e ∷ t) c r at
  refill_other (RefillAt.List (suc n)) has = read_other n has
  refill_other RefillAt.Compare has = weighed_other true has
  refill_other RefillAt.Again has = weighed_other false has
  refill_other _ has = has

-- A step of another core, where both are temporal capabilities.
module _ (setup : Setting) (t : Trace) (e : Step) (found_is : e.found ≡ last_left setup t (word_of e.move)) (c : ℕ) (other : c ≢ e.core)
    (p : Pair) (core : p.core ≡ c) (own : (w : Word) → own_read (e ∷ t) c w ≡ own_read t c w)
    (mark_a : marked_by setup t (EntryAt p.a 0) ≡ head_mark (head_of_word (last_left setup t (EntryAt p.a 0))))
    (spares_a : (i : ℕ) → word_of e.move ≡ EntryAt p.a i → SparesTcap setup t e p.a i) where
  pub kept_a : last_left setup t (EntryAt p.a 0) ≡ word_of_head (marked p.core p.head_a)
      → HeadFits (marked p.core p.head_a)
      → (i : ℕ) → EntryAt p.a i ≡ word_of e.move → left_of e.move e.found ≡ e.found
  kept_a raw fits = kept_all setup t e found_is p.a c other (marked p.core p.head_a)
      (ap head_of_word raw ∙ heads.spelling.reads (marked p.core p.head_a) fits) (ap (λ (x : ℕ). Some x) core) mark_a spares_a

  module _ (few : p.core < 8)
      (mark_b : marked_by setup t (EntryAt p.b 0) ≡ head_mark (head_of_word (last_left setup t (EntryAt p.b 0))))
      (spares_b : (i : ℕ) → word_of e.move ≡ EntryAt p.b i → SparesTcap setup t e p.b i) where
    marked_fits : HeadFits p.head_a → HeadFits (marked p.core p.head_a)
    marked_fits fits = (fits.0, few, fits.2)

    a_other : (n : ℕ) → HasMarkedA setup t p n → HasMarkedA setup (e ∷ t) p n
    a_other n has = marked_on setup t e found_is p n (kept_a has.raw (marked_fits has.fits)) has

    head_other : (f : ℕ) (h : HeadWord) → ReadsHead t c f h → ReadsHead (e ∷ t) c f h
    head_other f h has = record { own = own (EntryAt f 0) ∙ has.own; fits = has.fits; bare = has.bare }

    b_other : (list : Option (List (ℕ × ℕ))) (n : ℕ) → HasReadB setup t c p list n → HasReadB setup (e ∷ t) c p list n
    b_other list n has = record {
      head = head_other p.b p.head_b has.head;
      seen = seen_on setup t e found_is p.b p.head_b.version list n has.seen mark_b spares_b;
    }

    both_other : (at : PairAt) → HasBoth setup t c p at → HasBoth setup (e ∷ t) c p at
    both_other at has = record {
      a = a_other 8 has.a;
      read = has.read;
      b = b_other has.read 8 has.b;
      whole = has.whole;
      grows = has.grows;
      judges = has.judges;
    }

    pub pair_other : (at : PairAt) → KnowsPairAt setup t c p at → KnowsPairAt setup (e ∷ t) c p at
    pair_other MarkA has = (head_other p.a p.head_a has.0, has.1, has.2)
    pair_other (ListA (suc n)) has = (a_other n has.0, has.1)
    pair_other LoadB has = (a_other 8 has.0, has.1)
    pair_other (ListB (suc n)) has = (a_other 8 has.0, b_other p.list_b n has.1)
    pair_other CompareB has = both_other CompareB has
    pair_other (AgainB r) has = both_other (AgainB r) has
    pair_other _ has = has
