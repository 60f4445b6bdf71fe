-- A delegation stores a word of the second one's list, which its core keeps without a mark: the word becomes what it settles to.
use Rattle.pair_invariant.specs.step_ways.proofs.{◌≡◌, ◌≢◌, inl, inr, ℕ, zero, suc, ◌+◌, ◌-◌, ◌≤◌, ◌<◌, ◌==◌, ◌&&◌, leb as nat_le}
use Rattle.pair_invariant.specs.step_ways.proofs.{ltb as nat_lt, Bool, true, false, if◌then◌else◌, ◌∷◌, Option, Some, None, slice_get}
use Rattle.pair_invariant.specs.step_ways.proofs.{arith, refl, sym, ◌∙◌, ap, subst, eq-eqb, ne_eqb, le-leb, leb-true, ltb-true, ltb-false}
use Rattle.pair_invariant.specs.step_ways.proofs.{Setting, IsSetting, Call, Reply, Word, EntryAt, Move, StoreOf, word_of, left_of}
use Rattle.pair_invariant.specs.step_ways.proofs.{same_same, State, put, put_same, put_other, changes_in_frame, IsInFootprint, mark_of}
use Rattle.pair_invariant.specs.step_ways.proofs.{marked_by, Step, Trace, state_after, last_left, was_stays, same_word-other}
use Rattle.pair_invariant.specs.step_ways.proofs.{last_left-there, in_order, Pair, PairAt, StoreList, StoreB, Tail, Decided, ActiveCall}
use Rattle.pair_invariant.specs.step_ways.proofs.{went_with, GoesOn, Core, Holding, holds_counts, settled_by, KnowsTail, phase_at}
use Rattle.pair_invariant.specs.step_ways.proofs.{SparesTcap, HasTcap, KnowsStoresAt, done_by, holds_head, holds_shared, holds_at, holds_in}
use Rattle.pair_invariant.specs.step_ways.proofs.{holds, held_by, Invariant, AsBefore, counts_bare, none_kept, counts_on, TcapOf, IsSome}
use Rattle.pair_invariant.specs.step_ways.proofs.{IsOfCall, core_in_call, call_is, inner, GoodTook}
use Rattle.std.proofs.lemmas.Bool.{cases_eq, cases_lt, lt-leb}
use Rattle.pair_invariant.specs.core_invariant.specs.{holds_heads, StoresB, KeepsList}
use Rattle.pair_invariant.specs.stage_tcap.specs.{word_of_list, store_next}
use Rattle.pair_invariant.specs.kept_facts.proofs.{Exclusive.one_keeper, Exclusive.own_value, Pairs.keeps_on_b, Tcaps.tcap_of}
use Rattle.pair_invariant.proofs.{MarksA.spares_one, ShareSteps.list_bare}
use Rattle.share_invariant.proofs.HeadStores.{counts_free, a_stored, shared_on}
use Rattle.{pair_invariant.specs.tcap_words.specs.Quality.QualityFits, pair_invariant.specs.tcap_words.proofs.QualityLemmas.spelling}
use Rattle.{pair_invariant.specs.act_states.specs.declared.work.Tail.TheVariants.Share as share_tail}
use Rattle.{pair_invariant.specs.core_invariant.specs.Invariant.holds_list}
use Rattle.pair_invariant.specs.step_ways.proofs.Counting as counters

none_some : (v : ℕ) → None ≡ Some v → ⊥
none_some v h = cc

-- What is known of both after a store of a word of the list.
pub b_stored : (setup : Setting) (t : Trace) (e : Step) (c j : ℕ) (p : Pair) (x : PairAt) → word_of e.move ≡ EntryAt p.b (suc j)
    → e.found ≡ last_left setup t (word_of e.move) → left_of e.move e.found ≡ word_of_list (in_order p.list_b) (suc j) → j < 8
    → e.enters ≡ None → state_after setup (e ∷ t) ≡ state_after setup t
    → (call : Call) → StoresB setup t c call p → StoresB setup (e ∷ t) c call (record p { at = x })
b_stored setup t e c j p x on found_is leaves low no_entry still call has = record {
  a = a_stored setup t e p x (suc j) on has.differ has.a;
  raw = last_left-there setup (EntryAt p.b 0) e t (λ h. other_index p.b p.b j (h ∙ on)) ∙ has.raw;
  fits = has.fits;
  bare = has.bare;
  few = has.few;
  footprint = was_stays (IsInFootprint c call (EntryAt p.b 0)) setup t e c (λ own. no_entry) has.footprint;
  tcap = subst (λ s. HasTcap s c p.b) (sym still) has.tcap;
  differ = has.differ;
  spelled = has.spelled;
  same = λ is. let stay = keeps_on_b setup t e found_is p (λ i at. as_found (has.same is)) (has.same is) in
      record { clean = stay.clean; words = stay.words };
}
  where
    other_index : (f g k : ℕ) → EntryAt f 0 ≡ EntryAt g (suc k) → ⊥
    other_index f g k h = cc

    -- a word of B's own list is stored as it is
    as_found : KeepsList setup t p → left_of e.move e.found ≡ e.found
    as_found keeps = leaves ∙ sym (keeps.words j low) ∙ ap (last_left setup t) (sym on) ∙ sym found_is

-- What a delegation holds after the store of word n, where more words follow or not: both heads, and the words after it.
module _ (p : Pair) (rest : Holding) (bare : (g i : ℕ) → rest.bare g i ≡ None) (n : ℕ) (last : n ≤ 8) where
  abbrev kept : ℕ → ℕ → ℕ → Bool
  kept from g j = g == p.b && (nat_le from j && nat_le j 8)

  abbrev words : ℕ → ℕ
  words = word_of_list (in_order p.list_b)

  abbrev left_at : Bool → Holding
  left_at more = holds_shared (record p { at = store_next more n }) (store_next more n) rest

  left_marks : (more : Bool) (w : Word) → (left_at more).marks w ≡ (holds_heads p rest).marks w
  left_marks true w = refl
  left_marks false w = refl

  left_stands : (more : Bool) (w : Word) → (left_at more).stands w ≡ (holds_heads p rest).stands w
  left_stands true w = refl
  left_stands false w = refl

  left_bare : (more : Bool) → nat_lt n 8 ≡ more → (g j : ℕ)
      → (left_at more).bare g j ≡ (if kept (n + 1) g j then Some (words j) else None)
  left_bare true is g j = ap (λ o. if kept (n + 1) g j then Some (words j) else o) (bare g j)
  left_bare false is g j = bare g j ∙ sym (ap (λ b. if b then Some (words j) else None) (none (g == p.b) (nat_le (n + 1) j) refl))
    where
      none : (b d : Bool) → nat_le (n + 1) j ≡ d → (b && (d && nat_le j 8)) ≡ false
      none false d at = refl
      none true false at = refl
      none true true at = lt-leb j 8 (let low = leb-true (n + 1) j at in
          let most = ltb-false n 8 is in omega (arith, low, most))

  was_bare : (g j : ℕ) → (holds_list p n rest).bare g j ≡ (if kept n g j then Some (words j) else None)
  was_bare g j = ap (λ o. if kept n g j then Some (words j) else o) (bare g j)

  one_less : (g j : ℕ) → EntryAt g j ≢ EntryAt p.b n → kept (n + 1) g j ≡ kept n g j
  one_less g j apart = elim (cases_eq g p.b) [
    | inl same ↦ ap (λ b. g == p.b && (b && nat_le j 8)) (later (λ h. apart (both g j h same)))
    | inr other ↦ ap (λ b. b && (nat_le (n + 1) j && nat_le j 8)) (ne_eqb g p.b other)
        ∙ sym (ap (λ b. b && (nat_le n j && nat_le j 8)) (ne_eqb g p.b other))
  ]
    where
      both : (g j : ℕ) → j ≡ n → g ≡ p.b → EntryAt g j ≡ EntryAt p.b n
      both g j h same = cc

      later : (j ≡ n → ⊥) → nat_le (n + 1) j ≡ nat_le n j
      later differ = elim (cases_lt n j) [
        | inl less ↦ le-leb (n + 1) j (omega (arith, less)) ∙ sym (le-leb n j (omega (arith, less)))
        | inr not ↦ lt-leb (n + 1) j (omega (arith, not)) ∙ sym (lt-leb n j (below not))
      ]
        where
          below : j ≤ n → j < n
          below low = elim (cases_eq j n) [
            | inl same ↦ absurd (differ same)
            | inr other ↦ omega (arith, low, other)
          ]

  pub as_listed : (more : Bool) → nat_lt n 8 ≡ more → AsBefore (holds_list p n rest) (left_at more) (EntryAt p.b n)
  as_listed more is = record {
    there = λ g j apart. left_bare more is g j ∙ ap (λ b. if b then Some (words j) else None) (one_less g j apart) ∙ sym (was_bare g j);
    here = λ g j same. left_bare more is g j ∙ ap (λ b. if b then Some (words j) else None) (gone g j (index g j same));
    head = λ g j v some mark. left_marks more (EntryAt g 0) ∙ mark;
  }
    where
      index : (g j : ℕ) → EntryAt g j ≡ EntryAt p.b n → j ≡ n
      index g j h = cc

      none : (b d : Bool) → (b && (false && d)) ≡ false
      none false d = refl
      none true d = refl

      gone : (g j : ℕ) → j ≡ n → kept (n + 1) g j ≡ false
      gone g j same = ap (λ b. g == p.b && (b && nat_le j 8)) (lt-leb (n + 1) j (omega (arith, same))) ∙ none (g == p.b) (nat_le j 8)

  pub is_listed : (holds_list p n rest).bare p.b n ≡ Some (words n)
  is_listed = was_bare p.b n ∙ ap (λ b. if b && (nat_le n n && nat_le n 8) then Some (words n) else None) (eq-eqb p.b p.b refl)
      ∙ ap (λ b. if b && nat_le n 8 then Some (words n) else None) (le-leb n n (omega arith))
      ∙ ap (λ b. if b then Some (words n) else None) (le-leb n 8 last)

module _ (setup : Setting) (setting : IsSetting setup) (cores : ℕ → Core) (t : Trace) (stands : Invariant setup cores t) (c : ℕ)
    (here : c < setup.cores)
    (a : ActiveCall) (active : (cores c).active ≡ Some a) (r : Reply) (drawn : Option ℕ) (p : Pair) where
  -- the word after the head by j more
  module _ (j : ℕ) (stage_is : a.stage ≡ Decided r drawn (share_tail (record p { at = StoreList (suc j) })))
      (has : KnowsTail setup t c a.call a.counts (share_tail (record p { at = StoreList (suc j) }))) (more : Bool)
      (more_is : nat_lt (suc j) 8 ≡ more) where
    abbrev s : State
    s = state_after setup t

    abbrev at : Word
    at = EntryAt p.b (suc j)

    abbrev at_head : Word
    at_head = EntryAt p.b 0

    abbrev was : ℕ
    was = last_left setup t at

    abbrev value : ℕ
    value = word_of_list (in_order p.list_b) (suc j)

    abbrev store : Move
    store = StoreOf at value

    abbrev e : Step
    e = inner setup setting cores t stands c here a active store None None

    abbrev left : Tail
    left = share_tail (record p { at = store_next more (suc j) })

    abbrev next : ActiveCall
    next = went_with a a.counts (Decided r drawn left)

    abbrev after : Core
    after = core_in_call (cores c) (cores c).own.made next

    abbrev rest : Holding
    rest = holds_counts (done_by r drawn) a.counts

    knows : StoresB setup t c a.call (record p { at = StoreList (suc j) })
    knows = has.at.2

    last : suc j ≤ 8
    last = has.at.1

    tcap : TcapOf (s.frame p.b)
    tcap = tcap_of (s.frame p.b) knows.tcap.tcap

    was_held : holds (cores c) ≡ holds_list p (suc j) rest
    was_held = ap holds_in active ∙ ap (λ stage. holds_at stage a.counts) stage_is

    fits : QualityFits (record { 0 = slice_get (in_order p.list_b) (suc j - 1) })
    fits = knows.spelled (suc j - 1)

    is_kept : (held_by cores c).bare p.b (suc j) ≡ Some value
    is_kept = ap (λ h. h.bare p.b (suc j)) was_held ∙ is_listed p rest (counts_bare (done_by r drawn) a.counts) (suc j) last

    bares : AsBefore (holds_list p (suc j) rest) (holds after) at
    bares = as_listed p rest (counts_bare (done_by r drawn) a.counts) (suc j) last more more_is

    others : (d : ℕ) → d ≢ c → (held_by cores d).bare p.b (suc j) ≡ None
    others d other = by ((held_by cores d).bare p.b (suc j)) refl
      where
        by : (o : Option ℕ) → (held_by cores d).bare p.b (suc j) ≡ o → (held_by cores d).bare p.b (suc j) ≡ None
        by None none = none
        by (Some u) some = absurd (other (one_keeper setup setting cores t stands p.b (suc j) d c u value some is_kept))

    none_after : (d : ℕ) → (held_by (put cores c after) d).bare p.b (suc j) ≡ None
    none_after d = elim (cases_eq d c) [
      | inl own ↦ ap (λ k. (holds k).bare p.b (suc j)) (put_same cores c after d own) ∙ bares.here p.b (suc j) refl
      | inr other ↦ ap (λ k. (holds k).bare p.b (suc j)) (put_other cores c after d other) ∙ others d other
    ]

    unmarked : (x : ℕ) → mark_of s at x ≡ None
    unmarked = list_bare setup setting cores t stands p.b tcap.fields tcap.is j

    own_mark : marked_by setup t at_head ≡ Some c
    own_mark = (stands.marks at_head c).kept (ap (λ h. h.marks at_head) was_held
        ∙ ap (λ b. if b then true else (holds_head p true rest).marks at_head) (same_same at_head))

    no_mark : (holds after).marks at ≡ false
    no_mark = left_marks p rest (counts_bare (done_by r drawn) a.counts) (suc j) last more at
        ∙ ap (λ b. if b then true else (holds_head p true rest).marks at)
        (same_word-other at at_head (λ h. cc))
        ∙ ap (λ b. if b then true else rest.marks at) (same_word-other at (EntryAt p.a 0) (λ h. cc))
        ∙ counts_free (done_by r drawn) a.counts p.b (suc j)

    of_call : IsOfCall setup t c a.call store
    of_call = record { moves = ap (changes_in_frame a.call) tcap.is ∙ has.budgets; footprint = inr knows.footprint }

    spelled : SparesTcap setup t e p.b (suc j)
    spelled = inr (own_mark, subst IsSome (sym (spelling.reads (record { 0 = slice_get (in_order p.list_b) (suc j - 1) }) fits)) refl)

    known : KnowsStoresAt setup (e ∷ t) c a.call (record p { at = store_next more (suc j) }) (store_next more (suc j))
    known = by more more_is
      where
        stored : (x : PairAt) → StoresB setup (e ∷ t) c a.call (record p { at = x })
        stored x = b_stored setup t e c j (record p { at = StoreList (suc j) }) x refl refl refl (let most = last in omega (arith, most)) refl refl
            a.call knows

        by : (b : Bool) → nat_lt (suc j) 8 ≡ b
            → KnowsStoresAt setup (e ∷ t) c a.call (record p { at = store_next b (suc j) }) (store_next b (suc j))
        by true is = (omega arith, (let low = ltb-true (suc j) 8 is in omega (arith, low)), stored (StoreList (suc j + 1)))
        by false is = stored StoreB

    pub word_good : GoodTook setup cores t c store (GoesOn next)
    word_good lands =
        counters.holds_on setup setting cores t stands c here a active store next (λ b. refl) (λ h. cc) refl of_call lands
        (spelling.small (record { 0 = slice_get (in_order p.list_b) (suc j - 1) }) fits)
        (λ w there. (
          left_marks p rest (counts_bare (done_by r drawn) a.counts) (suc j) last more w ∙ sym (ap (λ h. h.marks w) was_held),
          left_stands p rest (counts_bare (done_by r drawn) a.counts) (suc j) last more w ∙ sym (ap (λ h. h.stands w) was_held),
        ))
        (subst (λ h. AsBefore h (holds after) at) (sym was_held) bares)
        (unmarked value ∙ sym (ap (λ b. if b then Some c else None) no_mark))
        (λ b other is. none_some b (sym (unmarked was) ∙ is))
        (ap (λ b. settled_by (if b then Some c else None) (held_by (put cores c after)) at value) no_mark
        ∙ none_kept 8 (held_by (put cores c after)) p.b (suc j) value none_after
        ∙ sym (ap (λ o. settled_by o (held_by cores) at was) (unmarked was)
        ∙ own_value setup setting cores t stands c p.b (suc j) value was is_kept))
        (ap (phase_at a.call) stage_is)
        (λ carries. shared_on setup t e c a.call (record p { at = StoreList (suc j) }) (store_next more (suc j)) refl refl has known)
        (counts_on setup t e c a.call (λ own. refl) a.counts (call_is setup setting cores t stands c here a active).counts)
        (call_is setup setting cores t stands c here a active).apart
        (spares_one setup t e p.b (suc j) tcap.fields refl tcap.is spelled)
        (λ d g i u other is on. absurd (none_some u (sym (others d other)
        ∙ ap (λ (n : ℕ). (held_by cores d).bare n (suc j)) (same_frame g i on)
        ∙ ap (λ (n : ℕ). (held_by cores d).bare g n) (same_index g i on) ∙ is)))
      where
        same_frame : (g i : ℕ) → EntryAt p.b (suc j) ≡ EntryAt g i → p.b ≡ g
        same_frame g i h = cc

        same_index : (g i : ℕ) → EntryAt p.b (suc j) ≡ EntryAt g i → suc j ≡ i
        same_index g i h = cc

  pub store_list_good : (n : ℕ) → a.stage ≡ Decided r drawn (share_tail (record p { at = StoreList n }))
      → KnowsTail setup t c a.call a.counts (share_tail (record p { at = StoreList n }))
      → GoodTook setup cores t c (StoreOf (EntryAt p.b n) (word_of_list (in_order p.list_b) n))
      (GoesOn (went_with a a.counts (Decided r drawn (share_tail (record p { at = store_next (nat_lt n 8) n })))))
  store_list_good zero is has = absurd (let low = has.at.0 in omega (arith, low))
  store_list_good (suc j) is has = word_good j is has (nat_lt (suc j) 8) refl
