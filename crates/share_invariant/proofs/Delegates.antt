-- The compare of the head of the second of two temporal capabilities carries out a delegation: it marks that head, and the call has
-- still to store the merged list and both heads.
use Rattle.pair_invariant.specs.step_ways.proofs.{◌≡◌, ◌≢◌, inl, inr, ℕ, zero, suc, ◌+◌, ◌-◌, ◌<◌, ◌≤◌, ◌^◌, ◌==◌, ◌&&◌, not, ltb as nat_lt}
use Rattle.pair_invariant.specs.step_ways.proofs.{leb as nat_le, Bool, true, false, if◌then◌else◌, List, [], ◌∷◌, length, slice_get, Option}
use Rattle.pair_invariant.specs.step_ways.proofs.{Some, None, arith, refl, sym, ◌∙◌, ap, subst, eq-eqb, eqb-true, ne_eqb, false≢true}
use Rattle.pair_invariant.specs.step_ways.proofs.{le-leb, leb-true, le-ltb, Setting, IsSetting, HeadFits, word_of_head, head_of_word}
use Rattle.pair_invariant.specs.step_ways.proofs.{quality_of_word, HeadWord, spelling, Word, EntryAt, CountAt, same_word, Move, CompareOf}
use Rattle.pair_invariant.specs.step_ways.proofs.{left_of, same_same, Kernel, Tcap, TcapFields, PlaceOf, FrameOf, State, put, tcap_in}
use Rattle.pair_invariant.specs.step_ways.proofs.{Found, IsFoundAnd, unless, first_of, first_cause, tcap_at, is_short, are_many, change_of}
use Rattle.pair_invariant.specs.step_ways.proofs.{changed, counted, MayReply, IsInFootprint, mark_of, head_mark, marked_by, ends_in}
use Rattle.pair_invariant.specs.step_ways.proofs.{flushes_in, stamp, Step, Trace, Open, phase, state_after, last_left, state_decided_in}
use Rattle.pair_invariant.specs.step_ways.proofs.{WasAt, ok_first, was_stays, cases_word, same_word-other, last_left-here, last_left-there}
use Rattle.pair_invariant.specs.step_ways.proofs.{marked, debited, credited, in_order, same_list, again_end, by_room, Pair, CompareB}
use Rattle.pair_invariant.specs.step_ways.proofs.{AgainB, StoreList, Act, took_shared, took_share, Stage, Undecided, Decided, ActiveCall}
use Rattle.pair_invariant.specs.step_ways.proofs.{landed, Core, holds_counts, settled, KnowsUndecided, list_changed, TurnsHead, SparesTcap}
use Rattle.pair_invariant.specs.step_ways.proofs.{HasTcap, HasBoth, holds_in, holds_head, holds, held_by, times_of, Invariant, IsFrameWord}
use Rattle.pair_invariant.specs.step_ways.proofs.{WordIs, counts_bare, IsUntimed, plain_begins, exclusive_free, not_exclusive_head_word}
use Rattle.pair_invariant.specs.step_ways.proofs.{sums_keep, TcapOf, ReadsAlike, StaysSaid, marks_own, put_same, found as named_by}
use Rattle.pair_invariant.specs.step_ways.proofs.{begins_in, rank, Share as share_act, next_at, core_in_call, core_is, inner}
use Rattle.pair_invariant.specs.step_ways.proofs.{decides_changing, GoodTook, not_spent, spares_none, same_marks, does, Reply, Value}
use Rattle.pair_invariant.specs.kernel_rules.proofs.{moved, and_from, merged, IsQualityList, merged_list, with_qualities, Move as move_edit}
use Rattle.pair_invariant.specs.kernel_rules.proofs.{Merge as merge_edit, begins_in as begun_by}
use Rattle.pair_invariant.proofs.{AreRead, all_gone, spares_one, causes_of, change_by, mark_is}
use Rattle.pair_invariant.specs.core_invariant.specs.{MarkIs, StoresA, KnowsShared, IsExclusive, KeepsList}
use Rattle.pair_invariant.specs.stage_tcap.specs.{relisted, merged_if, merge_of, word_of_list, compared_after}
use Rattle.pair_invariant.specs.tcap_words.specs.{QualityFits, word_of_quality}
use Rattle.pair_invariant.specs.kept_facts.proofs.{Pairs.marked_on, Exclusive.not_exclusive_list}
use Rattle.pair_invariant.specs.stage_tcap.specs.quality_lists.proofs.Ranks.{Rises, merged_rises}
use Rattle.pair_invariant.specs.stage_tcap.proofs.ListLemmas.{got_pair, pair_in_word, equal_lists, found_equal}
use Rattle.pair_invariant.proofs.{Moved.IsMoved, Moved.with_both, ShareSteps.list_bare, ShareSteps.list_plain, ShareSteps.now_was}
use Rattle.{std.proofs.lemmas.Bool.and_parts, pair_invariant.specs.kernel_laws.proofs.Lists.merged_list_is}
use Rattle.{pair_invariant.specs.stage_tcap.specs.declared.pair.PairWork.TheVariants.Delegate}
use Rattle.{pair_invariant.specs.act_states.specs.declared.work.Tail.TheVariants.Share as share_tail, share_invariant.proofs.Turned.IsTaken}
use Rattle.pair_invariant.specs.tcap_words.proofs.QualityLemmas as qualities
use Rattle.share_invariant.proofs.Compared as compared
use Rattle.pair_invariant.proofs.ListsKnown as known
use Rattle.pair_invariant.proofs.Moved as moves
use Rattle.pair_invariant.proofs.ShareCalls as calls
use Rattle.share_invariant.proofs.Turned as turned

-- A merged list that has room is kept, and has at most 8 pairs.
kept_list : (xs ys zs : List (ℕ × ℕ)) → merge_of xs ys ≡ Some zs → (zs ≡ merged xs ys) × (length (merged xs ys) ≤ 8)
kept_list xs ys zs is = by (nat_le (length (merged xs ys)) 8) refl is
  where
    same : (us vs : List (ℕ × ℕ)) → Some us ≡ Some vs → us ≡ vs
    same us vs h = cc

    by : (b : Bool) → nat_le (length (merged xs ys)) 8 ≡ b → merged_if b (merged xs ys) ≡ Some zs
        → (zs ≡ merged xs ys) × (length (merged xs ys) ≤ 8)
    by true told h = (sym (same _ _ h), leb-true (length (merged xs ys)) 8 told)
    by false told h = absurd (cc)

-- A word that is kept among those of a list is one of them.
pub record IsListed (f from : ℕ) (words : ℕ → ℕ) (g i v : ℕ) : Type 0 where
  pub frame : g ≡ f
  pub least : from ≤ i
  pub most : i ≤ 8
  pub word : v ≡ words i

pub listed : (f from : ℕ) (words : ℕ → ℕ) (g i v : ℕ) (rest : Option ℕ) → rest ≡ None
    → (if g == f && (nat_le from i && nat_le i 8) then Some (words i) else rest) ≡ Some v → IsListed f from words g i v
listed f from words g i v rest none is = by (g == f && (nat_le from i && nat_le i 8)) refl is
  where
    same : (x y : ℕ) → Some x ≡ Some y → x ≡ y
    same x y h = cc

    none_some : None ≡ Some v → ⊥
    none_some h = cc

    by : (b : Bool) → (g == f && (nat_le from i && nat_le i 8)) ≡ b → (if b then Some (words i) else rest) ≡ Some v
        → IsListed f from words g i v
    by true told h =
        let (at, within) = and_parts (g == f) (nat_le from i && nat_le i 8) told in
        let (low, high) = and_parts (nat_le from i) (nat_le i 8) within in
        record { frame = eqb-true g f at; least = leb-true from i low; most = leb-true i 8 high; word = sym (same (words i) v h) }
    by false told h = absurd (none_some (sym none ∙ h))

module _ (setup : Setting) (setting : IsSetting setup) (cores : ℕ → Core) (t : Trace) (stands : Invariant setup cores t) (c : ℕ)
    (here : c < setup.cores)
    (a : ActiveCall) (active : (cores c).active ≡ Some a) (p : Pair) (m : ℕ)
    (stage_is : a.stage ≡ Undecided (Act (share_act (record p { what = Delegate m; at = CompareB }))))
    (has : KnowsUndecided setup t c (cores c).own.table a (Act (share_act (record p { what = Delegate m; at = CompareB })))) where
  abbrev now_p : Pair
  now_p = record p { what = Delegate m; at = CompareB }

  abbrev what_p : Pair
  what_p = record p { what = Delegate m }

  abbrev s : State
  s = state_after setup t

  abbrev at : Word
  at = EntryAt p.b 0

  abbrev at_a : Word
  at_a = EntryAt p.a 0

  abbrev was : ℕ
  was = last_left setup t at

  abbrev old : ℕ
  old = word_of_head p.head_b

  abbrev new_head : HeadWord
  new_head = marked p.core p.head_b

  abbrev compare : Move
  compare = CompareOf at old (word_of_head new_head)

  abbrev list : List (ℕ × ℕ)
  list = in_order p.list_b

  abbrev both : HasBoth setup t c now_p CompareB
  both = has.knows.knows.at

  held : holds_in (Some a) ≡ holds_head now_p false (holds_counts None a.counts)
  held = compared.held setup setting cores t stands c here a active what_p stage_is has

  abbrev tcap_a : TcapOf (s.frame p.a)
  tcap_a = calls.tcap_a setup setting cores t stands c here a active now_p stage_is has

  abbrev tcap_b : TcapOf (s.frame p.b)
  tcap_b = calls.tcap_b setup setting cores t stands c here a active now_p stage_is has

  abbrev qa : TcapFields
  qa = tcap_a.fields

  abbrev qb : TcapFields
  qb = tcap_b.fields

  differ : p.a ≢ p.b
  differ = calls.differ setup setting cores t stands c here a active now_p stage_is has

  abbrev is : calls.IsShare s c a.call a.found now_p
  is = calls.is setup setting cores t stands c here a active now_p stage_is has

  room : (cores c).own.made < (cores c).own.limit
  room = calls.room setup setting cores t stands c here a active now_p stage_is has

  is_open : phase t c ≡ Open a.call
  is_open = calls.is_open setup setting cores t stands c here a active now_p stage_is has

  -- The word is as it was read.
  module _ (equal : (was == old) ≡ true) where
    abbrev e : Step
    e = inner setup setting cores t stands c here a active compare (Some (Reply.Ok Value.Nothing)) None

    abbrev s' : State
    s' = state_after setup (e ∷ t)

    abbrev left_p : Pair
    left_p = record now_p { at = StoreList 1 }

    abbrev stage : Stage
    stage = Decided (Reply.Ok Value.Nothing) None (share_tail left_p)

    abbrev after : Core
    after = core_in_call (cores c) ((cores c).own.made + 1) (next_at a a.found stage)

    leaves_it : left_of compare was ≡ word_of_head new_head
    leaves_it = compared.leaves_it setup setting cores t stands c here a active what_p stage_is has equal

    read : AreRead s now_p both.read
    read = compared.read setup setting cores t stands c here a active what_p stage_is has equal

    bare : marked_by setup t at ≡ None
    bare = compared.bare setup setting cores t stands c here a active what_p stage_is has equal

    new_fits : HeadFits new_head
    new_fits = (
      both.b.head.fits.0,
      (let most = setting.most_cores in let own = has.knows.knows.core in omega (arith, most, here, own)),
      both.b.head.fits.2,
    )

    reads_new : head_of_word (word_of_head new_head) ≡ Some new_head
    reads_new = spelling.reads new_head new_fits

    changes : (left_of compare was == was) ≡ false
    changes = ne_eqb (left_of compare was) was (λ h. absurd (not_same (sym reads_new ∙ ap head_of_word (sym leaves_it ∙ h)
        ∙ compared.shown setup setting cores t stands c here a active what_p stage_is has equal)))
      where
        mark_of_head : (v u : HeadWord) → Some v ≡ Some u → v.mark ≡ u.mark
        mark_of_head v u h = cc

        some_none : (d : ℕ) → Some d ≡ None → ⊥
        some_none d h = cc

        not_same : Some new_head ≡ Some p.head_b → ⊥
        not_same h = some_none p.core (mark_of_head _ _ h ∙ both.b.head.bare)

    marked_now : mark_of s at (left_of compare was) ≡ Some c
    marked_now = ap (mark_of s at) leaves_it ∙ mark_is setup setting cores t stands p.b qb tcap_b.is (word_of_head new_head)
        ∙ ap head_mark reads_new ∙ ap (λ (d : ℕ). Some d) has.knows.knows.core

    -- the merged list has room, and is kept
    some_list : (o : Option (List (ℕ × ℕ))) → p.list_b ≡ o → by_room o ≡ CompareB → o ≡ Some list
    some_list None list_is judges = absurd (not_again judges)
      where
        not_again : AgainB Reply.TooMany ≡ CompareB → ⊥
        not_again h = cc
    some_list (Some xs) list_is judges = ap (λ o. Some (in_order o)) (sym list_is)

    whole : merge_of (tcap_at s p.a).qualities (tcap_at s p.b).qualities ≡ Some list
    whole =
        ap (λ xs. merge_of (in_order xs) (tcap_at s p.b).qualities) (sym read.list_a)
        ∙ ap (λ ys. merge_of (in_order p.list_a) (in_order ys)) (sym read.list_b)
        ∙ sym both.whole ∙ some_list p.list_b refl both.judges

    list_is : list ≡ merged_list s p.a p.b
    list_is = (kept_list (tcap_at s p.a).qualities (tcap_at s p.b).qualities list whole).0

    few : length (merged_list s p.a p.b) ≤ 8
    few = (kept_list (tcap_at s p.a).qualities (tcap_at s p.b).qualities list whole).1

    few_list : length list ≤ 8
    few_list = subst (λ xs. length xs ≤ 8) (sym list_is) few

    fits_list : IsQualityList list
    fits_list = subst IsQualityList (sym list_is)
        (merged_list_is (tcap_at s p.a).qualities (tcap_at s p.b).qualities
        (subst (λ x. IsQualityList (tcap_in x).qualities) (sym tcap_a.is)
        (known.range_of setup setting cores t stands p.a qa tcap_a.is).pairs)
        (subst (λ x. IsQualityList (tcap_in x).qualities) (sym tcap_b.is)
        (known.range_of setup setting cores t stands p.b qb tcap_b.is).pairs))

    -- which is B's own, or has a greater rank
    abbrev own_list : List (ℕ × ℕ)
    own_list = (tcap_at s p.b).qualities

    rises : Rises own_list list
    rises = subst (Rises own_list) (sym list_is) (merged_rises (tcap_at s p.a).qualities own_list
        (subst (λ x. IsQualityList (tcap_in x).qualities) (sym tcap_a.is)
        (known.range_of setup setting cores t stands p.a qa tcap_a.is).pairs))

    grows_is : p.grows ≡ not (same_list list own_list)
    grows_is = both.grows ∙ ap (λ o. not (same_list list (in_order o))) read.list_b

    not_true : (b : Bool) → not b ≡ false → b ≡ true
    not_true true is = refl
    not_true false is = absurd (false≢true (sym is))

    own_same : p.grows ≡ false → list ≡ own_list
    own_same is = equal_lists list own_list (not_true (same_list list own_list) (sym grows_is ∙ is))

    own_differs : p.grows ≡ true → list ≡ own_list → ⊥
    own_differs is same = false≢true (ap not (sym (found_equal list own_list same)) ∙ sym grows_is ∙ is)

    few_b : p.head_b.version + 1 < 2 ^ 28
    few_b = read.few_b

    -- the version that B is given
    raised_fits : (g : Bool) → (relisted g p.head_b).version < 2 ^ 28
    raised_fits true = (let low = few_b in omega (arith, low))
    raised_fits false = both.b.head.fits.2

    raised_within : (g : Bool) → p.grows ≡ g → (relisted g p.head_b).version ≤ rank list
    raised_within false is = subst (λ xs. p.head_b.version ≤ rank xs) (sym (own_same is)) read.version_b
    raised_within true is = by rises
      where
        by : Rises own_list list → (relisted true p.head_b).version ≤ rank list
        by (inl same) = absurd (own_differs is same)
        by (inr less) = (let low = read.version_b in omega (arith, low, less))

    spelled : (i : ℕ) → QualityFits (record { 0 = slice_get list i })
    spelled i = pair_in_word (slice_get list i) (got_pair list i fits_list)

    -- nothing refuses it
    no_cause : first_cause s c (causes_of s (Delegate m) (named_by is.a) (named_by is.b)) ≡ None
    no_cause =
        ap (λ b. first_of (if b then Some Reply.Same else None)
        (first_cause s c (is_short s (named_by is.a) m ∷ are_many s (named_by is.a) (named_by is.b) ∷ [])))
        (calls.not_same setup setting cores t stands c here a active now_p stage_is has)
        ∙ ap (λ (f : ℕ). first_of (if nat_lt (tcap_at s f).budget m then Some (Reply.Short (tcap_at s is.a.frame).budget) else None)
        (first_cause s c (are_many s (named_by is.a) (named_by is.b) ∷ []))) (sym is.shared.first)
        ∙ ap (λ b. first_of (if b then Some (Reply.Short (tcap_at s is.a.frame).budget) else None)
        (first_cause s c (are_many s (named_by is.a) (named_by is.b) ∷ []))) not_short
        ∙ ap (λ (f : ℕ). first_of (if nat_lt 8 (length (merged_list s f is.b.frame)) then Some Reply.TooMany else None) None)
        (sym is.shared.first)
        ∙ ap (λ (f : ℕ). first_of (if nat_lt 8 (length (merged_list s p.a f)) then Some Reply.TooMany else None) None)
        (sym is.shared.second)
        ∙ ap (λ b. first_of (if b then Some Reply.TooMany else None) None) (le-ltb 8 (length (merged_list s p.a p.b)) few)
      where
        not_short : nat_lt (tcap_at s p.a).budget m ≡ false
        not_short = ap (λ x. nat_lt (tcap_in x).budget m) tcap_a.is
            ∙ le-ltb qa.budget m (compared.enough setup setting cores t stands c here a active what_p stage_is has equal)

    change_is : change_of s c a.call ≡ Found (does c s Value.Nothing (move_edit p.a p.b m ∷ merge_edit p.b (merged_list s p.a p.b) ∷ []))
    change_is = calls.change_is setup setting cores t stands c here a active now_p stage_is has
        ∙ ap (λ o. unless o (change_by c s (Delegate m) is.a.frame is.b.frame)) no_cause
        ∙ ap (λ (f : ℕ). Found (does c s Value.Nothing (move_edit f is.b.frame m ∷ merge_edit is.b.frame (merged_list s f is.b.frame)
        ∷ [])))
        (sym is.shared.first)
        ∙ ap (λ (f : ℕ). Found (does c s Value.Nothing (move_edit p.a f m ∷ merge_edit f (merged_list s p.a f) ∷ [])))
        (sym is.shared.second)

    -- the state after it
    abbrev qa_less : TcapFields
    qa_less = record qa { budget = qa.budget - m }

    abbrev qb_more : TcapFields
    qb_more = record { budget = qb.budget + m; qualities = list }

    now : s' ≡ counted (with_both s p.a qa_less p.b qb_more) c
    now = ap (λ ph. state_decided_in ph (Reply.Ok Value.Nothing) s c) is_open
        ∙ ap (λ x. counted (changed s x) c) change_is
        ∙ ap (λ xs. counted (with_qualities (moved s p.a p.b m) p.b xs) c) (sym list_is)
        ∙ ap (λ x. counted x c) (moves.listed_both s p.a p.b m qa qb differ tcap_a.is tcap_b.is list)

    plain : IsUntimed setup t e
    plain = record {
      begins = λ x. ap (λ ph. begins_in (Some (Reply.Ok Value.Nothing)) ph s c x) is_open ∙ ap (λ j. begun_by j x) change_is;
      ends = λ x. ap (λ ph. ends_in (Some (Reply.Ok Value.Nothing)) ph x) is_open ∙ is.ends_none x;
      flushes = ap (flushes_in (Some (Reply.Ok Value.Nothing))) is_open ∙ is.flush_none;
      apart = λ d. refl;
      same = refl;
    }

    is_moved : IsMoved setup t e p.a p.b qa qb qa_less qb_more
    is_moved = record {
      differ = differ;
      first = tcap_a.is;
      second = tcap_b.is;
      below_first = compared.below_a setup setting cores t stands c here a active what_p stage_is has;
      below_second = compared.below_b setup setting cores t stands c here a active what_p stage_is has;
      now = now;
      plain = plain;
    }

    alike : ReadsAlike setup t e
    alike = moves.alike setup setting cores t stands c here a active compare p.a p.b qa qb qa_less qb_more is_moved

    frame_a : s'.frame p.a ≡ Kernel (Tcap qa_less)
    frame_a = moves.frame_first setup setting cores t stands c here a active compare p.a p.b qa qb qa_less qb_more is_moved p.a refl

    frame_b : s'.frame p.b ≡ Kernel (Tcap qb_more)
    frame_b = moves.frame_second setup setting cores t stands c here a active compare p.a p.b qa qb qa_less qb_more is_moved p.b refl

    -- what it holds then
    elsewhere : (w : Word) → w ≢ at → (holds after).marks w ≡ (holds (cores c)).marks w
    elsewhere w there =
        ap (λ b. if b then true else if same_word w at_a then true else (holds_counts (Some None) a.counts).marks w)
        (same_word-other w at there)
        ∙ ap (λ b. if same_word w at_a then true else b) (same_marks (Some None) None a.counts w)
        ∙ sym (ap (λ h. h.marks w) held) ∙ ap (λ o. (holds_in o).marks w) (sym active)

    marks_it : (holds after).marks at ≡ true
    marks_it = ap (λ b. if b then true else if same_word at at_a then true else (holds_counts (Some None) a.counts).marks at) (same_same at)

    none : (g i : ℕ) → (holds (cores c)).bare g i ≡ None
    none g i = ap (λ o. (holds_in o).bare g i) active ∙ ap (λ h. h.bare g i) held ∙ counts_bare None a.counts g i

    listed_at : (g i v : ℕ) → (holds after).bare g i ≡ Some v → IsListed p.b 1 (word_of_list list) g i v
    listed_at g i v kept = listed p.b 1 (word_of_list list) g i v ((holds_counts (Some None) a.counts).bare g i)
        (counts_bare (Some None) a.counts g i) kept

    none_some : (v : ℕ) → None ≡ Some v → ⊥
    none_some v h = cc

    -- no core keeps a word of this list
    unkept : (i d : ℕ) → (held_by cores d).bare p.b i ≡ None
    unkept i = not_exclusive_list setup cores t stands p.b qb tcap_b.is i (λ d some mark. absurd (none_some d (sym bare ∙ mark)))

    taken : (g i v : ℕ) → (holds after).bare g i ≡ Some v → IsTaken setup cores t at g i
    taken g i v kept = at_place i (listed_at g i v kept)
      where
        at_place : (i : ℕ) → IsListed p.b 1 (word_of_list list) g i v → IsTaken setup cores t at g i
        at_place zero is_in = absurd (let low = is_in.least in omega (arith, low))
        at_place (suc j) is_in = record {
          apart = λ h. apart h;
          bare = ap (λ (n : ℕ). marked_by setup t (EntryAt n (suc j))) is_in.frame
              ∙ list_bare setup setting cores t stands p.b qb tcap_b.is j (last_left setup t (EntryAt p.b (suc j)));
          free = λ d. ap (λ (n : ℕ). (held_by cores d).bare n (suc j)) is_in.frame ∙ unkept (suc j) d;
        }
          where
            index : EntryAt g (suc j) ≡ EntryAt p.b 0 → suc j ≡ 0
            index h = cc

            apart : EntryAt g (suc j) ≡ EntryAt p.b 0 → ⊥
            apart h = let same = index h in omega (arith, same)

    marks : (w : Word) (d : ℕ) → MarkIs setup (held_by (put cores c after)) (e ∷ t) w d
    marks = turned.turned_marks setup setting cores t stands e after here alike elsewhere bare marked_now marks_it

    -- what is said of the words
    list_says : (j : ℕ) → j < 8 → WordIs s' (times_of setup (e ∷ t)) (EntryAt p.b (suc j)) (word_of_list list (suc j))
    list_says j low =
        subst (λ x. IsFrameWord s'.limits.frames x (s'.place p.b (suc j)) (stamp setup (e ∷ t) (PlaceOf p.b (suc j)))
        (suc j) (word_of_list list (suc j))) (sym frame_b)
        (λ below. ap (λ (n : ℕ). quality_of_word (word_of_quality (record { 0 = slice_get list n }))) at_pair
        ∙ qualities.spelling.reads (record { 0 = slice_get list j }) (spelled j))
      where
        at_pair : suc j - 1 ≡ j
        at_pair = omega arith

    keeps : (g i v : ℕ) → (holds after).bare g i ≡ Some v → WordIs s' (times_of setup (e ∷ t)) (EntryAt g i) v
    keeps g i v kept = at_place i (listed_at g i v kept)
      where
        at_place : (i : ℕ) → IsListed p.b 1 (word_of_list list) g i v → WordIs s' (times_of setup (e ∷ t)) (EntryAt g i) v
        at_place zero is_in = absurd (let low = is_in.least in omega (arith, low))
        at_place (suc j) is_in =
            subst (λ (n : ℕ). WordIs s' (times_of setup (e ∷ t)) (EntryAt n (suc j)) v) (sym is_in.frame)
            (subst (λ (n : ℕ). WordIs s' (times_of setup (e ∷ t)) (EntryAt p.b (suc j)) n) (sym is_in.word)
            (list_says j (let high = is_in.most in omega (arith, high))))

    debited_says : WordIs s' (times_of setup (e ∷ t)) at_a (word_of_head (debited p.head_a m))
    debited_says =
        subst (λ x. IsFrameWord s'.limits.frames x (s'.place p.a 0) (stamp setup (e ∷ t) (PlaceOf p.a 0)) 0
        (word_of_head (debited p.head_a m)))
        (sym frame_a) (compared.debited_is setup setting cores t stands c here a active what_p stage_is has equal)

    credited_says : WordIs s' (times_of setup (e ∷ t)) at (word_of_head (credited (relisted p.grows p.head_b) m))
    credited_says =
        subst (λ x. IsFrameWord s'.limits.frames x (s'.place p.b 0) (stamp setup (e ∷ t) (PlaceOf p.b 0)) 0
        (word_of_head (credited (relisted p.grows p.head_b) m)))
        (sym frame_b)
        (compared.credited_is setup setting cores t stands c here a active what_p stage_is has equal (relisted p.grows p.head_b) refl
        (raised_fits p.grows) list (raised_within p.grows refl) few_list)

    apart_heads : at_a ≢ at
    apart_heads h = differ (frame_is h)
      where
        frame_is : at_a ≡ at → p.a ≡ p.b
        frame_is h = cc

    own_says : (w : Word) → marked_by setup (e ∷ t) w ≡ Some c → WordIs s' (times_of setup (e ∷ t)) w ((holds after).stands w)
    own_says w mark = elim (cases_word w at) [
      | inl head ↦ subst (λ (v : Word). WordIs s' (times_of setup (e ∷ t)) v ((holds after).stands v)) (sym head)
          (subst (WordIs s' (times_of setup (e ∷ t)) at)
          (sym (ap (λ b. if b then word_of_head (credited (relisted p.grows p.head_b) m) else if same_word at at_a
          then word_of_head (debited p.head_a m)
          else (holds_counts (Some None) a.counts).stands at) (same_same at))) credited_says)
      | inr there ↦ subst (λ (v : Word). WordIs s' (times_of setup (e ∷ t)) v ((holds after).stands v)) (sym (is_a there))
          (subst (WordIs s' (times_of setup (e ∷ t)) at_a)
          (sym (ap (λ b. if b then word_of_head (credited (relisted p.grows p.head_b) m) else if same_word at_a at_a
          then word_of_head (debited p.head_a m)
          else (holds_counts (Some None) a.counts).stands at_a) (same_word-other at_a at apart_heads)
          ∙ ap (λ b. if b then word_of_head (debited p.head_a m) else (holds_counts (Some None) a.counts).stands at_a) (same_same at_a)))
          debited_says)
    ]
      where
        is_a : w ≢ at → w ≡ at_a
        is_a there = compared.only_a setup setting cores t stands c here a active what_p stage_is has w
            (sym (alike w ∙ ap (mark_of s w) (last_left-there setup w e t there)) ∙ mark)

    stays : (w : Word) → w ≢ at → marked_by setup t w ≢ Some c → ((g i : ℕ) → w ≡ EntryAt g i → (holds after).bare g i ≡ None)
        → StaysSaid setup cores t e w
    stays w there free unlisted =
        moves.stays setup setting cores t stands c here a active compare p.a p.b qa qb qa_less qb_more is_moved refl w
        (λ h. free (ap (marked_by setup t) h ∙ compared.mark_a setup setting cores t stands c here a active what_p stage_is has)) there
        (λ j h low. absurd (none_some (word_of_list list (suc j)) (sym (unlisted p.b (suc j) h) ∙ kept j low)))
      where
        kept : (j : ℕ) → j < 8 → (holds after).bare p.b (suc j) ≡ Some (word_of_list list (suc j))
        kept j low = ap (λ b. if b then Some (word_of_list list (suc j)) else (holds_counts (Some None) a.counts).bare p.b (suc j))
            (and_from (p.b == p.b) (nat_le 1 (suc j) && nat_le (suc j) 8) (eq-eqb p.b p.b refl)
            (and_from (nat_le 1 (suc j)) (nat_le (suc j) 8) (le-leb 1 (suc j) (omega arith)) (le-leb (suc j) 8 (omega (arith, low)))))

    words : (w : Word) → WordIs s' (times_of setup (e ∷ t)) w (settled setup (held_by (put cores c after)) (e ∷ t) w)
    words = turned.turned_words setup setting cores t stands e after here alike elsewhere bare marked_now marks_it none taken stays
        own_says keeps

    count_same : (g d : ℕ) → settled setup (held_by (put cores c after)) (e ∷ t) (CountAt g d)
        ≡ settled setup (held_by cores) t (CountAt g d)
    count_same g d = turned.there_settled setup setting cores t stands e after here alike elsewhere bare marked_now marks_it none taken
        (CountAt g d) no_entry (compared.count_apart setup setting cores t stands c here a active what_p stage_is has g d)
        (λ f i h. absurd (cc))
      where
        no_entry : CountAt g d ≢ at
        no_entry h = cc

    -- what the call has still to store
    tcap_left : (f : ℕ) (q : TcapFields) → s'.frame f ≡ Kernel (Tcap q) → HasTcap s c f → HasTcap s' c f
    tcap_left = moves.tcap_left setup setting cores t stands c here a active compare p.a p.b qa qb qa_less qb_more is_moved

    footprint : (f : ℕ) → IsInFootprint c a.call (EntryAt f 0) s → WasAt (IsInFootprint c a.call (EntryAt f 0)) setup (e ∷ t) c
    footprint f now_footprint = was_stays (IsInFootprint c a.call (EntryAt f 0)) setup t e c (λ same. refl)
        (now_was (IsInFootprint c a.call (EntryAt f 0)) setup t c a.call is_open now_footprint)

    left_a : StoresA setup (e ∷ t) left_p
    left_a =
        let on = marked_on setup t e refl now_p 8 (λ i h. absurd (apart i h)) both.a in record {
          raw = on.raw;
          fits = both.a.fits;
          bare = both.a.bare;
          clean = on.clean;
        }
      where
        frame_is : (i : ℕ) → EntryAt p.a i ≡ EntryAt p.b 0 → p.a ≡ p.b
        frame_is i h = cc

        apart : (i : ℕ) → EntryAt p.a i ≡ EntryAt p.b 0 → ⊥
        apart i h = differ (frame_is i h)

    left_known : KnowsShared setup (e ∷ t) c a.call left_p
    left_known = record {
      budgets = is.budgets;
      core = has.knows.knows.core;
      footprint = footprint p.a (calls.footprint_a setup setting cores t stands c here a active now_p stage_is has);
      tcap_a = tcap_left p.a qa_less frame_a has.knows.knows.tcap_a;
      at = (
        omega arith,
        omega arith,
        record {
          a = left_a;
          raw = last_left-here setup at e t refl ∙ leaves_it;
          fits = both.b.head.fits;
          bare = both.b.head.bare;
          few = few_b;
          footprint = footprint p.b (calls.footprint_b setup setting cores t stands c here a active now_p stage_is has);
          tcap = tcap_left p.b qb_more frame_b has.knows.knows.tcap_b;
          differ = differ;
          spelled = spelled;
          same = keeps;
        },
      );
    }
      where
        index : (j : ℕ) → EntryAt p.b (suc j) ≡ EntryAt p.b 0 → suc j ≡ 0
        index j h = cc

        at_pair : (j : ℕ) → suc j - 1 ≡ j
        at_pair j = omega arith

        own_fields : own_list ≡ qb.qualities
        own_fields = ap (λ x. (tcap_in x).qualities) tcap_b.is

        -- the word of B's own list there is the one that is still to be stored
        own_word : (j : ℕ) → j < 8 → list ≡ qb.qualities → last_left setup t (EntryAt p.b (suc j)) ≡ word_of_list list (suc j)
        own_word j low same =
            sym (qualities.spelling.spells (last_left setup t (EntryAt p.b (suc j))) (record { 0 = slice_get qb.qualities j })
            (list_plain setup setting cores t stands p.b qb tcap_b.is bare j low)).1
            ∙ ap (λ xs. word_of_quality (record { 0 = slice_get xs j })) (sym same)
            ∙ ap (λ (n : ℕ). word_of_quality (record { 0 = slice_get list n })) (sym (at_pair j))

        keeps : p.grows ≡ false → KeepsList setup (e ∷ t) left_p
        keeps is = record {
          clean = ap (λ b. if b && not (left_of compare was == was) then false else list_changed t p.b) (eq-eqb p.b p.b refl)
              ∙ ap (λ b. if not b then false else list_changed t p.b) changes;
          words = λ j low. last_left-there setup (EntryAt p.b (suc j)) e t (λ h. absurd (let zero_is = index j h in omega (arith, zero_is)))
              ∙ own_word j low (own_same is ∙ own_fields);
        }

    exclusive : (g i v : ℕ) → (holds after).bare g i ≡ Some v → IsExclusive setup (e ∷ t) c g i
    exclusive g i v kept =
        let is_in = listed_at g i v kept in
        let had = taken g i v kept in record {
          core = here;
          unmarked = alike (EntryAt g i) ∙ ap (mark_of s (EntryAt g i)) (last_left-there setup (EntryAt g i) e t had.apart) ∙ had.bare;
          word = inr (record {
            list = is_in.least;
            tcap = subst (HasTcap s' c) (sym is_in.frame) (tcap_left p.b qb_more frame_b has.knows.knows.tcap_b);
            head = ap (λ (n : ℕ). marked_by setup (e ∷ t) (EntryAt n 0)) is_in.frame ∙ (marks at c).kept marks_own_head;
          });
        }
      where
        marks_own_head : (held_by (put cores c after) c).marks at ≡ true
        marks_own_head = ap (λ k. (holds k).marks at) (put_same cores c after c refl) ∙ marks_it

    turns : SparesTcap setup t e p.b 0
    turns = inr (subst (λ o. TurnsHead c (list_changed t p.b) (head_of_word was) o)
        (sym (ap head_of_word leaves_it ∙ reads_new))
        (subst (λ o. TurnsHead c (list_changed t p.b) o (Some new_head))
        (sym (compared.shown setup setting cores t stands c here a active what_p stage_is has equal))
        (inl both.b.head.bare, inr (refl, inl both.b.head.bare))))

    permitted : MayReply s c a.call (Reply.Ok Value.Nothing)
    permitted = (
      not_spent setup (cores c) t c (core_is setup setting cores t stands c here a active) room,
      (has.acts, subst (λ x. IsFoundAnd x (λ y. y.value ≡ Value.Nothing)) (sym change_is) refl),
    )

    pub won_good : GoodTook setup cores t c compare
        (landed a (took_shared left_p (again_end true (Reply.Ok Value.Nothing))))
    won_good lands =
        decides_changing setup setting cores t stands c here a active compare (Reply.Ok Value.Nothing)
        (record (cores c).own { made = (cores c).own.made + 1 }) stage
        (record { core = refl; layout = refl; limit = refl; epochs = refl; exit = refl })
        (subst (λ (n : ℕ). n < 2 ^ 64) (sym leaves_it) (spelling.small new_head new_fits))
        (compared.of_call setup setting cores t stands c here a active what_p stage_is has) lands
        (calls.opens setup setting cores t stands c here a active now_p stage_is has) refl
        (marks_own setup cores t e after elsewhere stands.marks marks)
        (λ d mark other. absurd (none_some d (sym bare ∙ mark)))
        (plain_begins setup t e plain) (spares_one setup t e p.b 0 qb refl tcap_b.is turns)
        (inr (spares_none setup t e (λ f. plain.ends (FrameOf f))))
        (moves.rises setup setting cores t stands c here a active compare p.a p.b qa qb qa_less qb_more is_moved)
        (moves.works setup setting cores t stands c here a active compare p.a p.b qa qb qa_less qb_more is_moved)
        marks words exclusive (exclusive_free cores e (not_exclusive_head_word setup cores t stands p.b qb tcap_b.is))
        (sums_keep setup t e (held_by cores) (held_by (put cores c after)) count_same plain
        (moves.limits setup setting cores t stands c here a active compare p.a p.b qa qb qa_less qb_more is_moved)
        (moves.refs_same setup setting cores t stands c here a active compare p.a p.b qa qb qa_less qb_more is_moved) stands.sums)
        (record {
          call = a.call;
          is_open = is_open;
          permitted = permitted;
          justified = all_gone setup setting cores t stands c here a active now_p stage_is has e refl refl;
        })
        (λ is_alone. ok_first s c a.call Value.Nothing permitted)
        left_known

  pub delegate_good : GoodTook setup cores t c compare (landed a (took_share now_p was))
  delegate_good = by (was == old) refl
    where
      by : (equal : Bool) → (was == old) ≡ equal
          → GoodTook setup cores t c compare
          (landed a (took_shared (record now_p { at = compared_after equal (Delegate m) }) (again_end equal (Reply.Ok Value.Nothing))))
      by true told = won_good told
      by false told = compared.lost_good setup setting cores t stands c here a active what_p stage_is has told
