-- The compare of the head of the second of two temporal capabilities: it carries out a transfer, or is lost.
use Rattle.pair_invariant.specs.step_ways.proofs.{◌≡◌, ◌≢◌, inl, inr, ℕ, ◌+◌, ◌-◌, ◌<◌, ◌≤◌, ◌^◌, ◌==◌, not, ltb as nat_lt, Bool, true}
use Rattle.pair_invariant.specs.step_ways.proofs.{false, if◌then◌else◌, [], ◌∷◌, Some, None, refl, sym, ◌∙◌, ap, subst, le-ltb, Setting}
use Rattle.pair_invariant.specs.step_ways.proofs.{IsSetting, HeadFits, word_of_head, head_of_word, HeadWord, spelling, Word, EntryAt}
use Rattle.pair_invariant.specs.step_ways.proofs.{CountAt, same_word, Move, CompareOf, left_of, same_same, Kernel, Tcap, TcapFields}
use Rattle.pair_invariant.specs.step_ways.proofs.{PlaceOf, FrameOf, State, put, tcap_in, Found, IsFoundAnd, unless, first_of, first_cause}
use Rattle.pair_invariant.specs.step_ways.proofs.{tcap_at, is_short, are_unlike, change_of, changed, counted, MayReply, mark_of, head_mark}
use Rattle.pair_invariant.specs.step_ways.proofs.{marked_by, ends_in, flushes_in, stamp, Step, Trace, Open, phase, state_after, last_left}
use Rattle.pair_invariant.specs.step_ways.proofs.{state_decided_in, ok_first, debited, credited, in_order, same_list, again_end, by_alike}
use Rattle.pair_invariant.specs.step_ways.proofs.{Pair, CompareB, AgainB, StoreA, Act, took_shared, took_share, Stage, Undecided, Decided}
use Rattle.pair_invariant.specs.step_ways.proofs.{ActiveCall, landed, Core, holds_counts, KnowsUndecided, list_changed, TurnsHead}
use Rattle.pair_invariant.specs.step_ways.proofs.{SparesTcap, HasTcap, HasBoth, holds_at, holds_in, holds_head, holds, held_by, times_of}
use Rattle.pair_invariant.specs.step_ways.proofs.{Invariant, IsFrameWord, WordIs, counts_bare, IsUntimed, plain_begins}
use Rattle.pair_invariant.specs.step_ways.proofs.{not_exclusive_head_word, sums_keep, TcapOf, ReadsAlike, StaysSaid, others_settled}
use Rattle.pair_invariant.specs.step_ways.proofs.{phase_at, found as named_by, begins_in, rank, Share as share_act, next_at, core_in_call}
use Rattle.pair_invariant.specs.step_ways.proofs.{core_is, inner, GoodTook, not_spent, spares_none, same_marks, decides_writing, does}
use Rattle.pair_invariant.specs.step_ways.proofs.{Reply, Value}
use Rattle.pair_invariant.proofs.{AreRead, all_gone, spares_one, causes_of, change_by, mark_is}
use Rattle.pair_invariant.specs.kernel_rules.specs.{are_alike, begins_in as begun_by, Move as move_edit}
use Rattle.pair_invariant.specs.stage_tcap.specs.{Pairs.compared_after, declared.pair.PairWork.TheVariants.Transfer}
use Rattle.pair_invariant.specs.act_states.specs.declared.work.Tail.TheVariants.{Share as share_tail}
use Rattle.pair_invariant.proofs.{ListsKnown.same_alike, Moved.IsMoved, Moved.with_both, ShareSteps.stores_a}
use Rattle.share_invariant.proofs.Compared as compared
use Rattle.pair_invariant.proofs.ListsKnown as known
use Rattle.pair_invariant.proofs.Moved as moves
use Rattle.pair_invariant.proofs.ShareCalls as calls

module _ (setup : Setting) (setting : IsSetting setup) (cores : ℕ → Core) (t : Trace) (stands : Invariant setup cores t) (c : ℕ)
    (here : c < setup.cores)
    (a : ActiveCall) (active : (cores c).active ≡ Some a) (p : Pair) (m : ℕ)
    (stage_is : a.stage ≡ Undecided (Act (share_act (record p { what = Transfer m; at = CompareB }))))
    (has : KnowsUndecided setup t c (cores c).own.table a (Act (share_act (record p { what = Transfer m; at = CompareB })))) where
  abbrev now_p : Pair
  now_p = record p { what = Transfer m; at = CompareB }

  abbrev s : State
  s = state_after setup t

  abbrev at : Word
  at = EntryAt p.b 0

  abbrev at_a : Word
  at_a = EntryAt p.a 0

  abbrev was : ℕ
  was = last_left setup t at

  abbrev old : ℕ
  old = word_of_head p.head_b

  abbrev new_head : HeadWord
  new_head = credited p.head_b m

  abbrev compare : Move
  compare = CompareOf at old (word_of_head new_head)

  abbrev both : HasBoth setup t c now_p CompareB
  both = has.knows.knows.at

  held : holds_in (Some a) ≡ holds_head now_p false (holds_counts None a.counts)
  held = calls.held_is setup setting cores t stands c here a active now_p stage_is has

  abbrev tcap_a : TcapOf (s.frame p.a)
  tcap_a = calls.tcap_a setup setting cores t stands c here a active now_p stage_is has

  abbrev tcap_b : TcapOf (s.frame p.b)
  tcap_b = calls.tcap_b setup setting cores t stands c here a active now_p stage_is has

  abbrev qa : TcapFields
  qa = tcap_a.fields

  abbrev qb : TcapFields
  qb = tcap_b.fields

  differ : p.a ≢ p.b
  differ = calls.differ setup setting cores t stands c here a active now_p stage_is has

  abbrev is : calls.IsShare s c a.call a.found now_p
  is = calls.is setup setting cores t stands c here a active now_p stage_is has

  room : (cores c).own.made < (cores c).own.limit
  room = calls.room setup setting cores t stands c here a active now_p stage_is has

  opens : phase_at a.call a.stage ≡ Open a.call
  opens = calls.opens setup setting cores t stands c here a active now_p stage_is has

  is_open : phase t c ≡ Open a.call
  is_open = calls.is_open setup setting cores t stands c here a active now_p stage_is has

  abbrev what_p : Pair
  what_p = record p { what = Transfer m }

  -- The word is as it was read.
  module _ (equal : (was == old) ≡ true) where
    abbrev e : Step
    e = inner setup setting cores t stands c here a active compare (Some (Reply.Ok Value.Nothing)) None

    abbrev s' : State
    s' = state_after setup (e ∷ t)

    abbrev left_p : Pair
    left_p = record now_p { at = StoreA true Value.Nothing }

    abbrev stage : Stage
    stage = Decided (Reply.Ok Value.Nothing) None (share_tail left_p)

    abbrev after : Core
    after = core_in_call (cores c) ((cores c).own.made + 1) (next_at a a.found stage)

    leaves_it : left_of compare was ≡ word_of_head new_head
    leaves_it = compared.leaves_it setup setting cores t stands c here a active what_p stage_is has equal

    read : AreRead s now_p both.read
    read = compared.read setup setting cores t stands c here a active what_p stage_is has equal

    shown : head_of_word was ≡ Some p.head_b
    shown = compared.shown setup setting cores t stands c here a active what_p stage_is has equal

    bare : marked_by setup t at ≡ None
    bare = compared.bare setup setting cores t stands c here a active what_p stage_is has equal

    enough : m ≤ qa.budget
    enough = compared.enough setup setting cores t stands c here a active what_p stage_is has equal

    new_fits : HeadFits new_head
    new_fits = compared.credited_fits setup setting cores t stands c here a active what_p stage_is has equal p.head_b
        both.b.head.fits.2

    reads_new : head_of_word (word_of_head new_head) ≡ Some new_head
    reads_new = spelling.reads new_head new_fits

    bare_now : mark_of s at (left_of compare was) ≡ None
    bare_now = ap (mark_of s at) leaves_it ∙ mark_is setup setting cores t stands p.b qb tcap_b.is (word_of_head new_head)
        ∙ ap head_mark reads_new

    -- nothing refuses the transfer
    alike : same_list (in_order p.list_a) (in_order p.list_b) ≡ true
    alike = by (same_list (in_order p.list_a) (in_order p.list_b)) refl
      where
        not_again : AgainB Reply.Unlike ≡ CompareB → ⊥
        not_again h = cc

        by : (b : Bool) → same_list (in_order p.list_a) (in_order p.list_b) ≡ b → b ≡ true
        by true told = refl
        by false told = absurd (not_again (sym (ap by_alike told) ∙ both.judges))

    lists_alike : are_alike (tcap_at s p.a).qualities (tcap_at s p.b).qualities ≡ true
    lists_alike = same_alike (tcap_at s p.a).qualities (tcap_at s p.b).qualities
        ∙ ap (λ xs. same_list (in_order xs) (tcap_at s p.b).qualities) (sym read.list_a)
        ∙ ap (λ xs. same_list (in_order p.list_a) (in_order xs)) (sym read.list_b)
        ∙ ap (λ xs. same_list (in_order p.list_a) (in_order xs)) (sym both.whole) ∙ alike

    no_cause : first_cause s c (causes_of s (Transfer m) (named_by is.a) (named_by is.b)) ≡ None
    no_cause =
        ap (λ b. first_of (if b then Some Reply.Same else None)
        (first_cause s c (is_short s (named_by is.a) m ∷ are_unlike s (named_by is.a) (named_by is.b) ∷ [])))
        (calls.not_same setup setting cores t stands c here a active now_p stage_is has)
        ∙ ap (λ (f : ℕ). first_of (if nat_lt (tcap_at s f).budget m then Some (Reply.Short (tcap_at s is.a.frame).budget) else None)
        (first_cause s c (are_unlike s (named_by is.a) (named_by is.b) ∷ []))) (sym is.shared.first)
        ∙ ap (λ b. first_of (if b then Some (Reply.Short (tcap_at s is.a.frame).budget) else None)
        (first_cause s c (are_unlike s (named_by is.a) (named_by is.b) ∷ []))) not_short
        ∙ ap (λ (f : ℕ). first_of (if not (are_alike (tcap_at s f).qualities (tcap_at s is.b.frame).qualities)
        then Some Reply.Unlike else None) None)
        (sym is.shared.first)
        ∙ ap (λ (f : ℕ). first_of (if not (are_alike (tcap_at s p.a).qualities (tcap_at s f).qualities)
        then Some Reply.Unlike else None) None)
        (sym is.shared.second)
        ∙ ap (λ b. first_of (if not b then Some Reply.Unlike else None) None) lists_alike
      where
        not_short : nat_lt (tcap_at s p.a).budget m ≡ false
        not_short = ap (λ x. nat_lt (tcap_in x).budget m) tcap_a.is ∙ le-ltb qa.budget m enough

    change_is : change_of s c a.call ≡ Found (does c s Value.Nothing (move_edit p.a p.b m ∷ []))
    change_is = calls.change_is setup setting cores t stands c here a active now_p stage_is has
        ∙ ap (λ o. unless o (change_by c s (Transfer m) is.a.frame is.b.frame)) no_cause
        ∙ ap (λ (f : ℕ). Found (does c s Value.Nothing (move_edit f is.b.frame m ∷ []))) (sym is.shared.first)
        ∙ ap (λ (f : ℕ). Found (does c s Value.Nothing (move_edit p.a f m ∷ []))) (sym is.shared.second)

    -- the state after it
    abbrev qa_less : TcapFields
    qa_less = record qa { budget = qa.budget - m }

    abbrev qb_more : TcapFields
    qb_more = record qb { budget = qb.budget + m }

    now : s' ≡ counted (with_both s p.a qa_less p.b qb_more) c
    now = ap (λ ph. state_decided_in ph (Reply.Ok Value.Nothing) s c) is_open
        ∙ ap (λ x. counted (changed s x) c) change_is
        ∙ ap (λ x. counted x c) (moves.moved_both s p.a p.b m qa qb differ tcap_a.is tcap_b.is)

    plain : IsUntimed setup t e
    plain = record {
      begins = λ x. ap (λ ph. begins_in (Some (Reply.Ok Value.Nothing)) ph s c x) is_open ∙ ap (λ j. begun_by j x) change_is;
      ends = λ x. ap (λ ph. ends_in (Some (Reply.Ok Value.Nothing)) ph x) is_open ∙ is.ends_none x;
      flushes = ap (flushes_in (Some (Reply.Ok Value.Nothing))) is_open ∙ is.flush_none;
      apart = λ d. refl;
      same = refl;
    }

    is_moved : IsMoved setup t e p.a p.b qa qb qa_less qb_more
    is_moved = record {
      differ = differ;
      first = tcap_a.is;
      second = tcap_b.is;
      below_first = compared.below_a setup setting cores t stands c here a active what_p stage_is has;
      below_second = compared.below_b setup setting cores t stands c here a active what_p stage_is has;
      now = now;
      plain = plain;
    }

    limits : s'.limits ≡ s.limits
    limits = moves.limits setup setting cores t stands c here a active compare p.a p.b qa qb qa_less qb_more is_moved

    alike_now : ReadsAlike setup t e
    alike_now = moves.alike setup setting cores t stands c here a active compare p.a p.b qa qb qa_less qb_more is_moved

    frame_a : s'.frame p.a ≡ Kernel (Tcap qa_less)
    frame_a = moves.frame_first setup setting cores t stands c here a active compare p.a p.b qa qb qa_less qb_more is_moved p.a refl

    frame_b : s'.frame p.b ≡ Kernel (Tcap qb_more)
    frame_b = moves.frame_second setup setting cores t stands c here a active compare p.a p.b qa qb qa_less qb_more is_moved p.b refl

    stays : (w : Word) → w ≢ at → marked_by setup t w ≢ Some c → StaysSaid setup cores t e w
    stays w there free =
        moves.stays setup setting cores t stands c here a active compare p.a p.b qa qb qa_less qb_more is_moved refl w
        (λ h. free (ap (marked_by setup t) h ∙ compared.mark_a setup setting cores t stands c here a active what_p stage_is has)) there
        (λ j h low. refl)

    now_says : WordIs s' (times_of setup (e ∷ t)) at (left_of compare was)
    now_says = subst (WordIs s' (times_of setup (e ∷ t)) at) (sym leaves_it)
        (subst (λ x. IsFrameWord s'.limits.frames x (s'.place p.b 0)
        (stamp setup (e ∷ t) (PlaceOf p.b 0)) 0 (word_of_head new_head))
        (sym frame_b)
        (compared.credited_is setup setting cores t stands c here a active what_p stage_is has equal p.head_b refl both.b.head.fits.2
        qb.qualities
        (subst (λ (n : ℕ). p.head_b.version ≤ n) (ap (λ x. rank (tcap_in x).qualities) tcap_b.is) read.version_b)
        (known.range_of setup setting cores t stands p.b qb tcap_b.is).most))

    debited_says : WordIs s' (times_of setup (e ∷ t)) at_a (word_of_head (debited p.head_a m))
    debited_says =
        subst (λ x. IsFrameWord s'.limits.frames x (s'.place p.a 0) (stamp setup (e ∷ t) (PlaceOf p.a 0)) 0
        (word_of_head (debited p.head_a m)))
        (sym frame_a) (compared.debited_is setup setting cores t stands c here a active what_p stage_is has equal)

    commits : (w : Word) → marked_by setup t w ≡ Some c
        → WordIs s' (times_of setup (e ∷ t)) w ((holds_at stage a.counts).stands w)
    commits w own = subst (λ (v : Word). WordIs s' (times_of setup (e ∷ t)) v ((holds_at stage a.counts).stands v))
        (sym (compared.only_a setup setting cores t stands c here a active what_p stage_is has w own))
        (subst (WordIs s' (times_of setup (e ∷ t)) at_a)
        (sym (ap (λ b. if b then word_of_head (debited p.head_a m) else (holds_counts (Some None) a.counts).stands at_a) (same_same at_a)))
        debited_says)

    turns : SparesTcap setup t e p.b 0
    turns = inr (subst (λ o. TurnsHead c (list_changed t p.b) (head_of_word was) o)
        (sym (ap head_of_word leaves_it ∙ reads_new))
        (subst (λ o. TurnsHead c (list_changed t p.b) o (Some new_head)) (sym shown)
        (inl both.b.head.bare, inr (refl, inl both.b.head.bare))))

    permitted : MayReply s c a.call (Reply.Ok Value.Nothing)
    permitted = (
      not_spent setup (cores c) t c (core_is setup setting cores t stands c here a active) room,
      (has.acts, subst (λ x. IsFoundAnd x (λ y. y.value ≡ Value.Nothing)) (sym change_is) refl),
    )

    tcap_left : HasTcap s' c p.a
    tcap_left = moves.tcap_left setup setting cores t stands c here a active compare p.a p.b qa qb qa_less qb_more is_moved p.a
        qa_less frame_a
        has.knows.knows.tcap_a

    apart_a : (i : ℕ) → EntryAt p.a i ≡ EntryAt p.b 0 → left_of compare was ≡ was
    apart_a i h = absurd (differ (frame_is i h))
      where
        frame_is : (i : ℕ) → EntryAt p.a i ≡ EntryAt p.b 0 → p.a ≡ p.b
        frame_is i h = cc

    no_count : (g d : ℕ) → CountAt g d ≢ at
    no_count g d h = cc

    still : (w : Word) → (holds after).marks w ≡ (holds (cores c)).marks w
    still w = same_held w ∙ ap (λ o. (holds_in o).marks w) (sym active)
      where
        same_held : (w : Word) → (holds_at stage a.counts).marks w ≡ (holds_in (Some a)).marks w
        same_held w = ap (λ b. if same_word w at_a then true else b) (same_marks (Some None) None a.counts w)
            ∙ sym (ap (λ h. h.marks w) held)

    pub won_good : GoodTook setup cores t c compare
        (landed a (took_shared left_p (again_end true (Reply.Ok Value.Nothing))))
    won_good lands =
        decides_writing setup setting cores t stands c here a active compare ((cores c).own.made + 1) (Reply.Ok Value.Nothing) a.found stage
        bare bare_now (subst (λ (n : ℕ). n < 2 ^ 64) (sym leaves_it) (spelling.small new_head new_fits))
        (compared.of_call setup setting cores t stands c here a active what_p stage_is has) lands opens refl
        (λ w. ap (λ b. if same_word w at_a then true else b) (same_marks (Some None) None a.counts w) ∙ sym (ap (λ h. h.marks w) held))
        (λ g i. counts_bare (Some None) a.counts g i ∙ sym (ap (λ h. h.bare g i) held ∙ counts_bare None a.counts g i))
        (not_exclusive_head_word setup cores t stands p.b qb tcap_b.is) alike_now (plain_begins setup t e plain)
        (spares_one setup t e p.b 0 qb refl tcap_b.is turns) (inr (spares_none setup t e (λ f. plain.ends (FrameOf f))))
        (moves.rises setup setting cores t stands c here a active compare p.a p.b qa qb qa_less qb_more is_moved)
        (moves.works setup setting cores t stands c here a active compare p.a p.b qa qb qa_less qb_more is_moved) stays
        now_says commits
        (sums_keep setup t e (held_by cores) (held_by (put cores c after))
        (λ g d. others_settled setup cores t e after still alike_now bare bare_now (CountAt g d) (no_count g d)
        (compared.count_apart setup setting cores t stands c here a active what_p stage_is has g d) refl)
        plain limits
        (moves.refs_same setup setting cores t stands c here a active compare p.a p.b qa qb qa_less qb_more is_moved) stands.sums)
        (record {
          call = a.call;
          is_open = is_open;
          permitted = permitted;
          justified = all_gone setup setting cores t stands c here a active now_p stage_is has e refl refl;
        })
        (λ is_alone. ok_first s c a.call Value.Nothing permitted)
        (stores_a setup setting cores t stands c here a active now_p stage_is has 8 both.a held e refl refl refl apart_a tcap_left
        left_p true Value.Nothing refl refl refl refl)

  pub compare_good : GoodTook setup cores t c compare (landed a (took_share now_p was))
  compare_good = by (was == old) refl
    where
      by : (equal : Bool) → (was == old) ≡ equal
          → GoodTook setup cores t c compare
          (landed a (took_shared (record now_p { at = compared_after equal (Transfer m) }) (again_end equal (Reply.Ok Value.Nothing))))
      by true told = won_good told
      by false told = compared.lost_good setup setting cores t stands c here a active what_p stage_is has told
