-- The compare that marks the head of the first of two temporal capabilities.
use Rattle.count_invariant.specs.step_ways.proofs.{◌≡◌, inl, inr, ℕ, ◌+◌, ◌<◌, ◌^◌, ◌==◌, ◌&&◌, not, ltb as nat_lt, Bool, true, false}
use Rattle.count_invariant.specs.step_ways.proofs.{if◌then◌else◌, [], ◌∷◌, Some, None, arith, refl, sym, ◌∙◌, ap, subst, eq-eqb, ne_eqb}
use Rattle.count_invariant.specs.step_ways.proofs.{eqb-true, eqb-false, ltb-true, ltb-false, Setting, IsSetting, left_if, Reply, HeadFits}
use Rattle.count_invariant.specs.step_ways.proofs.{word_of_head, head_of_word, HeadWord, spelling, Word, EntryAt, Move, CompareOf, left_of}
use Rattle.count_invariant.specs.step_ways.proofs.{same_same, Kernel, Tcap, TcapFields, State, put, tcap_in, Refused, Does, RuleMay, unless}
use Rattle.count_invariant.specs.step_ways.proofs.{first_cause, tcap_at, put_same, changes_in_frame, HasRacedHead, mark_of, head_mark}
use Rattle.count_invariant.specs.step_ways.proofs.{marked_by, Step, Trace, state_after, last_left, state_decided_in, refused_first}
use Rattle.count_invariant.specs.step_ways.proofs.{same_word-other, last_left-here, was_stays, marked, amount_of, Pair, MarkA, ListA}
use Rattle.count_invariant.specs.step_ways.proofs.{PairWork, Act, refuse, took_shared, took_share, Undecided, Decided, ActiveCall, landed}
use Rattle.count_invariant.specs.step_ways.proofs.{went, GoesOn, Core, holds_counts, settled_by, HeadIs, KnowsUndecided, list_changed}
use Rattle.count_invariant.specs.step_ways.proofs.{TurnsHead, SparesTcap, HasTcap, holds_in, holds, held_by, Invariant, as_none}
use Rattle.count_invariant.specs.step_ways.proofs.{counts_bare, names_on, counts_on, not_exclusive_head_value, not_exclusive_head_word}
use Rattle.count_invariant.specs.step_ways.proofs.{exclusive_free, TcapOf, settled, IsInFootprint, word_of, counted, first_of, are_many}
use Rattle.count_invariant.specs.step_ways.proofs.{are_unlike, found as named_by, Share as share_act, Spared, SparesBlanks, IsOfCall}
use Rattle.count_invariant.specs.step_ways.proofs.{core_in_call, core_is, call_is, inner, GoodTook, ticks_at, not_spent, refuses_raced}
use Rattle.count_invariant.specs.step_ways.proofs.{next_at, is_short as is_short_of_timecalls, plan_for, Refusal}
use Rattle.count_invariant.specs.stage_tcap.specs.{giving_back, at_marked, marked_end}
use Rattle.count_invariant.specs.stage_tcap.specs.declared.pair.PairWork.TheVariants.{Transfer, Delegate, Test}
use Rattle.pair_invariant.proofs.ShareCalls.{causes_of, value_by, edits_by, change_by}
use Rattle.pair_invariant.proofs.ShareSteps.{mark_is, head_says, now_was, counted_tcap, shares_same}
use Rattle.{count_invariant.specs.act_states.specs.declared.work.Tail.TheVariants.Share as share_tail}
use Rattle.{count_invariant.specs.core_invariant.specs.Shares.turns_list, pair_invariant.proofs.Marking.decides_marking}
use Rattle.count_invariant.specs.step_ways.proofs.Counting as counters
use Rattle.pair_invariant.proofs.ShareCalls as calls

-- A step on a word of a temporal capability alone spares the words that others rely on, where it does so of this word.
pub spares_one : (setup : Setting) (t : Trace) (e : Step) (f i : ℕ) (q : TcapFields)
    → word_of e.move ≡ EntryAt f i → (state_after setup t).frame f ≡ Kernel (Tcap q)
    → SparesTcap setup t e f i → SparesBlanks setup t e
spares_one setup t e f i q at is turns g j on =
    subst (λ (m : ℕ). Spared setup t e m j ((state_after setup t).frame m)) (same_frame g j (sym at ∙ on))
    (subst (λ x. Spared setup t e f j x) (sym is) (subst (λ (m : ℕ). SparesTcap setup t e f m) (same_index g j (sym at ∙ on)) turns))
  where
    same_frame : (g j : ℕ) → EntryAt f i ≡ EntryAt g j → f ≡ g
    same_frame g j h = cc

    same_index : (g j : ℕ) → EntryAt f i ≡ EntryAt g j → i ≡ j
    same_index g j h = cc

module _ (setup : Setting) (setting : IsSetting setup) (cores : ℕ → Core) (t : Trace) (stands : Invariant setup cores t) (c : ℕ)
    (here : c < setup.cores)
    (a : ActiveCall) (active : (cores c).active ≡ Some a) (p : Pair)
    (stage_is : a.stage ≡ Undecided (Act (share_act (record p { at = MarkA }))))
    (has : KnowsUndecided setup t c (cores c).own.table a (Act (share_act (record p { at = MarkA })))) where
  abbrev s : State
  s = state_after setup t

  abbrev mark_p : Pair
  mark_p = record p { at = MarkA }

  abbrev at : Word
  at = EntryAt p.a 0

  abbrev was : ℕ
  was = last_left setup t at

  abbrev old : ℕ
  old = word_of_head p.head_a

  abbrev new : ℕ
  new = word_of_head (marked p.core p.head_a)

  abbrev compare : Move
  compare = CompareOf at old new

  tcap : TcapOf (s.frame p.a)
  tcap = calls.tcap_a setup setting cores t stands c here a active mark_p stage_is has

  abbrev q : TcapFields
  q = tcap.fields

  is : calls.IsShare s c a.call a.found mark_p
  is = calls.is setup setting cores t stands c here a active mark_p stage_is has

  held_counts : holds_in (Some a) ≡ holds_counts None a.counts
  held_counts = calls.held_is setup setting cores t stands c here a active mark_p stage_is has

  room : (cores c).own.made < (cores c).own.limit
  room = calls.room setup setting cores t stands c here a active mark_p stage_is has

  of_call : IsOfCall setup t c a.call compare
  of_call = record {
    moves = ap (changes_in_frame a.call) tcap.is ∙ is.budgets;
    footprint = inl (calls.footprint_a setup setting cores t stands c here a active mark_p stage_is has);
  }

  lost_good : (was == old) ≡ false → GoodTook setup cores t c compare (landed a (refuse Refusal.Raced))
  lost_good other =
      refuses_raced setup setting cores t stands c here a active
      (calls.opens setup setting cores t stands c here a active mark_p stage_is has) held_counts room compare
      (record { of_call = of_call; kept = kept; apart = λ d. refl }) (ap ticks_at stage_is)
      (record {
        at = inr (subst HasRacedHead (sym tcap.is) tt, refl);
        reads = eq-eqb (left_of compare was) was kept;
        own = old;
        has_read = has.knows.knows.at.0.own;
        changed = eqb-false was old other;
      })
    where
      kept : left_of compare was ≡ was
      kept = ap (λ b. left_if b was new) other

  -- It is won.
  module _ (equal : (was == old) ≡ true) where
    same : was ≡ old
    same = eqb-true was old equal

    leaves : left_of compare was ≡ new
    leaves = ap (λ b. left_if b was new) equal

    shown : head_of_word was ≡ Some p.head_a
    shown = ap head_of_word same ∙ spelling.reads p.head_a has.knows.knows.at.0.fits

    bare : marked_by setup t at ≡ None
    bare = mark_is setup setting cores t stands p.a q tcap.is was ∙ ap head_mark shown ∙ has.knows.knows.at.0.bare

    says : HeadIs q (Some p.head_a)
    says = subst (HeadIs q) shown (head_says setup setting cores t stands p.a q tcap.is bare)

    same_head : (v u : HeadWord) → Some v ≡ Some u → v ≡ u
    same_head v u h = cc

    budget_is : p.head_a.budget ≡ (tcap_at s is.a.frame).budget
    budget_is = ap (λ v. v.budget) (same_head _ _ says.says) ∙ ap (λ x. (tcap_in x).budget) (sym tcap.is)
        ∙ ap (λ (f : ℕ). (tcap_at s f).budget) is.shared.first

    core_is_c : p.core ≡ c
    core_is_c = has.knows.knows.core

    marked_fits : HeadFits (marked p.core p.head_a)
    marked_fits = (
      has.knows.knows.at.0.fits.0,
      (let most = setting.most_cores in let own = core_is_c in omega (arith, most, here, own)),
      has.knows.knows.at.0.fits.2,
    )

    reads_new : head_of_word new ≡ Some (marked p.core p.head_a)
    reads_new = spelling.reads (marked p.core p.head_a) marked_fits

    small : left_of compare was < 2 ^ 64
    small = subst (λ (n : ℕ). n < 2 ^ 64) (sym leaves) (spelling.small (marked p.core p.head_a) marked_fits)

    changes : (left_of compare was == was) ≡ false
    changes = ne_eqb (left_of compare was) was (λ h. absurd (not_same (sym reads_new ∙ ap head_of_word (sym leaves ∙ h) ∙ shown)))
      where
        mark_of_head : (v u : HeadWord) → Some v ≡ Some u → v.mark ≡ u.mark
        mark_of_head v u h = cc

        some_none : (d : ℕ) → Some d ≡ None → ⊥
        some_none d h = cc

        not_same : Some (marked p.core p.head_a) ≡ Some p.head_a → ⊥
        not_same h = some_none p.core (mark_of_head _ _ h ∙ has.knows.knows.at.0.bare)

    held_before : holds (cores c) ≡ holds_counts None a.counts
    held_before = ap holds_in active ∙ held_counts

    now_marked : mark_of s at (left_of compare was) ≡ Some c
    now_marked = ap (mark_of s at) leaves ∙ mark_is setup setting cores t stands p.a q tcap.is new ∙ ap head_mark reads_new
        ∙ ap (λ (d : ℕ). Some d) core_is_c

    none_some : (d : ℕ) → None ≡ Some d → ⊥
    none_some d h = cc

    turns : (e : Step) → e.core ≡ c → e.move ≡ compare → e.found ≡ was → SparesTcap setup t e p.a 0
    turns e own move_is found_is = inr (subst (λ o. TurnsHead e.core (list_changed t p.a) (head_of_word e.found) o)
        (sym (ap head_of_word (ap (λ m. left_of m e.found) move_is ∙ ap (left_of compare) found_is ∙ leaves) ∙ reads_new))
        (subst (λ o. TurnsHead e.core (list_changed t p.a) o (Some (marked p.core p.head_a)))
        (sym (ap head_of_word found_is ∙ shown))
        (inl has.knows.knows.at.0.bare, inr (refl, inl has.knows.knows.at.0.bare))))

    clean : (e : Step) → word_of e.move ≡ at → (left_of e.move e.found == e.found) ≡ false
        → list_changed (e ∷ t) p.a ≡ false
    clean e on other =
        ap (λ (w : Word). turns_list w (left_of e.move e.found == e.found) p.a (list_changed t p.a)) on
        ∙ ap (λ b. if b && not (left_of e.move e.found == e.found) then false else list_changed t p.a) (eq-eqb p.a p.a refl)
        ∙ ap (λ b. if not b then false else list_changed t p.a) other

    -- what is left of the rule where the budget is less than the ticks
    short_may : (what : PairWork) → nat_lt p.head_a.budget (amount_of what) ≡ true
        → RuleMay s c (Does (causes_of s what (named_by is.a) (named_by is.b)) (value_by s what is.a.frame is.b.frame)
        (edits_by s what is.a.frame is.b.frame))
        (Reply.Short p.head_a.budget)
    short_may (Transfer m) less = inr (inl (ap (λ (n : ℕ). nat_lt n m) (sym budget_is) ∙ less, ap (λ (n : ℕ). Reply.Short n) budget_is))
    short_may (Delegate m) less = inr (inl (ap (λ (n : ℕ). nat_lt n m) (sym budget_is) ∙ less, ap (λ (n : ℕ). Reply.Short n) budget_is))
    short_may Test less = absurd (let low = ltb-true p.head_a.budget 0 less in omega (arith, low))

    short_first : (what : PairWork) → nat_lt p.head_a.budget (amount_of what) ≡ true
        → unless (first_cause s c (causes_of s what (named_by is.a) (named_by is.b))) (change_by c s what is.a.frame is.b.frame)
        ≡ Refused (Reply.Short p.head_a.budget)
    unfolding is
    short_first Test less = absurd (let low = ltb-true p.head_a.budget 0 less in omega (arith, low))
    short_first (Transfer m) less =
        ap (λ b. unless (first_of (if b then Some Reply.Same else None)
        (first_cause s c (is_short_of_timecalls s (named_by is.a) m
        ∷ are_unlike s (named_by is.a) (named_by is.b) ∷ [])))
        (change_by c s (Transfer m) is.a.frame is.b.frame))
        (calls.not_same setup setting cores t stands c here a active mark_p stage_is has)
        ∙ ap (λ b. unless (first_of (if b then Some (Reply.Short (tcap_at s is.a.frame).budget) else None)
        (first_cause s c (are_unlike s (named_by is.a) (named_by is.b) ∷ [])))
        (change_by c s (Transfer m) is.a.frame is.b.frame)) (ap (λ (n : ℕ). nat_lt n m) (sym budget_is) ∙ less)
        ∙ ap (λ (n : ℕ). Refused (Reply.Short n)) (sym budget_is)
    short_first (Delegate m) less =
        ap (λ b. unless (first_of (if b then Some Reply.Same else None)
        (first_cause s c (is_short_of_timecalls s (named_by is.a) m
        ∷ are_many s (named_by is.a) (named_by is.b) ∷ [])))
        (change_by c s (Delegate m) is.a.frame is.b.frame))
        (calls.not_same setup setting cores t stands c here a active mark_p stage_is has)
        ∙ ap (λ b. unless (first_of (if b then Some (Reply.Short (tcap_at s is.a.frame).budget) else None)
        (first_cause s c (are_many s (named_by is.a) (named_by is.b) ∷ [])))
        (change_by c s (Delegate m) is.a.frame is.b.frame)) (ap (λ (n : ℕ). nat_lt n m) (sym budget_is) ∙ less)
        ∙ ap (λ (n : ℕ). Refused (Reply.Short n)) (sym budget_is)

    -- its budget is less than the ticks
    short_good : nat_lt p.head_a.budget (amount_of p.what) ≡ true
        → GoodTook setup cores t c compare (landed a (took_shared (record p { at = giving_back }) (marked_end true true p.head_a.budget)))
    unfolding is
    short_good less lands =
        let r : Reply = Reply.Short p.head_a.budget in
        let e : Step = inner setup setting cores t stands c here a active compare (Some r) None in
        let unspent = not_spent setup (cores c) t c (core_is setup setting cores t stands c here a active) room in
        let opens = calls.opens setup setting cores t stands c here a active mark_p stage_is has in
        let now : state_after setup (e ∷ t) ≡ counted s c =
        ap (λ x. state_decided_in x r s c) (calls.is_open setup setting cores t stands c here a active mark_p stage_is has) in
        decides_marking setup setting cores t stands c here a active compare r (share_tail (record p { at = giving_back }))
        (λ b. refl) (λ h. cc) of_call lands small
        (λ w there. (
          ap (λ b. if b then true else (holds_counts None a.counts).marks w) (same_word-other w at there)
              ∙ sym (ap (λ h. h.marks w) held_before),
          ap (λ b. if b then old else (holds_counts None a.counts).stands w) (same_word-other w at there)
              ∙ sym (ap (λ h. h.stands w) held_before),
        ))
        (as_none (holds (cores c)) _ at (λ g i. ap (λ h. h.bare g i) held_before ∙ counts_bare None a.counts g i)
        (counts_bare None a.counts))
        (now_marked ∙ sym (ap (λ b. if b then Some c else None)
        (ap (λ b. if b then true else (holds_counts None a.counts).marks at) (same_same at))))
        (λ b other is_marked. none_some b (sym bare ∙ is_marked))
        (settles (core_in_call (cores c) ((cores c).own.made + 1)
        (next_at a a.found (Decided r None (share_tail (record p { at = giving_back })))))
        (ap (λ b. if b then true else (holds_counts None a.counts).marks at) (same_same at))
        (ap (λ b. if b then old else (holds_counts None a.counts).stands at) (same_same at)))
        opens refl refl (λ x. refl) (λ x. refl) refl
        (unspent, calls.may setup setting cores t stands c here a active mark_p stage_is has r (short_may p.what less)) tt
        (λ is_alone. refused_first s c a.call r has.acts unspent
        (calls.change_is setup setting cores t stands c here a active mark_p stage_is has ∙ short_first p.what less))
        (record {
          budgets = is.budgets;
          core = core_is_c;
          footprint = was_stays (IsInFootprint c a.call at) setup t e c (λ own. refl)
              (now_was (IsInFootprint c a.call at) setup t c a.call
              (calls.is_open setup setting cores t stands c here a active mark_p stage_is has)
              (calls.footprint_a setup setting cores t stands c here a active mark_p stage_is has));
          tcap_a = subst (λ x. HasTcap x c p.a) (sym now) (counted_tcap s c p.a has.knows.knows.tcap_a);
          at = record {
            raw = last_left-here setup at e t refl ∙ leaves;
            fits = has.knows.knows.at.0.fits;
            bare = has.knows.knows.at.0.bare;
            clean = clean e refl changes;
          };
        })
        (spares_one setup t e p.a 0 q refl tcap.is (turns e refl refl refl))
        (exclusive_free cores e (not_exclusive_head_word setup cores t stands p.a tcap.fields tcap.is))
      where
        settles : (after : Core) → (holds after).marks at ≡ true → (holds after).stands at ≡ old
            → settled_by (if (holds after).marks at then Some c else None) (held_by (put cores c after)) at (left_of compare was)
            ≡ settled setup (held_by cores) t at
        settles after marks stands_for =
            ap (λ b. settled_by (if b then Some c else None) (held_by (put cores c after)) at (left_of compare was)) marks
            ∙ ap (λ k. (holds k).stands at) (put_same cores c after c refl)
            ∙ stands_for ∙ sym same ∙ sym (not_exclusive_head_value setup cores t stands p.a tcap.fields tcap.is was)
            ∙ sym (ap (λ o. settled_by o (held_by cores) at was) bare)

    -- it is no less: the head is marked
    abbrev goes_p : Pair
    goes_p = record p { at = ListA 1 }

    abbrev next : ActiveCall
    next = went a (Undecided (Act (share_act goes_p)))

    abbrev after : Core
    after = core_in_call (cores c) (cores c).own.made next

    marks_it : (holds after).marks at ≡ true
    marks_it = ap (λ b. if b then true else (holds_counts None a.counts).marks at) (same_same at)

    won_good : nat_lt p.head_a.budget (amount_of p.what) ≡ false → GoodTook setup cores t c compare (GoesOn next)
    won_good enough lands =
        let e : Step = inner setup setting cores t stands c here a active compare None None in
        let is_open = calls.is_open setup setting cores t stands c here a active mark_p stage_is has in
        counters.holds_on setup setting cores t stands c here a active compare next (λ b. refl) (λ h. cc) refl of_call lands small
        (λ w there. (
          ap (λ b. if b then true else (holds_counts None a.counts).marks w) (same_word-other w at there)
              ∙ sym (ap (λ h. h.marks w) held_before),
          ap (λ b. if b then old else (holds_counts None a.counts).stands w) (same_word-other w at there)
              ∙ sym (ap (λ h. h.stands w) held_before),
        ))
        (as_none (holds (cores c)) (holds after) at (λ g i. ap (λ h. h.bare g i) held_before ∙ counts_bare None a.counts g i)
        (counts_bare None a.counts))
        (now_marked ∙ sym (ap (λ b. if b then Some c else None) marks_it))
        (λ b other is_marked. none_some b (sym bare ∙ is_marked))
        (ap (λ b. settled_by (if b then Some c else None) (held_by (put cores c after)) at (left_of compare was)) marks_it
        ∙ ap (λ k. (holds k).stands at) (put_same cores c after c refl)
        ∙ ap (λ b. if b then old else (holds_counts None a.counts).stands at) (same_same at)
        ∙ sym same ∙ sym (not_exclusive_head_value setup cores t stands p.a tcap.fields tcap.is was)
        ∙ sym (ap (λ o. settled_by o (held_by cores) at was) bare))
        (calls.opens setup setting cores t stands c here a active mark_p stage_is has)
        (λ carries. record {
          acts = has.acts;
          names = names_on setup setting t e stands.legal c a.call is_open carries (cores c).own.table (plan_for a.call) a.found has.names;
          knows = record {
            knows = record {
              shares = shares_same a.call a.found mark_p goes_p refl refl refl has.knows.knows.shares;
              core = has.knows.knows.core;
              tcap_a = has.knows.knows.tcap_a;
              tcap_b = has.knows.knows.tcap_b;
              at = (
                record {
                  raw = last_left-here setup at e t refl ∙ leaves;
                  fits = has.knows.knows.at.0.fits;
                  bare = has.knows.knows.at.0.bare;
                  enough = ltb-false p.head_a.budget (amount_of p.what) enough;
                  list = has.knows.knows.at.1;
                  clean = clean e refl changes;
                },
                has.knows.knows.at.2,
              );
            };
            all = has.knows.all;
            goes = refl;
          };
        })
        (counts_on setup t e c a.call (λ own. refl) a.counts (call_is setup setting cores t stands c here a active).counts)
        (call_is setup setting cores t stands c here a active).apart
        (spares_one setup t e p.a 0 q refl tcap.is (turns e refl refl refl))
        (exclusive_free cores e (not_exclusive_head_word setup cores t stands p.a tcap.fields tcap.is))

  pub mark_a_good : GoodTook setup cores t c compare (landed a (took_share mark_p was))
  mark_a_good = by_same (was == old) refl
    where
      by_short : (equal : (was == old) ≡ true) → (short : Bool) → nat_lt p.head_a.budget (amount_of p.what) ≡ short
          → GoodTook setup cores t c compare
          (landed a (took_shared (record p { at = at_marked true short }) (marked_end true short p.head_a.budget)))
      by_short equal true is_short = short_good equal is_short
      by_short equal false is_short = won_good equal is_short

      by_same : (equal : Bool) → (was == old) ≡ equal
          → GoodTook setup cores t c compare
          (landed a (took_shared (record p { at = at_marked equal (nat_lt p.head_a.budget (amount_of p.what)) })
          (marked_end equal (nat_lt p.head_a.budget (amount_of p.what)) p.head_a.budget)))
      by_same true is_same = by_short is_same (nat_lt p.head_a.budget (amount_of p.what)) refl
      by_same false is_same = lost_good is_same
