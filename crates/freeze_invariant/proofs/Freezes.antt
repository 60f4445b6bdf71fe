-- The compare by which a counter is frozen, after those before it: it is lost to another core; or the core holds the counter, which stands
-- for what was found. Then the next one is loaded. After the last, references refuse the call, or the scan begins.
use Rattle.scan_invariant.specs.step_ways.proofs as low
use low.{min, ◌≡◌, ◌≢◌, inl, inr, ℕ, ℤ, pos, ◌+◌, ◌-◌, ◌^◌, ◌<◌, ◌≤◌, ◌==◌, ◌++◌, ltb as nat_lt, length, Bool, true, false, List, [], ◌∷◌}
use low.{Option, Some, None, arith, refl, sym, ◌∙◌, ap, subst, eqb-true, eqb-false, eq-eqb, Setting, IsSetting, left_if, Reply, CountFits}
use low.{word_of_count, count_of_word, CountWord, FrameWord, Word, FrameAt, CountAt, same_word, Move, CompareOf, left_of, Shape, State}
use low.{FrameOf, put, refs, put_same, counters, count_in, count_sum, count_mark, marked_by, frame_value, stamp, Step, Trace, state_after}
use low.{last_left, refused_first, unheld, quiet_scan, latest_stamp, at_after, end_by, swept_of, Owned, Sweep, SweepAt, Swept, took_sweep}
use low.{UntypingFits, release_of, Untyping, Work, Act, WorkStep, Goes, Undecided, ActiveCall, landed, Core, holds_release, Holding}
use low.{holds_counts, settled_by, KnowsUndecided, holds, holds_in, held_by, count_shown, Invariant, IsQuiet, KnowsSweep, as_none}
use low.{counts_bare, names_on, counts_on, exclusive_elsewhere, holds_work, KnowsWork, if◌then◌else◌, slice_get, lt-ltb, ◌*◌, ltb-false}
use low.{residue, frozen, released, Untype as untype_act, spares_other, IsOfCall, next_at, core_in_call, inner, call_is, GoodTook, ticks_at}
use low.{raced_leaving, plan_for}
use Rattle.scan_invariant.specs.stage_sweep.specs.{counters_of, may_be_cached, sum_of_counts, frozen_if, kept_with, compare_refuses}
use Rattle.scan_invariant.specs.stage_sweep.specs.{compare_next, sum_refuses, scan_next}
use Rattle.scan_invariant.specs.core_invariant.proofs.{Compare, AreFrozen, AreKept, thaw_all, thaw_from, thaw_here, release_bare}
use Rattle.scan_invariant.specs.kernel_rules.specs.{is_untyped_now, refusal_of}
use Rattle.scan_invariant.specs.kept_facts.proofs.{quiet_frame_on, got_before}
use Rattle.std.proofs.{lemmas.List.Elements.All-nil, lemmas.List.Elements.All-cons, lemmas.List.Elements.All-append, Common.◌≤ℤ◌}
use Rattle.std.proofs.{lemmas.Bool.cases_eq, lemmas.Option.slice_get_within, lemmas.Int.ints}
use Rattle.scan_invariant.specs.kept_facts.proofs.{FrozenSums.got_last, FrozenSums.length_more, Swept.kept_stamp, Swept.kept_refs}
use Rattle.scan_invariant.specs.stage_sweep.specs.{Freeze.some_referenced, declared.sweep.SweepAt.TheVariants.Load as sweep_load}
use Rattle.freeze_invariant.proofs.Counters.{counter_footprint, counters_number, sweep_shows, sweeping, untyping_by, sweep_knows}
use Rattle.freeze_invariant.proofs.Counters.{sweep_held, sweep_counts, sweep_frame, undo_with, undo_known, footprint_counter}
use Rattle.freeze_invariant.proofs.UntypeCalls.{untypes_on, typed_is}
use Rattle.{scan_invariant.specs.core_invariant.specs.Sweeps.HasReadCount, freeze_invariant.proofs.OneMore.frozen_beside}
use Rattle.scan_invariant.specs.frame_words.proofs.CountLemmas as counts
use Rattle.scan_invariant.specs.step_ways.proofs.Counting as counting
use Rattle.freeze_invariant.proofs.FrameQuiet as quieting
use Rattle.freeze_invariant.proofs.Refusing as refusing
use Rattle.freeze_invariant.proofs.UntypeCalls as calls

none_some : (d : ℕ) → None ≡ Some d → ⊥
none_some d h = cc

-- Where no counter more is to be frozen than these, these are all.
none_more : (n m : ℕ) → n < m → nat_lt (n + 1) m ≡ false → n + 1 ≡ m
none_more n m below last = let past = ltb-false (n + 1) m last in omega (arith, below, past)

module _ (setup : Setting) (setting : IsSetting setup) (cores : ℕ → Core) (t : Trace) (stands : Invariant setup cores t) (c : ℕ)
    (here : c < setup.cores)
    (a : ActiveCall) (active : (cores c).active ≡ Some a) (f core word g : ℕ)
    (v : FrameWord) (b : ℕ) (kept : List CountWord) (o : Owned) (count : ℤ) (stamp_found : ℕ)
    (stage_is : a.stage ≡ Undecided (Act (untype_act (untyping_by f core word (sweeping g v b kept o (Compare count stamp_found))))))
    (has : KnowsUndecided setup t c (cores c).own.table a
    (Act (untype_act (untyping_by f core word (sweeping g v b kept o (Compare count stamp_found)))))) where
  abbrev s : State
  s = state_after setup t

  abbrev w : Sweep
  w = sweeping g v b kept o (Compare count stamp_found)

  abbrev m : Untyping
  m = untyping_by f core word w

  abbrev u : CountWord
  u = unheld count stamp_found

  -- the counters that are frozen where the compare is won
  abbrev more : List CountWord
  more = kept ++ u ∷ []

  abbrev at : Word
  at = CountAt g (length kept)

  abbrev was : ℕ
  was = last_left setup t at

  abbrev expected : ℕ
  expected = word_of_count u

  abbrev new : ℕ
  new = word_of_count (frozen b count stamp_found)

  abbrev compare : Move
  compare = CompareOf at expected new

  abbrev layout : Shape
  layout = (cores c).own.layout

  knows : KnowsSweep setup t c f word w
  knows = sweep_knows setup setting cores t stands c here a active f core word w stage_is has

  read : HasReadCount t c g (length kept) u
  read = subst (λ (n : ℕ). HasReadCount t c n (length kept) u) (sym knows.frame) knows.at

  held_is : holds_in (Some a) ≡ holds_release (release_of f word (swept_of w) false) (holds_counts None a.counts)
  held_is = sweep_held setup setting cores t stands c here a active f core word w stage_is has

  no_counts : a.counts ≡ []
  no_counts = sweep_counts setup setting cores t stands c here a active f core word w stage_is has

  of_call : IsOfCall setup t c a.call compare
  of_call = record {
    moves = counter_footprint setup setting cores t stands c here a active f core word w stage_is has compare (length kept) refl;
    footprint = inl (footprint_counter setup setting cores t stands c here a active f core word w stage_is has (length kept));
  }

  -- where the sweep stands after the step, by whether the compare is won
  abbrev kept_then : Bool → List CountWord
  kept_then same = kept_with kept (frozen_if same u)

  abbrev Result : List CountWord → Option Reply → Option SweepAt → Type 0
  Result xs r next = GoodTook setup cores t c compare (landed a
      (took_sweep m word (sweeping g v b xs o (at_after (Compare count stamp_found) r next))
      (end_by r next (swept_of (sweeping g v b xs o (at_after (Compare count stamp_found) r next))))))

  abbrev refuses_then : Bool → Option Reply
  refuses_then same = compare_refuses same (nat_lt (length (kept_then same)) (counters_of layout)) (sum_of_counts (kept_then same))

  abbrev next_then : Bool → Option SweepAt
  next_then same = compare_next (nat_lt (length (kept_then same)) (counters_of layout)) v.object
      (quiet_scan (latest_stamp (kept_then same)) b layout.cores (may_be_cached v.kind v.object))

  lost : (was == expected) ≡ false → Result kept (Some Reply.Raced) (next_then false)
  lost other =
      raced_leaving setup setting cores t stands c here a active
      (calls.opens setup setting cores t stands c here a active m stage_is has)
      (undo_with setup setting cores t stands c here a active f core word w stage_is has kept) (sym held_is)
      (λ e. undo_known setup setting cores t stands c here a active f core word w stage_is has (e ∷ t) kept)
      (calls.room setup setting cores t stands c here a active m stage_is has) compare
      (record { of_call = of_call; kept = stays; apart = λ e. refl }) (ap ticks_at stage_is)
      (record {
        at = tt;
        reads = eq-eqb (left_of compare was) was stays;
        own = expected;
        has_read = read.own;
        changed = eqb-false was expected other;
      })
    where
      stays : left_of compare was ≡ was
      stays = ap (λ x. left_if x was new) other

  module _ (equal : (was == expected) ≡ true) where
    same : was ≡ expected
    same = eqb-true was expected equal

    leaves_it : left_of compare was ≡ new
    leaves_it = ap (λ x. left_if x was new) equal

    shown_here : count_of_word was ≡ Some u
    shown_here = ap count_of_word same ∙ counts.spelling.reads u read.fits

    unmarked : marked_by setup t at ≡ None
    unmarked = ap count_mark shown_here

    -- so it shows, as those before it do, what was found there
    shows : count_shown setup (held_by cores) t g (length kept) ≡ Some u
    shows = ap (λ x. count_of_word (settled_by x (held_by cores) at was)) unmarked ∙ shown_here

    more_shows : (d : ℕ) (y : CountWord) → slice_get more d ≡ Some y
        → count_shown setup (held_by cores) t f d ≡ Some (unheld y.count y.stamp)
    more_shows d y is = elim (cases_eq d (length kept)) [
      | inl last ↦
          ap (λ (k : ℕ). count_shown setup (held_by cores) t k d) (sym knows.frame)
          ∙ ap (λ (k : ℕ). count_shown setup (held_by cores) t g k) last ∙ shows
          ∙ ap (λ z. Some (unheld z.count z.stamp)) (same_count u y (sym (got_last kept u) ∙ ap (slice_get more) (sym last) ∙ is))
      | inr other ↦
          sweep_shows setup setting cores t stands c here a active f core word w stage_is has d y
          (sym (got_before kept u d (earlier other)) ∙ is)
    ]
      where
        same_count : (y z : CountWord) → Some y ≡ Some z → y ≡ z
        same_count y z h = cc

        earlier : d ≢ length kept → d < length kept
        earlier other =
            let below = slice_get_within more d y is in
            let one = length_more kept u in
            omega (arith, below, one, other)

    held_fits : CountFits (frozen b count stamp_found)
    held_fits = (
      (let most = setting.most_cores in let own = knows.core in omega (arith, most, own, here)),
      read.fits.1,
      read.fits.2,
    )

    -- what it holds after the step
    abbrev swept_then : Swept
    swept_then = swept_of (sweeping g v b more o (Compare count stamp_found))

    abbrev held_then : Holding
    held_then = holds_release (release_of f word swept_then false) (holds_counts None a.counts)

    held_before : holds (cores c) ≡ holds_release (release_of f word (swept_of w) false) (holds_counts None a.counts)
    held_before = ap holds_in active ∙ held_is

    elsewhere : (q : Word) → q ≢ at
        → (held_then.marks q ≡ (holds (cores c)).marks q) × (held_then.stands q ≡ (holds (cores c)).stands q)
    elsewhere q there =
        let afterwards = thaw_all swept_then false (holds_counts None a.counts) q in
        let rest = frozen_beside g kept u false (holds_counts None a.counts) q there in
        let before = thaw_all (swept_of w) false (holds_counts None a.counts) q in (
          ap (λ x. if same_word q (FrameAt f) then true else x) (afterwards.0 ∙ rest.0 ∙ sym before.0)
              ∙ sym (ap (λ h. h.marks q) held_before),
          ap (λ (k : ℕ). if same_word q (FrameAt f) then word else k) (afterwards.1 ∙ rest.1 ∙ sym before.1)
              ∙ sym (ap (λ h. h.stands q) held_before),
        )

    last_below : length kept < length more
    last_below = let one = length_more kept u in omega (arith, one)

    it_then : (held_then.marks at ≡ true) × (held_then.stands at ≡ expected)
    it_then =
        let all = thaw_all swept_then false (holds_counts None a.counts) at in
        let own = thaw_here (thaw_from swept_then false) (holds_counts None a.counts) (length kept) (omega arith) last_below in (
          all.0 ∙ own.0,
          all.1 ∙ own.1 ∙ ap (λ y. word_of_count (released false y)) (got_last kept u),
        )

    marks_it : held_then.marks at ≡ true
    marks_it = it_then.0

    stands_it : held_then.stands at ≡ expected
    stands_it = it_then.1

    bares_before : (h i : ℕ) → (holds (cores c)).bare h i ≡ None
    bares_before h i =
        ap (λ k. k.bare h i) held_before ∙ release_bare (release_of f word (swept_of w) false) (holds_counts None a.counts) h i
        ∙ counts_bare None a.counts h i

    bares_then : (h i : ℕ) → held_then.bare h i ≡ None
    bares_then h i = release_bare (release_of f word swept_then false) (holds_counts None a.counts) h i ∙ counts_bare None a.counts h i

    kept_fit : AreKept more
    kept_fit = All-append (λ x. CountFits (unheld x.count x.stamp)) kept (u ∷ []) knows.kept
        (All-cons (λ x. CountFits (unheld x.count x.stamp)) u [] read.fits (All-nil (λ x. CountFits (unheld x.count x.stamp))))

    -- the frame is what its word says
    frame_is : v ≡ frame_value (s.frame f)
    frame_is = sweep_frame setup setting cores t stands c here a active f core word w stage_is has

    -- The call goes on with what it holds then.
    now_fits : UntypingFits layout m
    now_fits = calls.fits setup setting cores t stands c here a active m stage_is has

    won_by : (ws : WorkStep) (work : Work) → ws ≡ Goes work
        → ((h : Holding) → holds_work work h ≡ holds_release (release_of f word
        (swept_of (sweeping g v b more o (Compare count stamp_found))) false) h)
        → ((q : Trace) → (state_after setup q).frame f ≡ s.frame f
        → ((y upto flushes : ℕ) → IsQuiet setup t c f y upto flushes → IsQuiet setup q c f y upto flushes)
        → KnowsWork setup q c (cores c).own.table (next_at a a.found (Undecided work)) work)
        → GoodTook setup cores t c compare (landed a ws)
    won_by ws work goes holds_it knows_it = subst (λ x. GoodTook setup cores t c compare (landed a x)) (sym goes) (λ lands.
        let e : Step = inner setup setting cores t stands c here a active compare None None in
        let next_call : ActiveCall = next_at a a.found (Undecided work) in
        let after : Core = core_in_call (cores c) (cores c).own.made next_call in
        let is_open = calls.is_open setup setting cores t stands c here a active m stage_is has in
        let after_is : holds after ≡ held_then = holds_it (holds_counts None a.counts) in
        counting.holds_on setup setting cores t stands c here a active compare next_call (λ d. refl) (λ h. cc) refl of_call lands
        (subst (λ (k : ℕ). k < 2 ^ 64) (sym leaves_it) (counts.spelling.small (frozen b count stamp_found) held_fits))
        (λ q there. let rest = elsewhere q there in (ap (λ h. h.marks q) after_is ∙ rest.0, ap (λ h. h.stands q) after_is ∙ rest.1))
        (as_none (holds (cores c)) (holds after) at bares_before
        (λ h i. ap (λ k. k.bare h i) after_is ∙ bares_then h i))
        (ap (λ (k : ℕ). count_mark (count_of_word k)) leaves_it
        ∙ ap count_mark (counts.spelling.reads (frozen b count stamp_found) held_fits)
        ∙ ap (λ (k : ℕ). Some k) knows.core
        ∙ sym (ap (λ x. if x then Some c else None) (ap (λ h. h.marks at) after_is ∙ marks_it)))
        (λ d other is. none_some d (sym unmarked ∙ is))
        (ap (λ x. settled_by (if x then Some c else None) (held_by (put cores c after)) at (left_of compare was))
        (ap (λ h. h.marks at) after_is ∙ marks_it)
        ∙ ap (λ k. (holds k).stands at) (put_same cores c after c refl) ∙ ap (λ h. h.stands at) after_is ∙ stands_it ∙ sym same
        ∙ sym (ap (λ x. settled_by x (held_by cores) at was) unmarked))
        (calls.opens setup setting cores t stands c here a active m stage_is has)
        (λ carries. record {
          acts = has.acts;
          names = names_on setup setting t e stands.legal c a.call is_open carries (cores c).own.table (plan_for a.call) a.found has.names;
          knows = knows_it (e ∷ t) refl
              (λ y upto flushes. quiet_frame_on setup setting t e stands.legal c a.call is_open carries f y upto flushes);
        })
        (counts_on setup t e c a.call (λ own. refl) a.counts (call_is setup setting cores t stands c here a active).counts)
        (call_is setup setting cores t stands c here a active).apart
        (spares_other setup t e (λ h i. λ is. cc)) (exclusive_elsewhere cores e (λ h i. λ is. cc)))

    -- Counters are left: the next one is loaded.
    loads_next : Result more None (Some sweep_load)
    loads_next = won_by _ (Act (untype_act (untyping_by f core word (sweeping g v b more o sweep_load)))) refl (λ h. refl)
        (λ q stays carry. record {
          knows = record {
            untypes = untypes_on a.call a.found m (untyping_by f core word (sweeping g v b more o sweep_load)) refl has.knows.knows.untypes;
            core = has.knows.knows.core;
            at = record { frame = knows.frame; core = knows.core; met = knows.met; kept = kept_fit; at = tt };
          };
          all = has.knows.all;
          goes = refl;
        })

    -- It was the last: no call holds a count of the frame, and the counts found sum to the references to it, modulo 2 ^ 16.
    module _ (all : length more ≡ length (counters setup.cores)) where
      sum_here : residue (sum_of_counts more) ≡ refs s f
      sum_here = kept_refs setup cores t stands f more all more_shows setting

      since : stamp setup t (FrameOf f) ≡ latest_stamp more
      since = kept_stamp setup cores t stands f more all more_shows

      -- References stand.
      module _ (n : ℕ) (refs_are : refs s f ≡ n) (some : (n == 0) ≡ false) where
        abbrev answer : Reply
        answer = Reply.Referenced n

        exact : n ≡ refs s f
        exact = sym refs_are

        some_refs : nat_lt 0 (refs s f) ≡ true
        some_refs = lt-ltb 0 (refs s f) (let other = eqb-false n 0 some in let are = refs_are in omega (arith, other, are))

        are_some : (nat_lt 0 (refs s f) ≡ true) × (answer ≡ Reply.Referenced (refs s f))
        are_some = (some_refs, ap Reply.Referenced exact)

        kind_known : refusal_of s c (is_untyped_now s f) ≡ None
        kind_known = calls.kind_none setup setting cores t stands c here a
            active m stage_is has (typed_is (s.frame f) v frame_is knows.met.kind)

        referenced : Result more (Some answer) None
        referenced lands =
            refusing.refuses_holding setup setting cores t stands c here a active compare answer
            (undo_with setup setting cores t stands c here a active f core word w stage_is has more)
            (λ d. refl) (λ h. cc) (λ h i. λ is. cc) of_call lands
            (subst (λ (k : ℕ). k < 2 ^ 64) (sym leaves_it) (counts.spelling.small (frozen b count stamp_found) held_fits))
            elsewhere (as_none (holds (cores c)) held_then at bares_before bares_then)
            (ap (λ (k : ℕ). count_mark (count_of_word k)) leaves_it
            ∙ ap count_mark (counts.spelling.reads (frozen b count stamp_found) held_fits)
            ∙ ap (λ (k : ℕ). Some k) knows.core ∙ sym (ap (λ x. if x then Some c else None) marks_it))
            (λ d other is. none_some d (sym unmarked ∙ is))
            (ap (λ x. settled_by (if x then Some c else None)
            (held_by (put cores c (refusing.after setup setting cores t stands c here a active compare answer
            (undo_with setup setting cores t stands c here a active f core word w stage_is has more)))) at (left_of compare was)) marks_it
            ∙ ap (λ k. (holds k).stands at) (put_same cores c _ c refl) ∙ stands_it ∙ sym same
            ∙ sym (ap (λ x. settled_by x (held_by cores) at was) unmarked))
            (calls.opens setup setting cores t stands c here a active m stage_is has) refl refl (λ x. refl) (λ x. refl) refl (
              calls.unspent setup setting cores t stands c here a active m stage_is has,
              calls.may_refuse setup setting cores t stands c here a active m stage_is has answer (inr (inr (inl are_some))),
            )
            tt
            (λ is_alone. refused_first s c a.call answer has.acts
            (calls.unspent setup setting cores t stands c here a active m stage_is has)
            (calls.by_causes setup setting cores t stands c here a active m stage_is has None (Some answer) _ _ _ kind_known
            (ap (λ x. if x then Some (Reply.Referenced (refs s f)) else None) some_refs
            ∙ ap (λ (k : ℕ). Some (Reply.Referenced k)) (sym exact))
            refl refl refl))
            (undo_known setup setting cores t stands c here a active f core word w stage_is has
            (refusing.e setup setting cores t stands c here a active compare answer
            (undo_with setup setting cores t stands c here a active f core word w stage_is has more) ∷ t) more)

      -- None stands: the scan begins, or what comes after it.
      module _ (none : refs s f ≡ 0) where
        sum_none : residue (sum_of_counts more) ≡ 0
        sum_none = sum_here ∙ none

        all_frozen : AreFrozen setup.cores more
        all_frozen = record { all = all; none = sum_none }

        scanned : Result more None (scan_next v.object (quiet_scan (latest_stamp more) b setup.cores (may_be_cached v.kind v.object)))
        scanned =
            let begun = quieting.begins setup setting cores t stands c f (latest_stamp more)
            since (cores c).own.table a no_counts core word has.knows.knows.core
            (λ n is. untypes_on a.call a.found m n is has.knows.knows.untypes) g v b
            knows.core more o (Compare count stamp_found) knows.frame knows.met
            kept_fit now_fits.at.object all_frozen refl frame_is in
            won_by _ begun.work begun.goes begun.holds begun.knows

      won : Result more (sum_refuses (sum_of_counts more))
          (scan_next v.object (quiet_scan (latest_stamp more) b layout.cores (may_be_cached v.kind v.object)))
      won = subst (λ (m : ℕ). Result more (some_referenced (m == 0) m)
          (scan_next v.object (quiet_scan (latest_stamp more) b layout.cores (may_be_cached v.kind v.object)))) (sym sum_here)
          (subst (λ (n : ℕ). Result more (some_referenced (refs s f == 0) (refs s f))
          (scan_next v.object (quiet_scan (latest_stamp more) b n (may_be_cached v.kind v.object))))
          (sym (ap (λ x. x.cores) (stands.each c here).shape)) (by (refs s f == 0) refl))
        where
          by : (none : Bool) → (refs s f == 0) ≡ none → Result more (some_referenced none (refs s f))
              (scan_next v.object (quiet_scan (latest_stamp more) b setup.cores (may_be_cached v.kind v.object)))
          by true is = scanned (eqb-true (refs s f) 0 is)
          by false is = referenced (refs s f) refl is

    counters_known : counters_of layout ≡ length (counters setup.cores)
    counters_known = ap counters_of (stands.each c here).shape ∙ counters_number setup

    by_last : (x : Bool) → nat_lt (length more) (counters_of layout) ≡ x → Result more (compare_refuses true x (sum_of_counts more))
        (compare_next x v.object (quiet_scan (latest_stamp more) b layout.cores (may_be_cached v.kind v.object)))
    by_last true left = loads_next
    by_last false last =
        let one = length_more kept u in
        won (one ∙ none_more (length kept) (counters_of layout) now_fits.at.fits.at.0
        (ap (λ (k : ℕ). nat_lt k (counters_of layout)) (sym one) ∙ last) ∙ counters_known)

  pub compare_good : Result (kept_then (was == expected)) (refuses_then (was == expected)) (next_then (was == expected))
  compare_good = by (was == expected) refl
    where
      by : (x : Bool) → (was == expected) ≡ x → Result (kept_then x) (refuses_then x) (next_then x)
      by false is = lost is
      by true is = by_last is (nat_lt (length more) (counters_of layout)) refl
