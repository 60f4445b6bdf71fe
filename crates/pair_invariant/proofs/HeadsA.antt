-- The load of the head of the first of two temporal capabilities, and the loads of its list.
use Rattle.count_invariant.specs.step_ways.proofs.{◌≡◌, ℕ, suc, ◌+◌, ◌<◌, ltb as nat_lt, Bool, true, false, if◌then◌else◌, List, ◌∷◌}
use Rattle.count_invariant.specs.step_ways.proofs.{Option, Some, None, arith, refl, sym, ◌∙◌, ap, subst, eq-eqb, ltb-false, false≢true}
use Rattle.count_invariant.specs.step_ways.proofs.{Setting, IsSetting, head_of_word, quality_of_word, HeadWord, spelling, Word, EntryAt}
use Rattle.count_invariant.specs.step_ways.proofs.{LoadOf, head_mark, marked_by, holds_node, Step, Trace, state_after, last_left}
use Rattle.count_invariant.specs.step_ways.proofs.{own_read-here, head_end, head, Pair, PairAt, LoadA, MarkA, ListA, LoadB, Act, Goes}
use Rattle.count_invariant.specs.step_ways.proofs.{refuse, took_shared, took_share, Undecided, ActiveCall, landed, Core, holds_counts}
use Rattle.count_invariant.specs.step_ways.proofs.{KnowsUndecided, read_up, KnowsPairAt, Invariant, holds_share, TcapOf, footprint_frames}
use Rattle.count_invariant.specs.step_ways.proofs.{is_one_of, Share as share_act, list_word, step_to, GoodTook, ticks_at, refuses_busy}
use Rattle.count_invariant.specs.stage_tcap.specs.{QualityWord, end_by_mark, read_word, at_by_mark, at_by_head, at_read, a_next, noted}
use Rattle.count_invariant.specs.kept_facts.proofs.{marked_on, left_same}
use Rattle.pair_invariant.proofs.ShareSteps.{mark_is, head_says, a_list, loading, load_goes}
use Rattle.{count_invariant.specs.step_ways.proofs.Refusal, count_invariant.specs.stage_tcap.specs.list_end}
use Rattle.{count_invariant.specs.core_invariant.specs.Shares.HasMarkedA}
use Rattle.pair_invariant.proofs.ShareCalls as calls

-- The load of head A.
module _ (setup : Setting) (setting : IsSetting setup) (cores : ℕ → Core) (t : Trace) (stands : Invariant setup cores t) (c : ℕ)
    (here : c < setup.cores)
    (a : ActiveCall) (active : (cores c).active ≡ Some a) (p : Pair)
    (stage_is : a.stage ≡ Undecided (Act (share_act (record p { at = LoadA }))))
    (has : KnowsUndecided setup t c (cores c).own.table a (Act (share_act (record p { at = LoadA })))) where
  abbrev now_p : Pair
  now_p = record p { at = LoadA }

  abbrev at : Word
  at = EntryAt p.a 0

  abbrev was : ℕ
  was = last_left setup t at

  abbrev e : Step
  e = step_to c None (LoadOf at) was None None

  footprint : is_one_of p.a
      (footprint_frames (state_after setup t) c a.call) ≡ true
  footprint = calls.footprint_a setup setting cores t stands c here a active now_p stage_is has

  tcap : TcapOf ((state_after setup t).frame p.a)
  tcap = calls.tcap_a setup setting cores t stands c here a active now_p stage_is has

  none_some : (v : HeadWord) → None ≡ Some v → ⊥
  none_some v h = cc

  free_good : (budget version : ℕ) → head_of_word was ≡ Some (head budget version)
      → GoodTook setup cores t c (LoadOf at) (landed a (Goes (Act (share_act (record p { head_a = head budget version; at = MarkA })))))
  free_good budget version reads =
      let spells = spelling.spells was (head budget version) reads in
      load_goes setup setting cores t stands c here a active now_p stage_is has p.a 0 footprint
      (record p { head_a = head budget version; at = MarkA }) refl refl refl refl refl (
        record {
          own = own_read-here c e t refl at refl ∙ ap (λ b. if b then Some was else None) (eq-eqb was was refl)
              ∙ ap (λ (x : ℕ). Some x) (sym spells.1);
          fits = spells.0;
          bare = refl;
        },
        has.knows.knows.at.0,
        has.knows.knows.at.1,
      )

  busy_good : (d : ℕ) → marked_by setup t at ≡ Some d → GoodTook setup cores t c (LoadOf at) (landed a (refuse (Refusal.Busy d)))
  busy_good d mark =
      refuses_busy setup setting cores t stands c here a active
      (calls.opens setup setting cores t stands c here a active now_p stage_is has)
      (calls.held_is setup setting cores t stands c here a active now_p stage_is has)
      (calls.room setup setting cores t stands c here a active now_p stage_is has) (LoadOf at)
      (loading setup setting cores t stands c here a active now_p stage_is has p.a 0 footprint) (ap ticks_at stage_is) d
      (ap (λ xs. (holds_counts None xs).marks at) (calls.no_counts setup setting cores t stands c here a active now_p stage_is has)) mark
      (λ node. absurd (false≢true (ap holds_node (sym tcap.is) ∙ node)))

  by_mark : (budget version : ℕ) (mark : Option ℕ) → head_of_word was ≡ Some (record { budget = budget; mark = mark; version = version })
      → GoodTook setup cores t c (LoadOf at)
      (landed a (took_shared (record p { head_a = head budget version; at = at_by_mark MarkA LoadA mark }) (end_by_mark mark)))
  by_mark budget version None shown = free_good budget version shown
  by_mark budget version (Some d) shown =
      busy_good d (mark_is setup setting cores t stands p.a tcap.fields tcap.is was ∙ ap head_mark shown)

  by_word : (o : Option HeadWord) → head_of_word was ≡ o
      → GoodTook setup cores t c (LoadOf at)
      (landed a (took_shared (record p { head_a = noted p.head_a o; at = at_by_head MarkA LoadA o }) (head_end o)))
  by_word None shown =
      let says = (head_says setup setting cores t stands p.a tcap.fields tcap.is
      (mark_is setup setting cores t stands p.a tcap.fields tcap.is was ∙ ap head_mark shown)).says in
      absurd (none_some _ (sym shown ∙ says))
  by_word (Some v) shown = by_mark v.budget v.version v.mark shown

  pub load_a_good : GoodTook setup cores t c (LoadOf at) (landed a (took_share now_p was))
  load_a_good = by_word (head_of_word was) refl

-- The load of a word of list A.
module _ (setup : Setting) (setting : IsSetting setup) (cores : ℕ → Core) (t : Trace) (stands : Invariant setup cores t) (c : ℕ)
    (here : c < setup.cores)
    (a : ActiveCall) (active : (cores c).active ≡ Some a) (p : Pair) (n : ℕ)
    (stage_is : a.stage ≡ Undecided (Act (share_act (record p { at = ListA (suc n) }))))
    (has : KnowsUndecided setup t c (cores c).own.table a (Act (share_act (record p { at = ListA (suc n) })))) where
  abbrev list_p : Pair
  list_p = record p { at = ListA (suc n) }

  abbrev word_at : Word
  word_at = EntryAt p.a (suc n)

  abbrev found : ℕ
  found = last_left setup t word_at

  abbrev loads : Step
  loads = step_to c None (LoadOf word_at) found None None

  low : n < 8
  low = let fits = (calls.fits setup setting cores t stands c here a active list_p stage_is has).at.1 in omega (arith, fits)

  tcap_here : TcapOf ((state_after setup t).frame p.a)
  tcap_here = calls.tcap_a setup setting cores t stands c here a active list_p stage_is has

  -- what is known of A after the load, with the word that it has found
  abbrev next_list : Option (List (ℕ × ℕ))
  next_list = read_word p.list_a (quality_of_word found)

  marked_next : (where_at : PairAt) → HasMarkedA setup (loads ∷ t) (record p { list_a = next_list; at = where_at }) (suc n)
  marked_next where_at =
      let on = marked_on setup t loads refl list_p n (λ i h. refl) has.knows.knows.at.0 in record {
        raw = on.raw;
        fits = on.fits;
        bare = on.bare;
        enough = on.enough;
        list = ap (λ o. read_word o (quality_of_word found)) on.list
            ∙ ap (λ (x : ℕ). read_word (read_up (list_word setup (loads ∷ t) p.a) n) (quality_of_word x))
            (sym (left_same setup t loads refl word_at (λ h. refl)));
        clean = on.clean;
      }

  goes : (to : PairAt)
      → holds_share (record p { list_a = next_list; at = to }) to (holds_counts None a.counts)
      ≡ holds_share list_p (ListA (suc n)) (holds_counts None a.counts)
      → KnowsPairAt setup (loads ∷ t) c (record p { list_a = next_list; at = to }) to
      → GoodTook setup cores t c (LoadOf word_at) (landed a (Goes (Act (share_act (record p { list_a = next_list; at = to })))))
  goes to holds_same knows =
      load_goes setup setting cores t stands c here a active list_p stage_is has p.a (suc n)
      (calls.footprint_a setup setting cores t stands c here a active list_p stage_is has) (record p { list_a = next_list; at = to })
      refl refl refl refl holds_same knows

  by_more : (more : Bool) → nat_lt (suc n) 8 ≡ more
      → GoodTook setup cores t c (LoadOf word_at)
      (landed a (Goes (Act (share_act (record p { list_a = next_list; at = a_next more (suc n) })))))
  by_more true is =
      let same : suc (suc n) ≡ suc n + 1 = omega arith in
      goes (ListA (suc n + 1)) refl
      (subst (λ (m : ℕ). KnowsPairAt setup (loads ∷ t) c (record p { list_a = next_list; at = ListA (suc n + 1) }) (ListA m)) same
      (marked_next (ListA (suc n + 1)), has.knows.knows.at.1))
  by_more false is =
      let past = ltb-false (suc n) 8 is in
      let all : suc n ≡ 8 = (let below = low in omega (arith, past, below)) in
      goes LoadB refl (
        subst (λ (m : ℕ). HasMarkedA setup (loads ∷ t) (record p { list_a = next_list; at = LoadB }) m) all (marked_next LoadB),
        has.knows.knows.at.1,
      )

  none_quality : (v : QualityWord) → None ≡ Some v → ⊥
  none_quality v h = cc

  by_quality : (o : Option QualityWord) → quality_of_word found ≡ o
      → GoodTook setup cores t c (LoadOf word_at)
      (landed a (took_shared (record p { list_a = next_list; at = at_read o (a_next (nat_lt (suc n) 8) (suc n)) }) (list_end o)))
  by_quality None is = absurd (none_quality _
      (sym is ∙ a_list setup setting cores t stands c here a active list_p stage_is has n has.knows.knows.at.0
      (calls.held_is setup setting cores t stands c here a active list_p stage_is has) n low))
  by_quality (Some v) is = by_more (nat_lt (suc n) 8) refl

  pub list_a_good : GoodTook setup cores t c (LoadOf word_at) (landed a (took_share list_p found))
  list_a_good = by_quality (quality_of_word found) refl
