-- A step of a call on two temporal capabilities is good, and so is a step that gives the first one's head back.
use Rattle.pair_invariant.specs.step_ways.proofs.{◌≡◌, ℕ, zero, suc, ◌<◌, Option, Some, Setting, IsSetting, Reply, word_of, told_of, Trace}
use Rattle.pair_invariant.specs.step_ways.proofs.{last_left, judged, Pair, PairAt, LoadA, MarkA, ListA, LoadB, ListB, CompareB, AgainB}
use Rattle.pair_invariant.specs.step_ways.proofs.{StoreList, StoreB, StoreA, PairWork, Act, took_share, Undecided, Decided, ActiveCall}
use Rattle.pair_invariant.specs.step_ways.proofs.{landed, went_with, GoesOn, Core, KnowsUndecided, KnowsTail, Invariant, Share as share_act}
use Rattle.pair_invariant.specs.stage_tcap.specs.declared.pair.PairWork.TheVariants.{Transfer, Delegate, Test}
use Rattle.pair_invariant.specs.act_states.specs.{declared.work.Tail.TheVariants.Share as share_tail, Shares.after_share}
use Rattle.pair_invariant.proofs.{HeadsA.load_a_good, HeadsA.list_a_good, HeadsB.load_b_good, HeadsB.list_b_good, MarksA.mark_a_good}
use Rattle.share_invariant.proofs.{Agains.again_good, Compares.compare_good, Delegates.delegate_good, HeadBStores.store_b_good}
use Rattle.share_invariant.proofs.{ListStores.store_list_good, Stores.store_a_good}
use Rattle.{pair_invariant.specs.step_ways.proofs.GoodTook, pair_invariant.specs.stage_tcap.specs.Pairs.pair_move}

module _ (setup : Setting) (setting : IsSetting setup) (cores : ℕ → Core) (t : Trace) (stands : Invariant setup cores t) (c : ℕ)
    (here : c < setup.cores) (a : ActiveCall) (active : (cores c).active ≡ Some a) where
  abbrev pub ShareGood : Pair → Type 0
  ShareGood p = GoodTook setup cores t c (pair_move p)
      (landed a (took_share p (told_of (pair_move p) (last_left setup t (word_of (pair_move p))))))

  pub share_good : (p : Pair) → a.stage ≡ Undecided (Act (share_act p))
      → KnowsUndecided setup t c (cores c).own.table a (Act (share_act p)) → ShareGood p
  share_good p stage_is has = by p.what p.at stage_is has
    where
      test_judges : (b : PairAt) → judged Test (record p { what = Test; at = b }) ≡ CompareB → ⊥
      test_judges b h = cc

      compares : (what : PairWork) → a.stage ≡ Undecided (Act (share_act (record p { what = what; at = CompareB })))
          → KnowsUndecided setup t c (cores c).own.table a (Act (share_act (record p { what = what; at = CompareB })))
          → ShareGood (record p { what = what; at = CompareB })
      compares (Transfer m) is has = compare_good setup setting cores t stands c here a active p m is has
      compares (Delegate m) is has = delegate_good setup setting cores t stands c here a active p m is has
      compares Test is has = absurd (test_judges CompareB has.knows.knows.at.judges)

      by : (what : PairWork) (at : PairAt) → a.stage ≡ Undecided (Act (share_act (record p { what = what; at = at })))
          → KnowsUndecided setup t c (cores c).own.table a (Act (share_act (record p { what = what; at = at })))
          → ShareGood (record p { what = what; at = at })
      by what LoadA is has = load_a_good setup setting cores t stands c here a active (record p { what = what }) is has
      by what MarkA is has = mark_a_good setup setting cores t stands c here a active (record p { what = what }) is has
      by what (ListA zero) is has = absurd has.knows.knows.at
      by what (ListA (suc n)) is has = list_a_good setup setting cores t stands c here a active (record p { what = what }) n is has
      by what LoadB is has = load_b_good setup setting cores t stands c here a active (record p { what = what }) is has
      by what (ListB zero) is has = absurd has.knows.knows.at
      by what (ListB (suc n)) is has = list_b_good setup setting cores t stands c here a active (record p { what = what }) n is has
      by what CompareB is has = compares what is has
      by what (AgainB r) is has = again_good setup setting cores t stands c here a active (record p { what = what }) r is has
      by what (StoreList n) is has = absurd has.knows.knows.at
      by what StoreB is has = absurd has.knows.knows.at
      by what (StoreA moved v) is has = absurd has.knows.knows.at

  abbrev pub SharedGood : Reply → Option ℕ → Pair → Type 0
  SharedGood r drawn p = GoodTook setup cores t c (pair_move p)
      (GoesOn (went_with a a.counts (Decided r drawn (after_share p (told_of (pair_move p) (last_left setup t (word_of (pair_move p))))))))

  pub shared_good : (r : Reply) (drawn : Option ℕ) (p : Pair) → a.stage ≡ Decided r drawn (share_tail p)
      → KnowsTail setup t c a.call a.counts (share_tail p) → SharedGood r drawn p
  shared_good r drawn p stage_is has = by p.at stage_is has
    where
      by : (at : PairAt) → a.stage ≡ Decided r drawn (share_tail (record p { at = at }))
          → KnowsTail setup t c a.call a.counts (share_tail (record p { at = at })) → SharedGood r drawn (record p { at = at })
      by LoadA is has = absurd has.at
      by MarkA is has = absurd has.at
      by (ListA n) is has = absurd has.at
      by LoadB is has = absurd has.at
      by (ListB n) is has = absurd has.at
      by CompareB is has = absurd has.at
      by (AgainB x) is has = absurd has.at
      by (StoreList n) is has = store_list_good setup setting cores t stands c here a active r drawn p n is has
      by StoreB is has = store_b_good setup setting cores t stands c here a active r drawn p is has
      by (StoreA moved v) is has = store_a_good setup setting cores t stands c here a active r drawn p moved v is has
