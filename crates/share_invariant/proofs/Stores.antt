-- A decided call gives the head of the first of two temporal capabilities back: less the ticks, or as it was found.
use Rattle.pair_invariant.specs.step_ways.proofs.{◌≡◌, ◌⊎◌, inl, inr, ℕ, ◌<◌, Bool, true, false, Option, Some, None, arith, refl, ◌∙◌, ap}
use Rattle.pair_invariant.specs.step_ways.proofs.{Setting, IsSetting, Reply, Value, HeadFits, word_of_head, HeadWord, EntryAt, StoreOf}
use Rattle.pair_invariant.specs.step_ways.proofs.{Trace, marked, amount_of, Pair, StoreA, Decided, ActiveCall, went_with, GoesOn, Core}
use Rattle.pair_invariant.specs.step_ways.proofs.{KnowsTail, list_changed, done_by, Invariant, counts_bare, Nothing as no_tail, GoodTook}
use Rattle.share_invariant.proofs.HeadStores.{counts_free, head_good}
use Rattle.{pair_invariant.specs.core_invariant.specs.Shares.StoresA, pair_invariant.specs.stage_tcap.specs.Pairs.left_a}
use Rattle.{pair_invariant.specs.act_states.specs.declared.work.Tail.TheVariants.Share as share_tail}

module _ (setup : Setting) (setting : IsSetting setup) (cores : ℕ → Core) (t : Trace) (stands : Invariant setup cores t) (c : ℕ)
    (here : c < setup.cores)
    (a : ActiveCall) (active : (cores c).active ≡ Some a) (r : Reply) (drawn : Option ℕ) (p : Pair) (moved : Bool) (v : Value)
    (stage_is : a.stage ≡ Decided r drawn (share_tail (record p { at = StoreA moved v })))
    (has : KnowsTail setup t c a.call a.counts (share_tail (record p { at = StoreA moved v }))) where
  abbrev final : HeadWord
  final = left_a moved p.head_a (amount_of p.what)

  knows : StoresA setup t (record p { at = StoreA moved v })
  knows = has.at

  final_fits : HeadFits final
  final_fits = by moved
    where
      by : (m : Bool) → HeadFits (left_a m p.head_a (amount_of p.what))
      by true = (let low = knows.fits.0 in omega (arith, low), tt, knows.fits.2)
      by false = knows.fits

  final_bare : final.mark ≡ None
  final_bare = by moved
    where
      by : (m : Bool) → (left_a m p.head_a (amount_of p.what)).mark ≡ None
      by true = refl
      by false = knows.bare

  -- the version is as it was found, and so is the list
  rises : (m : Bool) → (p.head_a.version < (left_a m p.head_a (amount_of p.what)).version)
      ⊎ ((p.head_a.version ≡ (left_a m p.head_a (amount_of p.what)).version) × (list_changed t p.a ≡ false))
  rises true = inr (refl, knows.clean)
  rises false = inr (refl, knows.clean)

  pub store_a_good : GoodTook setup cores t c (StoreOf (EntryAt p.a 0) (word_of_head final))
      (GoesOn (went_with a a.counts (Decided r drawn no_tail)))
  store_a_good =
      head_good setup setting cores t stands c here a active r drawn (share_tail (record p { at = StoreA moved v })) no_tail stage_is p.a
      p.head_a final (record {
        budgets = has.budgets;
        footprint = has.footprint;
        tcap = has.tcap_a;
        raw = knows.raw ∙ ap (λ (b : ℕ). word_of_head (marked b p.head_a)) has.core;
        fits = knows.fits;
        next_fits = final_fits;
        next_bare = final_bare;
        rises = rises moved;
        held = refl;
        free = counts_free (done_by r drawn) a.counts p.a 0;
        none = counts_bare (done_by r drawn) a.counts;
      }) tt
