-- A delegation, whose list is stored, gives the head of the second of two temporal capabilities back with the ticks, and in the next version
-- where the list is another.
use Rattle.pair_invariant.specs as low
use low.step_ways.proofs.{◌≡◌, ◌≢◌, ◌⊎◌, inl, inr, ℕ, ◌<◌, Bool, true, false, if◌then◌else◌, Option, Some, None, arith, refl, sym, ◌∙◌, ap}
use low.step_ways.proofs.{Setting, IsSetting, Reply, HeadFits, word_of_head, HeadWord, EntryAt, Move, StoreOf, Step, Trace, same_word-other}
use low.step_ways.proofs.{marked, credited, list_changed, amount_of, Pair, StoreB, StoreA, Decided, ActiveCall, went_with, GoesOn, Core}
use low.step_ways.proofs.{holds_counts, KnowsTail, done_by, Invariant, counts_bare, inner, GoodTook, Value}
use Rattle.share_invariant.proofs.HeadStores.{counts_free, a_stored, shared_on, head_good}
use low.{stage_tcap.specs.Heads.relisted, act_states.specs.declared.work.Tail.TheVariants.Share as share_tail}
use low.{core_invariant.specs.Shares.StoresB}

module _ (setup : Setting) (setting : IsSetting setup) (cores : ℕ → Core) (t : Trace) (stands : Invariant setup cores t) (c : ℕ)
    (here : c < setup.cores)
    (a : ActiveCall) (active : (cores c).active ≡ Some a) (r : Reply) (drawn : Option ℕ) (p : Pair)
    (stage_is : a.stage ≡ Decided r drawn (share_tail (record p { at = StoreB })))
    (has : KnowsTail setup t c a.call a.counts (share_tail (record p { at = StoreB }))) where
  abbrev final : HeadWord
  final = credited (relisted p.grows p.head_b) (amount_of p.what)

  abbrev store : Move
  store = StoreOf (EntryAt p.b 0) (word_of_head final)

  abbrev e : Step
  e = inner setup setting cores t stands c here a active store None None

  knows : StoresB setup t c a.call (record p { at = StoreB })
  knows = has.at

  final_fits : HeadFits final
  final_fits = by p.grows
    where
      by : (g : Bool) → HeadFits (credited (relisted g p.head_b) (amount_of p.what))
      by true = (omega arith, tt, (let few = knows.few in omega (arith, few)))
      by false = (omega arith, tt, knows.fits.2)

  -- the version rises, or the list is as it was
  rises : (g : Bool) → p.grows ≡ g → (p.head_b.version < (credited (relisted g p.head_b) (amount_of p.what)).version)
      ⊎ ((p.head_b.version ≡ (credited (relisted g p.head_b) (amount_of p.what)).version) × (list_changed t p.b ≡ false))
  rises true is = inl (let few = knows.few in omega (arith, few))
  rises false is = inr (refl, (knows.same is).clean)

  other_word : EntryAt p.b 0 ≢ EntryAt p.a 0
  other_word h = knows.differ (sym (same_frame p.b p.a h))
    where
      same_frame : (f g : ℕ) → EntryAt f 0 ≡ EntryAt g 0 → f ≡ g
      same_frame f g h = cc

  pub store_b_good : GoodTook setup cores t c store
      (GoesOn (went_with a a.counts (Decided r drawn (share_tail (record p { at = StoreA true Value.Nothing })))))
  store_b_good =
      head_good setup setting cores t stands c here a active r drawn (share_tail (record p { at = StoreB }))
      (share_tail (record p { at = StoreA true Value.Nothing })) stage_is p.b p.head_b final (record {
        budgets = has.budgets;
        footprint = knows.footprint;
        tcap = knows.tcap;
        raw = knows.raw ∙ ap (λ (b : ℕ). word_of_head (marked b p.head_b)) has.core;
        fits = knows.fits;
        next_fits = final_fits;
        next_bare = refl;
        rises = rises p.grows refl;
        held = refl;
        free = ap (λ b. if b then true else (holds_counts (done_by r drawn) a.counts).marks (EntryAt p.b 0))
            (same_word-other (EntryAt p.b 0) (EntryAt p.a 0) other_word) ∙ counts_free (done_by r drawn) a.counts p.b 0;
        none = counts_bare (done_by r drawn) a.counts;
      })
      (shared_on setup t e c a.call (record p { at = StoreB }) (StoreA true Value.Nothing) refl refl has
      (a_stored setup t e (record p { at = StoreB }) (StoreA true Value.Nothing) 0 refl knows.differ knows.a))
