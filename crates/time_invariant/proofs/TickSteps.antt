-- A step of a tick keeps the invariant, whichever it is.
use Rattle.step_ways.proofs.{min, ◌≡◌, ℕ, ◌<◌, ◌==◌, Bool, true, false, Some, refl, sym, subst, Setting, IsSetting, word_of_head}
use Rattle.step_ways.proofs.{head_of_word, EntryAt, LoadOf, CompareOf, word_of, told_of, Trace, state_after, last_left, head, debited}
use Rattle.step_ways.proofs.{head_end, Charge, Act, Undecided, ActiveCall, landed, Core, ChargesBy, KnowsUndecided, Invariant, AtLoad}
use Rattle.step_ways.proofs.{Tick as tick_act, GoodTook}
use Rattle.step_ways.specs.act_states.specs.{charge_move, charged_end, took_charge, took_tick}
use Rattle.step_ways.specs.stage_tcap.specs.{Charging.after_head, declared.charge.Charge.TheVariants.AtCompare}
use Rattle.step_ways.specs.core_invariant.specs.Acting.{HasHead}
use Rattle.time_invariant.proofs.{TickCalls.tick_of, Ticks.here_is, Ticks.load_good, Ticks.won_good, Ticks.lost_good}

-- A step of a tick is good.
pub tick_good : (setup : Setting) → IsSetting setup → (cores : ℕ → Core) (t : Trace) → Invariant setup cores t → (c : ℕ) → c < setup.cores
    → (a : ActiveCall) → (cores c).active ≡ Some a → (charge_at : Charge) → a.stage ≡ Undecided (Act (tick_act charge_at))
    → KnowsUndecided setup t c (cores c).own.table a (Act (tick_act charge_at))
    → GoodTook setup cores t c (charge_move charge_at)
    (landed a (took_tick charge_at (told_of (charge_move charge_at) (last_left setup t (word_of (charge_move charge_at))))))
tick_good setup setting cores t stands c here a active (AtLoad tcap ticks) is has =
    subst (λ (f : ℕ). GoodTook setup cores t c (LoadOf (EntryAt f 0))
    (landed a (took_charge ticks (after_head f ticks (head_of_word (last_left setup t (EntryAt f 0))))
    (head_end (head_of_word (last_left setup t (EntryAt f 0)))))))
    (sym (here_is setup setting cores t stands c here a active (AtLoad tcap ticks) is has tcap ticks refl))
    (load_good setup setting cores t stands c here a active (AtLoad tcap ticks) is has tcap ticks refl)
tick_good setup setting cores t stands c here a active (AtCompare tcap ticks budget version) is has = by (own_frame has.knows.knows.charges)
  where
    own_frame : ChargesBy (state_after setup t) c a.call (AtCompare tcap ticks budget version) → tcap ≡ ((state_after setup t).core c).tcap
    own_frame h = (tick_of (state_after setup t) c a.call (AtCompare tcap ticks budget version) h).charged.tcap

    Goal : ℕ → Type 0
    Goal f = GoodTook setup cores t c (CompareOf (EntryAt f 0) (word_of_head (head budget version))
        (word_of_head (debited (head budget version) (min ticks budget))))
        (landed a (took_charge ticks (AtCompare tcap ticks budget version)
        (charged_end (last_left setup t (EntryAt f 0) == word_of_head (head budget version)) (min ticks budget))))

    by : tcap ≡ ((state_after setup t).core c).tcap → Goal tcap
    by same = subst Goal (sym same) (by_test (last_left setup t (EntryAt ((state_after setup t).core c).tcap 0)
        == word_of_head (head budget version)) refl)
      where
        met : HasHead t c ((state_after setup t).core c).tcap budget version
        met = subst (λ (f : ℕ). HasHead t c f budget version) same has.knows.knows.at

        by_test : (equal : Bool)
            → (last_left setup t (EntryAt ((state_after setup t).core c).tcap 0) == word_of_head (head budget version)) ≡ equal
            → GoodTook setup cores t c (CompareOf (EntryAt ((state_after setup t).core c).tcap 0) (word_of_head (head budget version))
            (word_of_head (debited (head budget version) (min ticks budget))))
            (landed a (took_charge ticks (AtCompare tcap ticks budget version) (charged_end equal (min ticks budget))))
        by_test true equal =
            won_good setup setting cores t stands c here a active (AtCompare tcap ticks budget version) is has tcap ticks budget version
            refl met equal
        by_test false other =
            lost_good setup setting cores t stands c here a active (AtCompare tcap ticks budget version) is has budget version met
            (word_of_head (debited (head budget version) (min ticks budget))) other
