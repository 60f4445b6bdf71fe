-- A step of the work of an undecided call is good.
use Rattle.comp_invariant.specs.step_ways.proofs as low
use low.{◌≡◌, ℕ, ◌<◌, Some, sym, ap, subst, false≢true, Setting, IsSetting, word_of, told_of, Trace, last_left, shown_in, look_move, Look}
use low.{AtRoot, AtLeaf, AtEntry, Outside, Work, Lookup, Read, Scan, Acquire, Act, Undecided, ActiveCall, Core, KnowsUndecided, Invariant}
use low.{Fill as fill_act, Remove as remove_act, Tick as tick_act, Flush as flush_act, Kill as kill_act, Untype as untype_act}
use low.{Map as map_act, MakeComp as comp_act, Invoke as invoke_act, Return as return_act, Touch as touch_act, Share as share_act}
use low.{Refill as refill_act, Switch as switch_act, GoodTook}
use Rattle.comp_invariant.specs.call_stages.specs.{work_move, took_look, took_work}
use Rattle.comp_invariant.specs.core_invariant.specs.{Retype as type_act, Make as make_act}
use Rattle.comp_invariant.specs.stage_pins.specs.declared.pin.Pin.TheVariants.{AtLoad, AtCompare}
use Rattle.switch_invariant.specs.thread_invariant.proofs.{Left.returning_good, Entered.invoking_good}
use Rattle.comp_invariant.specs.place_invariant.proofs.{Fills.fill_good, Mappings.map_good, Removals.remove_good}
use Rattle.comp_invariant.specs.frame_invariant.proofs.{Typings.typing_good, MadeObjects.making_good}
use Rattle.page_invariant.proofs.{Flushes.flush_good, Touches.touch_good}
use Rattle.work_invariant.proofs.{ByPlan.lookup_good, Reading.read_good}
use Rattle.{comp_invariant.specs.count_invariant.proofs.Acquiring.acquire_good, sweep_invariant.proofs.UntypeSteps.untype_good}
use Rattle.{comp_invariant.specs.scan_invariant.proofs.ScanSteps.scan_good, comp_invariant.proofs.MadeComps.comp_good}
use Rattle.{time_invariant.proofs.TickSteps.tick_good, switch_invariant.specs.live_invariant.proofs.Killed.killing_good}
use Rattle.{share_invariant.proofs.Shares.share_good, share_invariant.specs.pair_invariant.proofs.RefillStarts.refill_good}
use Rattle.{switch_invariant.proofs.Switches.switch_good}

look_good : (setup : Setting) → IsSetting setup → (cores : ℕ → Core) (t : Trace) → Invariant setup cores t → (c : ℕ) → c < setup.cores
    → (a : ActiveCall) → (cores c).active ≡ Some a
    → (look : Look) → a.stage ≡ Undecided (Lookup look) → KnowsUndecided setup t c (cores c).own.table a (Lookup look)
    → GoodTook setup cores t c (look_move look) (took_look (cores c).own a look (last_left setup t (word_of (look_move look)))
    (shown_in (cores c).own.layout.frames (last_left setup t (word_of (look_move look)))))
look_good setup setting cores t stands c here a active look is knows =
    subst (λ (n : ℕ). GoodTook setup cores t c (look_move look)
    (took_look (cores c).own a look (last_left setup t (word_of (look_move look)))
    (shown_in n (last_left setup t (word_of (look_move look))))))
    (sym (ap (λ s. s.frames) (stands.each c here).shape)) (lookup_good setup setting cores t stands c here a active look is knows)

pub work_good : (setup : Setting) → IsSetting setup → (cores : ℕ → Core) (t : Trace) → Invariant setup cores t → (c : ℕ) → c < setup.cores
    → (a : ActiveCall) → (cores c).active ≡ Some a
    → (work : Work) → a.stage ≡ Undecided work → KnowsUndecided setup t c (cores c).own.table a work
    → GoodTook setup cores t c (work_move work) (took_work (cores c).own a work
    (told_of (work_move work) (last_left setup t (word_of (work_move work)))))
work_good setup setting cores t stands c here a active (Lookup (AtRoot top number)) is knows =
    look_good setup setting cores t stands c here a active (AtRoot top number) is knows
work_good setup setting cores t stands c here a active (Lookup (AtLeaf leaf number)) is knows =
    look_good setup setting cores t stands c here a active (AtLeaf leaf number) is knows
work_good setup setting cores t stands c here a active (Lookup (AtEntry top index)) is knows =
    look_good setup setting cores t stands c here a active (AtEntry top index) is knows
work_good setup setting cores t stands c here a active (Read f look) is knows =
    read_good setup setting cores t stands c here a active f look is knows
work_good setup setting cores t stands c here a active (Acquire (AtLoad frame core) change act) is knows =
    acquire_good setup setting cores t stands c here a active (AtLoad frame core) change act is knows
work_good setup setting cores t stands c here a active (Acquire (AtCompare frame core count stamp) change act) is knows =
    acquire_good setup setting cores t stands c here a active (AtCompare frame core count stamp) change act is knows
work_good setup setting cores t stands c here a active (Act (fill_act fill)) is knows =
    fill_good setup setting cores t stands c here a fill active is knows
work_good setup setting cores t stands c here a active (Act (remove_act close cap)) is knows =
    remove_good setup setting cores t stands c here a active close cap is knows
work_good setup setting cores t stands c here a active (Act (type_act typing)) is knows =
    typing_good setup setting cores t stands c here a active typing.frame typing.kind typing.at is knows
work_good setup setting cores t stands c here a active (Act (make_act m)) is knows =
    making_good setup setting cores t stands c here a active m is knows
work_good setup setting cores t stands c here a active (Act (map_act fill)) is knows =
    map_good setup setting cores t stands c here a active fill is knows
work_good setup setting cores t stands c here a active (Act (Outside node entry word)) is knows =
    absurd (false≢true knows.knows.goes)
work_good setup setting cores t stands c here a active (Act (tick_act charge)) is knows =
    tick_good setup setting cores t stands c here a active charge is knows
work_good setup setting cores t stands c here a active (Act (touch_act m)) is knows =
    touch_good setup setting cores t stands c here a active m is knows
work_good setup setting cores t stands c here a active (Act (flush_act core)) is knows =
    flush_good setup setting cores t stands c here a active core is knows
work_good setup setting cores t stands c here a active (Act (invoke_act m)) is knows =
    invoking_good setup setting cores t stands c here a active m is knows
work_good setup setting cores t stands c here a active (Act (return_act m)) is knows =
    returning_good setup setting cores t stands c here a active m is knows
work_good setup setting cores t stands c here a active (Act (kill_act m)) is knows =
    killing_good setup setting cores t stands c here a active m.comp m.core m.at is knows
work_good setup setting cores t stands c here a active (Act (untype_act m)) is knows =
    untype_good setup setting cores t stands c here a active m is knows
work_good setup setting cores t stands c here a active (Act (share_act p)) is knows =
    share_good setup setting cores t stands c here a active p is knows
work_good setup setting cores t stands c here a active (Act (refill_act r)) is knows =
    refill_good setup setting cores t stands c here a active r is knows
work_good setup setting cores t stands c here a active (Act (switch_act m)) is knows =
    switch_good setup setting cores t stands c here a active m is knows
work_good setup setting cores t stands c here a active (Act (comp_act m)) is knows =
    comp_good setup setting cores t stands c here a active m is knows
work_good setup setting cores t stands c here a active (Scan q act) is knows =
    scan_good setup setting cores t stands c here a active q act is knows
