-- A step of a switch before its decision, and the decision, is good.
use Rattle.thread_invariant.specs.step_ways.proofs.{◌≡◌, ◌<◌, ◌≤◌, ◌+◌, ◌^◌, ℕ, Some, arith, refl, Setting, IsSetting, told_of, word_of}
use Rattle.thread_invariant.specs.step_ways.proofs.{clock, Trace, last_left, drawn_stamp, Switching, SwitchAt, Act, Undecided, ActiveCall}
use Rattle.thread_invariant.specs.step_ways.proofs.{landed, Core, KnowsUndecided, Invariant, Switch as switch_act, GoodTook, clock_small}
use Rattle.thread_invariant.specs.act_states.specs.{AtStack, took_switching_at, switching_at}
use Rattle.thread_invariant.specs.act_states.specs.declared.switches.SwitchAt.TheVariants.{LoadTable, Claim, LoadPages, Leave, Draw}
use Rattle.thread_invariant.specs.stage_thread.specs.declared.claim.Claim.TheVariants.{AtLoad, AtCompare}
use Rattle.switch_invariant.proofs.{Claims.load_good, Claims.compare_good, Claims.stack_good, Leaves.leave_good, Switched.switched_good}
use Rattle.switch_invariant.proofs.{Tops.pages_good, Tops.table_good}
use Rattle.{thread_invariant.specs.act_states.specs.Taking.took_switching, thread_invariant.specs.act_states.specs.Switches.switching_move}

pub switch_good : (setup : Setting) → IsSetting setup → (cores : ℕ → Core) (t : Trace) → Invariant setup cores t → (c : ℕ) → c < setup.cores
    → (a : ActiveCall) → (cores c).active ≡ Some a → (m : Switching) → a.stage ≡ Undecided (Act (switch_act m))
    → KnowsUndecided setup t c (cores c).own.table a (Act (switch_act m))
    → GoodTook setup cores t c (switching_move m)
    (landed a (took_switching m (told_of (switching_move m) (last_left setup t (word_of (switching_move m))))))
switch_good setup setting cores t stands c here a active m stage_is has = by m.at refl
  where
    drawn : drawn_stamp (clock setup t) ≡ clock setup t
    drawn = let low = clock_small setup setting cores t stands in let some = stands.some_time in omega (arith, low, some)

    by : (at : SwitchAt) → m.at ≡ at
        → GoodTook setup cores t c (switching_at m at)
        (landed a (took_switching_at m at (told_of (switching_at m at) (last_left setup t (word_of (switching_at m at))))))
    by (Claim (AtLoad f core)) is = load_good setup setting cores t stands c here a active m stage_is has f core is
    by (Claim (AtCompare f core depth)) is = compare_good setup setting cores t stands c here a active m stage_is has f core depth is
    by (Claim (AtStack f depth)) is = stack_good setup setting cores t stands c here a active m stage_is has f depth is
    by (LoadTable to) is = table_good setup setting cores t stands c here a active m stage_is has to is
    by (LoadPages to table) is = pages_good setup setting cores t stands c here a active m stage_is has to table is
    by (Leave to table pages) is = leave_good setup setting cores t stands c here a active m stage_is has to table pages is
    by (Draw to table pages) is =
        switched_good setup setting cores t stands c here a active m stage_is has to table pages is (drawn_stamp (clock setup t)) drawn
