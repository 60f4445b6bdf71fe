-- A step of a call is good, by the stage where the call stands: its work, the stores after its decision, the counts that it then commits,
-- the load of the clock, and the store of its core word.
use Rattle.comp_invariant.specs.step_ways.proofs.{◌≡◌, ◌∙◌, inl, ℕ, ◌^◌, ◌<◌, ◌∷◌, Option, Some, None, List, [], arith, false, refl, sym}
use Rattle.comp_invariant.specs.step_ways.proofs.{ap, subst, lt-ltb, Setting, IsSetting, Reply, CoreAt, ClockAt, LoadOf, StoreOf, word_of}
use Rattle.comp_invariant.specs.step_ways.proofs.{told_of, Step, Trace, last_left, clock, Nothing, Quiesce, Unmark, StoreDead, StoreFlush}
use Rattle.comp_invariant.specs.step_ways.proofs.{Release, StoreLive, Push, Pop, StoreRunning, StoreIdle, Stage, Enter, Living, Undecided}
use Rattle.comp_invariant.specs.step_ways.proofs.{Decided, Leave, ActiveCall, Core, Acquired, holds_counts, stage_move, Took, GoesOn}
use Rattle.comp_invariant.specs.step_ways.proofs.{Returns, went_with, KnowsAt, done_by, holds_at, Invariant, phase_at, tail_move, took_tail}
use Rattle.comp_invariant.specs.step_ways.proofs.{took_at, step_to, loads_on, clock_small, GoodTook}
use Rattle.{comp_invariant.specs.call_stages.specs.core_word, comp_invariant.specs.call_stages.specs.tail_counts}
use Rattle.{comp_invariant.specs.act_states.specs.declared.work.Tail.TheVariants.Share}
use Rattle.{comp_invariant.specs.kernel_history.proofs.Steps.clock_seen-own, comp_invariant.specs.call_stages.specs.Tails.stamp_if}
use Rattle.{comp_invariant.specs.call_stages.specs.Tails.stamp_of, comp_invariant.specs.count_invariant.proofs.Acquiring.commit_good}
use Rattle.{comp_invariant.specs.step_ways.proofs.Writes.leaves_on, comp_invariant.specs.place_invariant.proofs.Removals.store_good}
use Rattle.{comp_invariant.proofs.CompStores.give_live_good, comp_invariant.specs.frame_invariant.proofs.Makes.unmark_good}
use Rattle.{switch_invariant.specs.thread_invariant.proofs.Stacks.push_good, switch_invariant.specs.thread_invariant.proofs.Stacks.pop_good}
use Rattle.{share_invariant.proofs.Shares.shared_good, switch_invariant.specs.live_invariant.proofs.Killed.dead_good}
use Rattle.{page_invariant.proofs.Flushes.flushed_good, switch_invariant.proofs.Stores.running_good}
use Rattle.{switch_invariant.proofs.Stores.idle_good, sweep_invariant.proofs.Releases.release_good, work_invariant.proofs.Living.alive_good}
use Rattle.{work_invariant.proofs.Work.work_good}

module _ (setup : Setting) (setting : IsSetting setup) (cores : ℕ → Core) (t : Trace) (stands : Invariant setup cores t) (c : ℕ)
    (here : c < setup.cores) where
  -- what a call takes at its stage from the word of its move
  abbrev pub TakenAt : ActiveCall → Stage → Took
  TakenAt a stage = took_at (cores c).own a stage (told_of (stage_move (cores c).own a.counts stage)
      (last_left setup t (word_of (stage_move (cores c).own a.counts stage))))

  abbrev pub StageGood : ActiveCall → Stage → Type 0
  StageGood a stage = GoodTook setup cores t c (stage_move (cores c).own a.counts stage) (TakenAt a stage)

  -- the clock is loaded for the exit
  exit_good : (a : ActiveCall) (r : Reply) (drawn : Option ℕ) → (cores c).active ≡ Some a → a.stage ≡ Decided r drawn Nothing
      → a.counts ≡ []
      → GoodTook setup cores t c (LoadOf ClockAt) (GoesOn (went_with a [] (Leave r (stamp_of (clock setup t)))))
  exit_good a r drawn active at none =
      subst Goal (sym (ap (λ b. stamp_if b (clock setup t)) (lt-ltb (clock setup t) (2 ^ 43) (clock_small setup setting cores t stands))))
      loads
    where
      Goal : ℕ → Type 0
      Goal x = GoodTook setup cores t c (LoadOf ClockAt) (GoesOn (went_with a [] (Leave r x)))

      loads : Goal (clock setup t)
      loads = subst (λ (xs : List Acquired). GoodTook setup cores t c (LoadOf ClockAt)
          (GoesOn (went_with a xs (Leave r (clock setup t))))) none λ lands.
          let e : Step = step_to c None (LoadOf ClockAt) (clock setup t) None None in
          loads_on setup setting cores t stands c here a active (LoadOf ClockAt) a.found (Leave r (clock setup t))
          (record { of_call = record { moves = refl; footprint = inl tt }; kept = refl; apart = λ d. refl }) lands
          (ap (holds_counts None) none ∙ sym (ap (λ s. holds_at s a.counts) at ∙ ap (holds_counts (done_by r drawn)) none))
          (ap (phase_at a.call) at)
          (λ carries. record {
            seen = clock_seen-own c e t refl;
            some = stands.some_time;
            low = omega arith;
            stays = λ x old. (let p = (stands.graces x).past in absurd (omega arith));
          })

  -- a decided call commits its counts, and then loads the clock
  decided_good : (a : ActiveCall) (r : Reply) (drawn : Option ℕ) → (cores c).active ≡ Some a → a.stage ≡ Decided r drawn Nothing
      → StageGood a (Decided r drawn Nothing)
  decided_good a r drawn active at = by a.counts refl
    where
      Goal : List Acquired → Type 0
      Goal xs = GoodTook setup cores t c (tail_move r drawn Nothing xs)
          (GoesOn (went_with a (tail_counts Nothing xs) (took_tail r drawn Nothing xs
          (told_of (tail_move r drawn Nothing xs) (last_left setup t (word_of (tail_move r drawn Nothing xs)))))))

      by : (xs : List Acquired) → a.counts ≡ xs → Goal xs
      by [] is = exit_good a r drawn active at is
      by (x ∷ xs) is = commit_good setup setting cores t stands c here a active r drawn at x xs is

  -- the core word is stored
  leave_good : (a : ActiveCall) (r : Reply) (x : ℕ) → (cores c).active ≡ Some a → a.stage ≡ Leave r x → StageGood a (Leave r x)
  leave_good a r x active at = subst Goal (sym (stands.each c here).number) leaves
    where
      Goal : ℕ → Type 0
      Goal m = GoodTook setup cores t c (StoreOf (CoreAt m) (core_word false x)) (Returns r x)

      leaves : Goal c
      leaves lands = leaves_on setup setting cores t stands c here a active r x at lands

  -- a further step of a call, by its stage
  pub stage_good : (a : ActiveCall) (stage : Stage) → (cores c).active ≡ Some a → a.stage ≡ stage
      → KnowsAt setup t c (cores c).own.table a stage → StageGood a stage
  stage_good a Enter active at knows = absurd knows
  stage_good a (Living alive) active at knows = alive_good setup setting cores t stands c here a active alive at knows
  stage_good a (Undecided work) active at knows = work_good setup setting cores t stands c here a active work at knows
  stage_good a (Decided r drawn Nothing) active at knows = decided_good a r drawn active at
  stage_good a (Decided r drawn (Quiesce close)) active at knows =
      store_good setup setting cores t stands c here a active r drawn close at knows
  stage_good a (Decided r drawn (Unmark f word)) active at knows =
      unmark_good setup setting cores t stands c here a active r drawn f word at knows
  stage_good a (Decided r drawn (StoreDead life x)) active at knows =
      dead_good setup setting cores t stands c here a active r drawn life x at knows
  stage_good a (Decided r drawn (StoreFlush by x)) active at knows =
      flushed_good setup setting cores t stands c here a active r drawn by x at knows
  stage_good a (Decided r drawn (Release release)) active at knows =
      release_good setup setting cores t stands c here a active r drawn release at knows
  stage_good a (Decided r drawn (Share p)) active at knows = shared_good setup setting cores t stands c here a active r drawn p at knows
  stage_good a (Decided r drawn (StoreRunning f core depth old old_depth)) active at knows =
      running_good setup setting cores t stands c here a active r drawn f core depth old old_depth at knows
  stage_good a (Decided r drawn (StoreIdle f depth)) active at knows =
      idle_good setup setting cores t stands c here a active r drawn f depth at knows
  stage_good a (Decided r drawn (StoreLive l live f word)) active at knows =
      give_live_good setup setting cores t stands c here a active r drawn l live f word at knows
  stage_good a (Decided r drawn (Push push)) active at knows = push_good setup setting cores t stands c here a active r drawn push at knows
  stage_good a (Decided r drawn (Pop pop)) active at knows = pop_good setup setting cores t stands c here a active r drawn pop at knows
  stage_good a (Leave r x) active at knows = leave_good a r x active at
