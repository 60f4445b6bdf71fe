-- A step of any core leaves cores that stand for the trace with it.
use Rattle.work_invariant.specs.step_ways.proofs.{◌≡◌, ℕ, ◌<◌, Option, Some, None, true, refl, sym, subst, IsSome, false≢true, Setting}
use Rattle.work_invariant.specs.step_ways.proofs.{IsSetting, Call, CoreAt, StoreOf, word_of, Trace, last_left, ActiveCall, Core, stage_move}
use Rattle.work_invariant.specs.step_ways.proofs.{Took, fresh, told_by, CallIs, Invariant, IsIn as IsInShape, IsGood, is_active}
use Rattle.flight.specs.{turned, MayStep, step_of, core_after, found_by}
use Rattle.call_fits.specs.call_stages.specs.{core_word, IsActive, took_enter, is_spent, begun}
use Rattle.flight.proofs.{CoreFits.begun_fits, CoreFits.after_fits, Spelling.stage_in, Entries.enter_good}
use Rattle.{work_invariant.specs.core_invariant.specs.Knows.Knows, work_invariant.specs.step_ways.proofs.Good.stands_on}
use Rattle.{work_invariant.proofs.Stages.stage_good, flight.specs.Made.MayBegin, flight.specs.Made.step_at, flight.specs.Theorems.StepsOn}
use Rattle.call_fits.specs.call_stages.specs.Cores as cores_of

-- The step of core c, which stands here with the call that may begin, is good for what it finds.
abbrev pub StepGood : Setting → (ℕ → Core) → Trace → ℕ → Option Call → Core → Type 0
StepGood setup cores t c enters core =
    IsGood setup cores t (step_of c enters core (found_by setup t core)) (core_after core (found_by setup t core))

module _ (setup : Setting) (setting : IsSetting setup) (cores : ℕ → Core) (t : Trace) (stands : Invariant setup cores t) (c : ℕ)
    (here : c < setup.cores) where
  -- the step of a call
  next_good : (a : ActiveCall) → (cores c).active ≡ Some a → Knows setup t c (cores c).own.table a
      → StepGood setup cores t c None (record { own = (cores c).own; active = Some a })
  next_good a active knows = stage_good setup setting cores t stands c here a a.stage active refl knows (record {
    fits = after_fits (cores c).own a _ (record { own = (stands.each c here).fits.own; active = is });
    is_in = subst (λ s. IsInShape s (word_of (stage_move (cores c).own a.counts a.stage))) (stands.each c here).shape
        (stage_in (cores c).own a.counts a.stage (stands.each c here).fits.own.core is.acquired is.stage);
  })
    where
      is : IsActive (cores c).own a
      is = is_active setup setting cores t stands c here a active

  -- a step that begins a call
  first_good : (call : Call) → MayBegin call (cores c) → StepGood setup cores t c (Some call) (begun (cores c) call)
  first_good call may = subst Goal (sym (stands.each c here).number) base
    where
      enters : Took
      enters = took_enter (is_spent (cores c).own) (cores c).own (fresh call)

      Goal : ℕ → Type 0
      Goal m = IsGood setup cores t
          (step_at c (Some call) (StoreOf (CoreAt m) (core_word true (cores c).own.exit)) (last_left setup t (CoreAt m)) (told_by enters))
          (cores_of.core_after (cores c).own enters)

      base : Goal c
      base = enter_good setup setting cores t stands c here call may
          (record {
            fits = after_fits (cores c).own (fresh call) (core_word true (cores c).own.exit)
                (begun_fits (cores c) call (stands.each c here).fits may.limits);
            is_in = here;
          })

-- the turn of a core
in_its_call : (setup : Setting) (t : Trace) (c table : ℕ) (o : Option ActiveCall) → CallIs setup t c table o → IsSome o
    → (a : ActiveCall) × (o ≡ Some a) × Knows setup t c table a
in_its_call setup t c table None is some = absurd (false≢true some)
in_its_call setup t c table (Some a) is some = (a, refl, is.knows)

-- A step of any core is good, whether a call begins with it or goes on.
pub good_on : (setup : Setting) → IsSetting setup → (cores : ℕ → Core) (t : Trace) → Invariant setup cores t → (c : ℕ) → c < setup.cores
    → (enters : Option Call) → MayStep enters (cores c) → StepGood setup cores t c enters (turned enters (cores c))
good_on setup setting cores t stands c here None may =
    let a = in_its_call setup t c (cores c).own.table (cores c).active (stands.each c here).active may in
    subst (λ o. StepGood setup cores t c None (record { own = (cores c).own; active = o })) (sym a.1)
    (next_good setup setting cores t stands c here a.0 a.1 a.2)
good_on setup setting cores t stands c here (Some call) may = first_good setup setting cores t stands c here call may

pub steps_on : StepsOn
steps_on setup setting cores t stands c here enters may =
    let core : Core = turned enters (cores c) in
    stands_on setup setting cores t stands (step_of c enters core (found_by setup t core)) (core_after core (found_by setup t core))
    (good_on setup setting cores t stands c here enters may)
