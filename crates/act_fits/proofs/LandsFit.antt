-- What holds of a call after a step of its work: it fits its core, and fewer steps are to come.
use Rattle.act_fits.proofs.Common.{◌≡◌, ℕ, ◌+◌, ◌<◌, ◌≤◌, [], length, ap, arith, AllFit, Reply, InLimits, plan_for, look_steps, act_steps}
use Rattle.act_fits.proofs.Common.{rooted, Own, ActiveCall, WorkStep, Goes, Acquires, Refuses, Answers, Changes as work_changes, GoesOn}
use Rattle.act_fits.proofs.Common.{landed, FoundFits, steps_later, IsOwn}
use Rattle.call_stages.specs.{Took, Decides, Returns, Changes, next_by, StageFits, HasRoom, IsFirst, CountsAt, names_left, left_of}
use Rattle.call_stages.specs.act_states.specs.{calls_counted, reply_of}
use Rattle.act_fits.proofs.{StepsFit.first_named, StepsFit.target_below, StepsFit.next_case, DuesFit.ChangeFits, DuesFit.StepFits}
use Rattle.act_fits.proofs.{NamedFit.ObjectNamed, NamedFit.object_named}

-- What a step of a call led to fits its core, and leaves fewer steps than these; so many calls are then counted.
pub record IsNext (own : Own) (made left : ℕ) (old a : ActiveCall) : Type 0 where
  pub call : a.call ≡ old.call
  pub found : FoundFits own.layout.frames (plan_for a.call) a.found
  pub first : IsFirst a.stage a.found
  pub stage : StageFits own.layout a.stage
  pub acquired : AllFit own.layout a.counts
  pub counts : CountsAt a.counts a.stage
  pub room : HasRoom made own.limit a.stage
  pub counted : made ≤ own.limit
  pub steps : a.steps ≡ old.steps + 1
  pub fewer : left_of own.layout.cores a < left

abbrev pub TookFits : Own → ℕ → ActiveCall → Took → Type 0
TookFits own left old (GoesOn a) = IsNext own own.made left old a
TookFits own left old (Decides r a) = IsNext own (own.made + calls_counted r) left old a
TookFits own left old (Returns r stamp) = 0 < left
TookFits own left old (Changes r change a) = IsNext own (own.made + calls_counted r) left old a × ChangeFits own.layout change

-- a decision counts one call at most
pub counted_most : (r : Reply) → calls_counted r ≤ 1
counted_most Reply.CallsSpent = omega arith
counted_most r = omega arith

-- What holds of a call of a core, but for its stage.
pub record Facts (own : Own) (a : ActiveCall) : Type 0 where
  pub own_fits : IsOwn own
  pub found : FoundFits own.layout.frames (plan_for a.call) a.found
  pub acquired : AllFit own.layout a.counts
  pub limits : InLimits a.call

-- The name of the component of an object that it makes is a frame of the machine.
pub names_object : (own : Own) (a : ActiveCall) → Facts own a → ObjectNamed own.layout.frames a.call a.found
names_object own a facts = object_named own.layout.frames a.call a.found
    facts.found

pub next_fits : (own : Own) (a : ActiveCall) → Facts own a
    → StepFits own.layout [] (steps_later own.layout.cores a) (look_steps (names_left a) (plan_for a.call).target + act_steps a.call
    own.layout.cores) (next_by own a)
next_fits own a facts =
    next_case own a.call a.found (names_left a) (plan_for a.call).target facts.own_fits
    (first_named own.layout.frames (plan_for a.call).names [] a.found facts.found) (names_object own a facts) facts.limits
    (λ none. target_below own.layout.frames (plan_for a.call) a.found (plan_for a.call).target
    (rooted a.call) facts.found none)

module _ (own : Own) (old a : ActiveCall) (call : a.call ≡ old.call) (steps : a.steps ≡ old.steps)
    (found : FoundFits own.layout.frames (plan_for a.call) a.found) (acquired : AllFit own.layout a.counts) (room : own.made < own.limit)
  where
    pub landed_fits : (most left : ℕ) (step : WorkStep) → StepFits own.layout a.counts (steps_later own.layout.cores a) most step
        → 2 + length a.counts + most < left → TookFits own left old (landed a step)
    landed_fits most left (Goes work) fits some = record {
      call = call;
      found = found;
      first = tt;
      stage = fits.0;
      acquired = acquired;
      counts = fits.2;
      room = room;
      counted = omega arith;
      steps = ap (λ n. n + 1) steps;
      fewer = let most_left = fits.1 in omega arith;
    }
    landed_fits most left (Acquires count work) fits some = absurd fits
    landed_fits most left (Refuses r tail) fits some =
        let few = fits.0 in
        let one : calls_counted (reply_of r) ≤ 1 = counted_most (reply_of r) in record {
          call = call;
          found = found;
          first = tt;
          stage = fits.1;
          acquired = acquired;
          counts = tt;
          room = tt;
          counted = omega arith;
          steps = ap (λ n. n + 1) steps;
          fewer = omega arith;
        }
    landed_fits most left (Answers v drawn tail) fits some = record {
      call = call;
      found = found;
      first = tt;
      stage = fits.1;
      acquired = acquired;
      counts = tt;
      room = tt;
      counted = omega arith;
      steps = ap (λ n. n + 1) steps;
      fewer = let few = fits.0 in omega arith;
    }
    landed_fits most left (work_changes r change drawn tail) fits some =
        let few = fits.0 in
        let one : calls_counted r ≤ 1 = counted_most r in (
          record {
            call = call;
            found = found;
            first = tt;
            stage = fits.1;
            acquired = acquired;
            counts = tt;
            room = tt;
            counted = omega arith;
            steps = ap (λ n. n + 1) steps;
            fewer = omega arith;
          },
          fits.2,
        )
