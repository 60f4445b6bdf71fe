-- What the words make of a core whose call has its names looked up straight.
use Rattle.std.proofs.Common.{◌≡◌, ◌<◌, ◌≤◌, ◌+◌, ℕ, false, List, [], Option, Some, IsSome, refl, sym, ◌∙◌, arith}
use Rattle.std.proofs.lemmas.Bool.{le-leb, lt-leb}
use Rattle.spk_nums.specs.Capability.{Capability}
use Rattle.spk_nums.specs.declared.calls.Call.{Call}
use Rattle.spk_nums.specs.declared.replies.Reply.{Reply}
use Rattle.step_looks.specs.kernel_rules.specs.Access.{Want}
use Rattle.step_looks.specs.kernel_rules.specs.Laws.{calls_counted}
use Rattle.step_looks.specs.call_plans.specs.After.{NextName, next_of}
use Rattle.step_looks.specs.call_plans.specs.PlanOf.{plan_for}
use Rattle.step_looks.specs.call_plans.specs.Plans.{pushed}
use Rattle.step_looks.specs.act_states.specs.OwnChanges.{own_changed}
use Rattle.step_looks.specs.act_states.specs.declared.own.Own.{Own}
use Rattle.step_looks.specs.act_states.specs.declared.own.OwnChange.{OwnChange}
use Rattle.step_looks.specs.act_states.specs.declared.own.OwnChange.TheVariants.{Ticks, GivesBack, Empties, Works, Switches, Caches}
use Rattle.step_looks.specs.act_states.specs.declared.work.WorkStep.{WorkStep}
use Rattle.step_looks.specs.act_states.specs.declared.work.WorkStep.TheVariants.{Goes, Acquires, Refuses, Answers, Changes}
use Rattle.step_looks.specs.stage_look.specs.declared.look.Look.TheVariants.{AtRoot}
use Rattle.step_looks.specs.call_stages.specs.View.{Core}
use Rattle.step_looks.specs.call_stages.specs.Cores.{absorbed, core_after, own_decided}
use Rattle.step_looks.specs.call_stages.specs.Steps.{call_after, landed, next_by, told}
use Rattle.step_looks.specs.call_stages.specs.declared.stages.ActiveCall.{ActiveCall}
use Rattle.step_looks.specs.call_stages.specs.declared.stages.Stage.TheVariants.{Enter}
use Rattle.step_looks.specs.call_stages.specs.declared.stages.Told.{Told}
use Rattle.straight_acts.specs.straight_looks.specs.Outcomes.{IsOn, IsStanding}
use Rattle.straight_acts.specs.straight_looks.specs.Standing.{going, looks, onward, stands}
use Rattle.straight_acts.specs.straight_looks.proofs.Fitting.{ended_went}
use Rattle.call_steps.specs.Naming.{IsOnward, own_told}

-- the entry of a call that does not ask whether its core's component lives
pub entered : (own : Own) (call : Call) (w : ℕ) (b c : Core) → b ≡ stands own call 0 Enter [] → c ≡ absorbed b w
    → own.made < own.limit → (plan_for call).living ≡ false → c ≡ onward own call 0 []
unfolding onward
entered own call w b c at goes room asks = rw (goes, at, lt-leb own.limit own.made room, asks) refl

-- the next name of a call is looked up
pub names_at : (own : Own) (call : Call) (steps number : ℕ) (want : Want) (ks : List Capability) (c : Core) → IsOnward own call steps ks c
    → NextName number want ≡ next_of (plan_for call) ks → number ≤ 4095
    → c ≡ looks own call (steps + 1) (AtRoot own.table number) ks
unfolding onward
names_at own call steps number want ks c on next small = rw (on.core, ← next, le-leb number 4095 small) refl

-- it has led to a capability
pub further : (own : Own) (call : Call) (steps : ℕ) (ks js : List Capability) (k : Capability) (was now : Option ActiveCall) (c : Core)
    → IsOn was now c (onward own call (steps + 1 + 1) (pushed ks k)) → js ≡ pushed ks k → IsOnward own call (steps + 2) js c
further own call steps ks js k was now c on is =
    let two : steps + 1 + 1 ≡ steps + 2 = omega arith in record { core = rw (is, ← two) on.core; fits = on.fits }

-- no name is looked up yet
pub none_named : (own : Own) (call : Call) (steps : ℕ) (ks : List Capability) (c : Core) → IsOnward own call steps [] c → ks ≡ []
    → IsOnward own call steps ks c
none_named own call steps ks c on is = rw is on

-- where a step of its work takes a core and its call, by what is told of it
lands : (own : Own) (a : ActiveCall) (step : WorkStep)
    → record { own = own_told own (told (landed a step)); active = Some (call_after a (landed a step)) } ≡ core_after own (landed a step)
lands own a (Goes work) = refl
lands own a (Acquires count work) = refl
lands own a (Refuses r tail) = refl
lands own a (Answers v drawn tail) = refl
lands own a (Changes r change drawn tail) = refl

-- a call is written down as it stands at what comes next of it
pub stood : (own own' : Own) (call : Call) (steps : ℕ) (ks : List Capability) (a b : ActiveCall) (tells : Told)
    → a ≡ going call steps Enter ks [] → tells ≡ told (landed a (next_by own a)) → b ≡ call_after a (landed a (next_by own a))
    → own' ≡ own_told own tells
    → record { own = own'; active = Some b } ≡ onward own call steps ks
unfolding onward
stood own own' call steps ks a b tells here takes after has =
    rw (has, takes, after, here) (lands own (going call steps Enter ks []) (next_by own (going call steps Enter ks [])))

-- and is that of the words
pub stands_at : (own own' : Own) (call : Call) (steps : ℕ) (ks : List Capability) (active : Option ActiveCall) (c : Core)
    → IsOnward own call steps ks c → record { own = own'; active = active } ≡ onward own call steps ks → IsSome active
    → IsStanding own' active c
stands_at own own' call steps ks active c on at some = record { core = on.core ∙ sym at; fits = on.fits; in_call = some }

-- a decision counts its call and changes what its core has of its own, in either order
pub change_counts : (own : Own) (change : OwnChange) (r : Reply) (n : ℕ) → n ≡ calls_counted r
    → own_changed (record own { made = own.made + n }) change ≡ own_decided (own_changed own change) r
change_counts own (Ticks charged owed) r n is = rw is refl
change_counts own (GivesBack ticks) r n is = rw is refl
change_counts own Empties r n is = rw is refl
change_counts own (Works comp table pages depth) r n is = rw is refl
change_counts own (Switches thread depth comp table pages tcap) r n is = rw is refl
change_counts own (Caches item) r n is = rw is refl

pub ruleset starting = (ended_went)

pub ruleset standing = (none_named, stands_at)

pub ruleset naming = (names_at, further)
