-- What the words of a straight call's look-ups make of its core.
use Rattle.std.proofs.Common.{◌≡◌, ℕ, ◌+◌, ◌%◌, ◌<◌, nat_le, true, List, [], Some, refl, ap, ◌∙◌}
use Rattle.std.proofs.lemmas.Bool.{lt-leb}
use Rattle.spk_nums.specs.Capability.{Capability}
use Rattle.spk_nums.specs.declared.calls.Call.{Call}
use Rattle.spk_nums.specs.declared.steps.StageEnd.TheVariants.{Going, Done}
use Rattle.step_starts.specs.kernel_rules.specs.Access.{Want}
use Rattle.spk_nums.specs.Rights.{has_rights}
use Rattle.step_starts.specs.entry_words.specs.EntryWord.{entry_of_word}
use Rattle.step_starts.specs.entry_words.specs.declared.entry.Entry.TheVariants.{Held}
use Rattle.step_starts.specs.act_states.specs.Lookups.{met_name}
use Rattle.step_starts.specs.act_states.specs.declared.lookups.Met.TheVariants.{Finds}
use Rattle.step_starts.specs.frame_words.specs.Comp.{comp_of_word}
use Rattle.step_starts.specs.frame_words.specs.Live.{live_of_word}
use Rattle.step_starts.specs.frame_words.specs.declared.comp_word.CompWord.{CompWord}
use Rattle.step_starts.specs.call_plans.specs.After.{next_of}
use Rattle.step_starts.specs.call_plans.specs.Plans.{pushed}
use Rattle.step_starts.specs.call_plans.specs.PlanOf.{plan_for}
use Rattle.step_starts.specs.call_plans.specs.After.{NextName}
use Rattle.step_starts.specs.act_states.specs.declared.own.Own.{Own}
use Rattle.step_starts.specs.act_states.specs.declared.work.Work.TheVariants.{Lookup}
use Rattle.step_starts.specs.act_states.specs.declared.work.WorkStep.{WorkStep}
use Rattle.step_starts.specs.act_states.specs.declared.work.WorkStep.TheVariants.{Goes, Acquires, Refuses, Answers, Changes}
use Rattle.step_starts.specs.stage_look.specs.Shown.{end_of_frames, shown_in}
use Rattle.step_starts.specs.stage_look.specs.Lookup.{found_at, look_end, look_after}
use Rattle.step_starts.specs.stage_look.specs.declared.look.Look.{Look}
use Rattle.step_starts.specs.stage_look.specs.declared.look.Look.TheVariants.{AtLeaf}
use Rattle.step_starts.specs.stage_look.specs.declared.look.Found.{Found}
use Rattle.step_starts.specs.stage_thread.specs.Living.{live_end}
use Rattle.step_starts.specs.stage_thread.specs.declared.alive.Alive.TheVariants.{AtComp, AtLive}
use Rattle.step_starts.specs.call_stages.specs.View.{Core}
use Rattle.step_starts.specs.call_stages.specs.Cores.{absorbed, core_after}
use Rattle.step_starts.specs.call_stages.specs.Steps.{landed, next_by}
use Rattle.step_starts.specs.call_stages.specs.declared.stages.ActiveCall.{ActiveCall}
use Rattle.step_starts.specs.call_stages.specs.declared.stages.Stage.{Stage}
use Rattle.step_starts.specs.call_stages.specs.declared.stages.Stage.TheVariants.{Enter, Living, Undecided}
use Rattle.straight_looks.specs.Standing.{going, stands, looks, onward, Holds, LeadsTo}

-- where a step takes a core does not depend on the stage that its call leaves
from_stage : (own : Own) (a : ActiveCall) (s t : Stage) (step : WorkStep)
    → core_after own (landed (record a { stage = s }) step) ≡ core_after own (landed (record a { stage = t }) step)
from_stage own a s t (Goes work) = refl
from_stage own a s t (Acquires count work) = refl
from_stage own a s t (Refuses r tail) = refl
from_stage own a s t (Answers v drawn tail) = refl
from_stage own a s t (Changes r change drawn tail) = refl

-- the entry of a call that asks whether its core's component lives
pub entered : (own : Own) (call : Call) (w : ℕ) → own.made < own.limit → (plan_for call).living ≡ true
    → absorbed (stands own call 0 Enter []) w ≡ stands own call 1 (Living (AtComp own.comp)) []
entered own call w room asks = rw (lt-leb own.limit own.made room, asks) refl

-- the two loads of that question
pub compared : (own : Own) (call : Call) (f : ℕ) (life : CompWord) → comp_of_word f ≡ Some life
    → absorbed (stands own call 1 (Living (AtComp own.comp)) []) f ≡ stands own call 2 (Living (AtLive life)) []
compared own call f life is = rw is refl

pub lived : (own : Own) (call : Call) (f : ℕ) (life : CompWord) → live_end life.epoch (live_of_word f) ≡ Done tt
    → absorbed (stands own call 2 (Living (AtLive life)) []) f ≡ onward own call 2 []
unfolding onward
lived own call f life is =
    rw is (from_stage own (going call 2 Enter [] []) (Living (AtLive life)) Enter (next_by own (going call 2 Enter [] [])))

-- the entry and the two loads, where the component lives
pub asked_lives : (own : Own) (call : Call) (w f g : ℕ) (life : CompWord) (a b c d : Core)
    → a ≡ stands own call 0 Enter [] → b ≡ absorbed a w → c ≡ absorbed b f → d ≡ absorbed c g
    → own.made < own.limit → (plan_for call).living ≡ true → comp_of_word f ≡ Some life → live_end life.epoch (live_of_word g) ≡ Done tt
    → d ≡ onward own call 2 []
asked_lives own call w f g life a b c d at first second third room asks some lives =
    third ∙ ap (λ x. absorbed x g) (second ∙ ap (λ x. absorbed x f) (first ∙ ap (λ x. absorbed x w) at ∙ entered own call w room asks)
    ∙ compared own call f life some) ∙ lived own call g life lives

-- the two loads of a look-up
pub followed : (own : Own) (call : Call) (f steps : ℕ) (look : Look) (ks : List Capability)
    → look_end look f (shown_in own.layout.frames f) ≡ Going
    → absorbed (looks own call steps look ks) f ≡ looks own call (steps + 1) (look_after look (shown_in own.layout.frames f)) ks
followed own call f steps look ks is = rw is refl

pub cap_within : (frames w : ℕ) (k : Capability) → entry_of_word w ≡ Some (Held k)
    → nat_le (end_of_frames k.kind k.frame k.arg) frames ≡ true → shown_in frames w ≡ Some (Held k)
cap_within frames w k is within = rw (is, within) refl

pub held_shown : (own : Own) (leaf number w : ℕ) (k : Capability) → shown_in own.layout.frames w ≡ Some (Held k)
    → Holds own (AtLeaf leaf number) w (found_at leaf (number % 64) w (Held k)) k
held_shown own leaf number w k is = record { found = rw is refl; held = refl }

pub wanted : (want : Want) (k : Capability) → want.kinds k.kind ≡ true → has_rights k.rights want.needs ≡ true
    → met_name want (Held k) ≡ Finds k
wanted want k kind right = rw (kind, right) refl

pub leads : (own : Own) (look : Look) (w : ℕ) (want : Want) (place : Found) (k : Capability) → Holds own look w place k
    → met_name want (Held k) ≡ Finds k → LeadsTo own look w want k
leads own look w want place k holds finds = record { place = place; found = holds.found; finds = rw holds.held finds }

pub named : (own : Own) (call : Call) (f steps number : ℕ) (want : Want) (look : Look) (ks : List Capability) (k : Capability)
    → next_of (plan_for call) ks ≡ NextName number want → LeadsTo own look f want k
    → absorbed (looks own call steps look ks) f ≡ onward own call steps (pushed ks k)
unfolding onward
named own call f steps number want look ks k next leads =
    rw (leads.found, next, leads.finds) (from_stage own (going call steps Enter (pushed ks k) []) (Undecided (Lookup look)) Enter
    (next_by own (going call steps Enter (pushed ks k) [])))

pub named_after : (own : Own) (call : Call) (f steps number : ℕ) (want : Want) (look : Look) (ks : List Capability) (k : Capability)
    (c d : Core)
    → c ≡ looks own call steps look ks → d ≡ absorbed c f → next_of (plan_for call) ks ≡ NextName number want → LeadsTo own look f want k
    → d ≡ onward own call steps (pushed ks k)
named_after own call f steps number want look ks k c d at goes next leads =
    goes ∙ ap (λ x. absorbed x f) at ∙ named own call f steps number want look ks k next leads
