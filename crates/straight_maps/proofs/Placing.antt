-- What the words make of a core whose call looks a place up that is to be free.
use Rattle.std.proofs.Common.{◌≡◌, ℕ, List, [], Option, Some, None, refl}
use Rattle.spk_nums.specs.Capability.{Capability}
use Rattle.spk_nums.specs.declared.calls.Call.{Call}
use Rattle.spk_nums.specs.declared.steps.StageEnd.TheVariants.{Done}
use Rattle.straight_looks.specs.step_starts.specs as low
use low.entry_words.specs.EntryWord.{entry_of_word}
use low.entry_words.specs.declared.entry.Entry.{Entry}
use low.entry_words.specs.declared.entry.Entry.TheVariants.{Free, Held, Closing, Quiescing}
use low.act_states.specs.Acts.{act_begun}
use low.act_states.specs.Lookups.{met_free}
use low.act_states.specs.declared.own.Own.{Own}
use low.act_states.specs.declared.work.Work.TheVariants.{Lookup}
use low.act_states.specs.declared.work.WorkStep.{WorkStep}
use low.act_states.specs.declared.work.WorkStep.TheVariants.{Goes, Acquires, Refuses, Answers, Changes}
use low.stage_look.specs.Shown.{entry_within, shown_in}
use low.stage_look.specs.Lookup.{found_at, look_end, place_end}
use low.stage_look.specs.declared.look.Look.{Look}
use low.stage_look.specs.declared.look.Look.TheVariants.{AtRoot, AtLeaf, AtEntry}
use low.stage_look.specs.declared.look.Found.{Found}
use low.call_stages.specs.View.{Core}
use low.call_stages.specs.Cores.{absorbed, core_after}
use low.call_stages.specs.Fits.{IsCore}
use low.call_stages.specs.Steps.{landed}
use low.call_stages.specs.declared.stages.ActiveCall.{ActiveCall}
use low.call_stages.specs.declared.stages.Stage.{Stage}
use low.call_stages.specs.declared.stages.Stage.TheVariants.{Enter, Undecided}
use Rattle.straight_looks.specs.Outcomes.{IsStanding}
use Rattle.straight_looks.specs.Standing.{going, looks}
use Rattle.straight_acts.specs.Acting.{IsFree}
use Rattle.straight_maps.specs.Mapping.{HasFree, IsFreeAt, IsFreeIn, ShowsFree, placed}

-- a call stands where it was left, and the core is the one of the words
pub stood : (own : Own) (active : Option ActiveCall) (a : ActiveCall) (c : Core)
    → active ≡ Some a → c ≡ record { own = own; active = Some a } → IsCore c → IsStanding own active c
stood own active a c stands is fits = record { core = rw (is, stands) refl; fits = fits; in_call = rw stands refl }

-- where a step takes a core does not depend on the stage that its call leaves
from_stage : (own : Own) (a : ActiveCall) (s t : Stage) (step : WorkStep)
    → core_after own (landed (record a { stage = s }) step) ≡ core_after own (landed (record a { stage = t }) step)
from_stage own a s t (Goes work) = refl
from_stage own a s t (Acquires count work) = refl
from_stage own a s t (Refuses r tail) = refl
from_stage own a s t (Answers v drawn tail) = refl
from_stage own a s t (Changes r change drawn tail) = refl

-- a place that holds nothing is one of a target that is to be free
met : (own : Own) (call : Call) (ks : List Capability) (f : Found) (e : Entry) → IsFree e
    → met_free own call ks None f e ≡ act_begun own call ks None (Some f)
met own call ks f Free free = refl
met own call ks f (Held k) free = absurd free
met own call ks f (Closing core) free = absurd free
met own call ks f (Quiescing stamp) free = refl

-- a word that shows one
pub shows_free : (w : ℕ) (e : Entry) → entry_of_word w ≡ Some e → IsFree e → ShowsFree w e
shows_free w e is free = record { shown = is; free = free }

-- the place of an entry whose word shows that it holds nothing
pub free_in : (node entry w : ℕ) (value : Entry) → ShowsFree w value → IsFreeIn node entry w (found_at node entry w value)
free_in node entry w value is = record { found = λ frames. rw is.shown (by value is.free frames); free = is.free }
  where
    by : (e : Entry) → IsFree e → (frames : ℕ) → place_end node entry w (entry_within frames (Some e)) ≡ Done (found_at node entry w e)
    by Free free frames = refl
    by (Held k) free frames = absurd free
    by (Closing core) free frames = absurd free
    by (Quiescing stamp) free frames = refl

-- where a look-up leads that stands at such a place
free_found : (look : Look) (w : ℕ) (place : Found) (frames : ℕ) → IsFreeAt look w place
    → look_end look w (shown_in frames w) ≡ Done place
free_found (AtRoot root number) w place frames is = absurd is
free_found (AtLeaf leaf number) w place frames is = is.found frames
free_found (AtEntry root entry) w place frames is = is.found frames

free_value : (look : Look) (w : ℕ) (place : Found) → IsFreeAt look w place → IsFree place.value
free_value (AtRoot root number) w place is = absurd is
free_value (AtLeaf leaf number) w place is = is.free
free_value (AtEntry root entry) w place is = is.free

-- it was found
pub placed_at : (own : Own) (call : Call) (w steps : ℕ) (look : Look) (place : Found) (ks : List Capability) (b c : Core)
    → b ≡ looks own call steps look ks → c ≡ absorbed b w → HasFree call ks → IsFreeAt look w place → c ≡ placed own call steps ks place
unfolding placed
placed_at own call w steps look place ks b c at goes free is =
    rw (goes, at, free_found look w place own.layout.frames is, free.next, met own call ks place place.value (free_value look w place is))
    (from_stage own (going call steps Enter ks []) (Undecided (Lookup look)) Enter (act_begun own call ks None (Some place)))
