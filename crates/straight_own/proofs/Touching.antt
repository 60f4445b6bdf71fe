-- What the words make of a core whose call touches a page.
use Rattle.std.proofs.Common.{◌≡◌, ℕ, ◌+◌, [], Option, Some, None, refl, subst}
use Rattle.spk_nums.specs.Capability.{Capability}
use Rattle.spk_nums.specs.declared.calls.Call.{Call}
use Rattle.spk_nums.specs.declared.calls.Call.TheVariants.{Touch}
use Rattle.spk_nums.specs.declared.replies.Reply.TheVariants.{Ok}
use Rattle.spk_nums.specs.declared.replies.Value.{Value}
use Rattle.spk_nums.specs.declared.translations.Translation.{Translation}
use Rattle.spk_nums.specs.declared.steps.StageEnd.TheVariants.{Going}
use Rattle.straight_looks.specs.step_starts.specs as low
use low.kernel_rules.specs.MemoryCalls.{translated}
use low.act_states.specs.OwnChanges.{own_changed}
use low.act_states.specs.Touches.{TouchFits, mapping_of}
use low.act_states.specs.declared.own.Own.{Own}
use low.act_states.specs.declared.own.OwnChange.TheVariants.{Caches}
use low.act_states.specs.declared.touches.Touching.{Touching}
use low.act_states.specs.declared.work.Act.TheVariants as act
use low.act_states.specs.declared.work.Work.TheVariants.{Act}
use low.stage_look.specs.Lookup.{LookFits, look_after, look_end}
use low.stage_look.specs.Shown.{shown_in}
use low.stage_look.specs.declared.look.Look.{Look}
use low.stage_look.specs.declared.look.Found.{Found}
use low.call_stages.specs.View.{Core}
use low.call_stages.specs.Cores.{absorbed, told_of_step}
use low.call_stages.specs.Fits.{IsCore, IsOwn}
use low.call_stages.specs.declared.stages.Absorbed.{Absorbed}
use low.call_stages.specs.declared.stages.ActiveCall.{ActiveCall}
use low.call_stages.specs.declared.stages.Stage.TheVariants.{Undecided}
use Rattle.straight_looks.proofs.Fitting.{act_fits}
use Rattle.straight_looks.specs.Outcomes.{Fell}
use Rattle.straight_looks.specs.Standing.{Holds, IsAnswered, acts, going, onward}
use Rattle.straight_own.specs.Touching.{IsTouching}

-- after the question whether the core's component lives
pub touch_asked : (own : Own) (call : Call) (v : ℕ) (m : Touching) (c : Core) → call ≡ Touch v → IsTouching own v m
    → c ≡ onward own call 2 [] → c ≡ acts own call 3 (act.Touch m) []
unfolding onward
touch_asked own call v m c named is on = rw (on, named, is) refl

-- it is on the core's machine, and so is what it looks up
touch_fits : (own : Own) (call : Call) (steps : ℕ) (m : Touching) (c : Core) → c ≡ acts own call steps (act.Touch m) [] → IsCore c
    → TouchFits own.layout m
touch_fits own call steps m c is fits = act_fits own call steps (act.Touch m) [] c is fits

pub touch_look_fits : (own : Own) (call : Call) (steps : ℕ) (m : Touching) (c : Core) → c ≡ acts own call steps (act.Touch m) [] → IsCore c
    → LookFits own.layout m.look
touch_look_fits own call steps m c is fits = (touch_fits own call steps m c is fits).look

-- a translation that is cached is answered, whatever was found
pub touch_cached : (own : Own) (call : Call) (steps w : ℕ) (m : Touching) (item : Translation) (v : Value) (b c : Core)
    → b ≡ acts own call steps (act.Touch m) [] → c ≡ absorbed b w → m.cached ≡ Some item → v ≡ translated item
    → IsAnswered own (Ok v) c
touch_cached own call steps w m item v b c at goes some is = record {
  call = call;
  steps = steps + 1;
  found = [];
  drawn = None;
  is = rw (goes, at, some, is) refl;
}

-- the link of the root
pub touch_followed : (own : Own) (call : Call) (steps w : ℕ) (m : Touching) (look : Look) (b c : Core)
    → b ≡ acts own call steps (act.Touch m) [] → IsCore b → c ≡ absorbed b w → m.cached ≡ None
    → look_end m.look w (shown_in own.layout.frames w) ≡ Going → look ≡ look_after m.look (shown_in own.layout.frames w)
    → c ≡ acts own call (steps + 1) (act.Touch (record m { look = look })) []
touch_followed own call steps w m look b c at fits goes none going is =
    rw (goes, at, none, is, (touch_fits own call steps m b at fits).all, going) refl

-- the entry of the page: its mapping is answered, and cached
pub touch_met : (own own' : Own) (call : Call) (steps w : ℕ) (m : Touching) (place : Found) (k : Capability) (item : Translation) (v : Value)
    (b c : Core)
    → b ≡ acts own call steps (act.Touch m) [] → IsCore b → c ≡ absorbed b w → m.cached ≡ None → Holds own m.look w place k
    → item ≡ mapping_of m k → own' ≡ own_changed own (Caches item) → v ≡ translated item
    → IsAnswered own' (Ok v) c
touch_met own own' call steps w m place k item v b c at fits goes none holds maps caches is = record {
  call = call;
  steps = steps + 1;
  found = [];
  drawn = None;
  is =
      rw (goes, at, is, caches, maps, none, (touch_fits own call steps m b at fits).all, holds.found, holds.held) refl;
}

-- it stands where it stood before the step that has found this word
pub touch_rests : (own : Own) (active : Option ActiveCall) (call : Call) (steps : ℕ) (m : Touching) (b c : Core) (said : Absorbed) (w : ℕ)
    → active ≡ Some (going call steps (Undecided (Act (act.Touch m))) [] []) → b ≡ acts own call steps (act.Touch m) [] → IsCore b
    → c ≡ absorbed b w → said ≡ told_of_step b w → Fell own active c said w
touch_rests own active call steps m b c said w stands at fits goes tells = record {
  core = rw (goes, at, stands) refl;
  told = rw (tells, at, stands) refl;
  fits = rw stands (subst IsCore at fits);
  in_call = rw stands refl;
}

-- what a core has of its own fits with one translation more
pub cached_fits : (own own' : Own) (item : Translation) → own' ≡ own_changed own (Caches item) → IsOwn own → IsOwn own'
cached_fits own own' item is h = rw is (record {
  shape = h.shape;
  core = h.core;
  thread = h.thread;
  some_depth = h.some_depth;
  most_depth = h.most_depth;
  comp = h.comp;
  table = h.table;
  pages = h.pages;
  tcap = h.tcap;
  most_calls = h.most_calls;
  most_epochs = h.most_epochs;
  made = h.made;
})
