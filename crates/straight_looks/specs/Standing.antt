-- Where the core stands that makes the steps of a straight call.
use Rattle.std.specs.Prelude.{◌≡◌, ℕ, List, [], Option, Some, None}
use Rattle.spk_nums.specs.Capability.{Capability}
use Rattle.spk_nums.specs.declared.calls.Call.{Call}
use Rattle.spk_nums.specs.declared.replies.Reply.{Reply}
use Rattle.step_starts.specs.act_states.specs.declared.own.Own.{Own}
use Rattle.step_starts.specs.act_states.specs.declared.work.Tail.TheVariants.{Nothing}
use Rattle.step_starts.specs.act_states.specs.declared.work.Act.{Act as ActType}
use Rattle.step_starts.specs.act_states.specs.declared.work.Work.TheVariants.{Lookup, Act}
use Rattle.step_starts.specs.kernel_rules.specs.Access.{Want}
use Rattle.step_starts.specs.entry_words.specs.declared.entry.Entry.TheVariants.{Held}
use Rattle.spk_nums.specs.declared.steps.StageEnd.TheVariants.{Done}
use Rattle.step_starts.specs.act_states.specs.Lookups.{met_name}
use Rattle.step_starts.specs.act_states.specs.declared.lookups.Met.TheVariants.{Finds}
use Rattle.step_starts.specs.stage_look.specs.Shown.{shown_in}
use Rattle.step_starts.specs.stage_look.specs.Lookup.{look_end}
use Rattle.step_starts.specs.stage_look.specs.declared.look.Found.{Found}
use Rattle.step_starts.specs.stage_look.specs.declared.look.Look.{Look}
use Rattle.step_starts.specs.stage_pins.specs.declared.held.Acquired.{Acquired}
use Rattle.step_starts.specs.call_stages.specs.View.{Core}
use Rattle.step_starts.specs.call_stages.specs.Cores.{core_after, own_decided}
use Rattle.step_starts.specs.call_stages.specs.Steps.{landed, next_by}
use Rattle.step_starts.specs.call_stages.specs.declared.stages.ActiveCall.{ActiveCall}
use Rattle.step_starts.specs.call_stages.specs.declared.stages.Stage.{Stage}
use Rattle.step_starts.specs.call_stages.specs.declared.stages.Stage.TheVariants.{Enter, Undecided, Decided, Leave}

-- a call after so many steps, at a stage, whose names have led to these and which has acquired these counts; it has read no epoch
abbrev pub going : Call → ℕ → Stage → List Capability → List Acquired → ActiveCall
going call steps stage found counts = record { steps = steps; stage = stage; found = found; read = None; counts = counts; call = call }

-- a core in such a call, with no count
abbrev pub stands : Own → Call → ℕ → Stage → List Capability → Core
stands own call steps stage found = record { own = own; active = Some (going call steps stage found []) }

-- a core whose call looks a place up
abbrev pub looks : Own → Call → ℕ → Look → List Capability → Core
looks own call steps look found = stands own call steps (Undecided (Lookup look)) found

-- a core whose call makes this act, and has no count
abbrev pub acts : Own → Call → ℕ → ActType → List Capability → Core
acts own call steps act found = stands own call steps (Undecided (Act act)) found

-- a core after one step more of a call that goes on to what comes next of it by its plan
unfoldable pub onward : Own → Call → ℕ → List Capability → Core
onward own call steps found = core_after own (landed (going call steps Enter found []) (next_by own (going call steps Enter found [])))

-- the word at which a look-up stands shows a place that holds this
pub record Holds (own : Own) (look : Look) (word : ℕ) (place : Found) (k : Capability) : Type 0 where
  pub found : look_end look word (shown_in own.layout.frames word) ≡ Done place
  pub held : place.value ≡ Held k

-- it leads a name that wants this to a capability
pub record LeadsTo (own : Own) (look : Look) (word : ℕ) (want : Want) (k : Capability) : Type 0 where
  pub place : Found
  pub found : look_end look word (shown_in own.layout.frames word) ≡ Done place
  pub finds : met_name want place.value ≡ Finds k

-- a core whose call is decided with this reply, has committed its counts and has nothing more to store, and what the core had of its own
-- before that reply was counted
pub record IsAnswered (own : Own) (r : Reply) (c : Core) : Type 0 where
  pub call : Call
  pub steps : ℕ
  pub found : List Capability
  pub drawn : Option ℕ
  pub is : c ≡ stands (own_decided own r) call steps (Decided r drawn Nothing) found

-- and has loaded the clock, which gives this stamp
pub record IsStamped (own : Own) (r : Reply) (stamp : ℕ) (c : Core) : Type 0 where
  pub call : Call
  pub steps : ℕ
  pub found : List Capability
  pub is : c ≡ stands (own_decided own r) call steps (Leave r stamp) found
