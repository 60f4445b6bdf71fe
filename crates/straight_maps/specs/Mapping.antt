-- Where the core stands whose call maps a page.
use Rattle.std.specs.Prelude.{◌≡◌, ◌%◌, ℕ, Bool, true, List, [], Option, Some, None}
use Rattle.spk_nums.specs.Capability.{Capability}
use Rattle.spk_nums.specs.declared.calls.Call.{Call}
use Rattle.spk_nums.specs.declared.kinds.FrameKind.TheVariants.{User}
use Rattle.spk_nums.specs.declared.kinds.Kind.TheVariants.{Page}
use Rattle.straight_looks.specs.step_starts.specs as low
use Rattle.spk_nums.specs.declared.steps.StageEnd.TheVariants.{Done}
use low.kernel_rules.specs.Access.{Target}
use low.call_plans.specs.After.{next_of, NextFree}
use low.call_plans.specs.PlanOf.{plan_for}
use low.act_states.specs.Acts.{act_begun, fills_at, next_work, scans, stamp_in}
use low.act_states.specs.declared.own.Own.{Own}
use low.act_states.specs.declared.work.Act.{Act as ActType}
use low.act_states.specs.declared.work.Act.TheVariants as act
use low.act_states.specs.declared.work.Work.TheVariants.{Scan}
use low.entry_words.specs.EntryWord.{entry_of_word}
use low.entry_words.specs.declared.entry.Entry.{Entry}
use low.frame_words.specs.Frame.{frame_of_word}
use low.frame_words.specs.declared.frame_word.FrameWord.{FrameWord}
use low.stage_look.specs.Shown.{shown_in}
use low.stage_look.specs.Lookup.{place_end}
use low.stage_look.specs.declared.look.Look.{Look}
use low.stage_look.specs.declared.look.Look.TheVariants.{AtRoot, AtLeaf, AtEntry}
use low.stage_look.specs.declared.look.Found.{Found}
use low.stage_quiet.specs.Scan.{quiet_scan}
use low.stage_quiet.specs.declared.quiet.Quiet.{Quiet}
use low.call_stages.specs.View.{Core}
use low.call_stages.specs.Cores.{core_after}
use low.call_stages.specs.Steps.{landed}
use low.call_stages.specs.declared.stages.Stage.TheVariants.{Enter, Undecided}
use Rattle.straight_looks.specs.Standing.{going, stands}
use Rattle.straight_acts.specs.Acting.{IsFree}

-- a core whose call scans before this act, and has no count
abbrev pub scanning : Own → Call → ℕ → Quiet → ActType → List Capability → Core
scanning own call steps q act found = stands own call steps (Undecided (Scan q act)) found

-- a core whose call starts this act, after this scan where it waits for one
abbrev pub starting : Own → Call → ℕ → Option Quiet → ActType → List Capability → Core
starting own call steps None act found = stands own call steps (Undecided (next_work own.core 0 act)) found
starting own call steps (Some q) act found = scanning own call steps q act found

-- a core after one step more of a call whose names have led to these and whose target was found
unfoldable pub placed : Own → Call → ℕ → List Capability → Found → Core
placed own call steps found f = core_after own (landed (going call steps Enter found []) (act_begun own call found None (Some f)))

-- a call whose names have led to these has its target looked up, which is to be free
pub record HasFree (call : Call) (found : List Capability) : Type 0 where
  pub target : Target
  pub next : next_of (plan_for call) found ≡ NextFree target

-- what a word shows is a place that holds nothing
pub record ShowsFree (word : ℕ) (value : Entry) : Type 0 where
  pub shown : entry_of_word word ≡ Some value
  pub free : IsFree value

-- the word of an entry of a node shows this place, which holds nothing, whatever frames the machine has
pub record IsFreeIn (node entry word : ℕ) (place : Found) : Type 0 where
  pub found : (frames : ℕ) → place_end node entry word (shown_in frames word) ≡ Done place
  pub free : IsFree place.value

-- the word at which a look-up stands is that of such a place
abbrev pub IsFreeAt : Look → ℕ → Found → Type 0
IsFreeAt (AtRoot root number) word place = ⊥
IsFreeAt (AtLeaf leaf number) word place = IsFreeIn leaf (number % 64) word place
IsFreeAt (AtEntry root entry) word place = IsFreeIn root entry word place

-- the mapping of a page in a place
abbrev pub mapping : Capability → Found → ActType
mapping k f = act.Map (record { node = f.node; entry = f.entry; word = f.word; cap = k })

-- a call whose names have led to these has its target looked up, and fills it with this mapping where it is free, after the scan that it
-- waits for: of the other cores and of all flushes
pub record Maps (own : Own) (call : Call) (found : List Capability) (k : Capability) : Type 0 where
  pub free : HasFree call found
  pub page : k.kind ≡ Page
  pub begins :
      (f : Found)
      → act_begun own call found None (Some f)
      ≡ scans own.core (quiet_scan (stamp_in f.value) own.core own.layout.cores true) (mapping k f)

-- and fills it with this capability where it is free, after the scan that it waits for: of the other cores, and where it is a place of a
-- page table of all flushes
pub record FillsWith (own : Own) (call : Call) (found : List Capability) (k : Capability) (page : Bool) : Type 0 where
  pub free : HasFree call found
  pub begins : (f : Found) → act_begun own call found None (Some f) ≡ fills_at own k page f

-- a word is that of a user frame that no core has marked
pub record IsUserWord (word : ℕ) : Type 0 where
  pub value : FrameWord
  pub shown : frame_of_word word ≡ Some value
  pub user : value.kind ≡ User
  pub unmarked : value.mark ≡ None
