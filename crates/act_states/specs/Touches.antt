-- The act that touches a page of the core's own pages.
use Rattle.std.specs.Prelude.{◌≡◌, ◌%◌, ◌||◌, if◌then◌else◌}
use Rattle.call_plans.specs.kernel_invariant.specs.kernel_rules.specs.{ℕ, Bool, true, false, leb as nat_le}
use Rattle.call_plans.specs.kernel_invariant.specs.kernel_rules.specs.{is_some, Option, Some, None, Capability, Reply, StageEnd}
use Rattle.call_plans.specs.kernel_invariant.specs.kernel_rules.specs.{Translation, translation_of, translated}
use Rattle.stage_sweep.specs.stage_look.specs.{shown_in, LookFits, look_end, look_after}
use Rattle.stage_sweep.specs.stage_look.specs.declared.look.Look.TheVariants.{AtRoot, AtLeaf, AtEntry}
use Rattle.act_states.specs.{declared.own.Own.Own, declared.own.OwnChange.TheVariants.Caches, declared.refusals.Refusal.Refusal}
use Rattle.act_states.specs.{declared.refusals.Refusal.TheVariants.NoSlot, declared.refusals.Refusal.TheVariants.Fault}
use Rattle.act_states.specs.{declared.refusals.Refusal.TheVariants.Raced, declared.touches.Touching.Touching}
use Rattle.act_states.specs.{declared.work.Act.TheVariants.Touch as touch_act, declared.work.Tail.TheVariants.Nothing}
use Rattle.act_states.specs.{declared.work.Work.TheVariants.Act, declared.work.WorkStep.WorkStep, declared.work.WorkStep.TheVariants.Goes}
use Rattle.act_states.specs.{declared.work.WorkStep.TheVariants.Answers, declared.work.WorkStep.TheVariants.Changes, Refusals.refusal_of}
use Rattle.{stage_sweep.specs.entry_words.specs.declared.entry.Entry.Entry, stage_sweep.specs.word_map.specs.Places.Shape}
use Rattle.{stage_sweep.specs.stage_look.specs.declared.look.Look.Look, stage_sweep.specs.stage_look.specs.declared.look.Found.Found}
use Rattle.{act_states.specs.WorkSteps.refuse}

-- a touch is on a machine of so many frames, and what it loads is of it
pub record TouchFits (s : Shape) (m : Touching) : Type 0 where
  pub look : LookFits s m.look
  pub all : m.frames ≡ s.frames

-- a look-up that leads to no slot leads to no page
abbrev pub fault_of : Reply → Refusal
fault_of Reply.NoSlot = Fault
fault_of r = refusal_of r

-- the translation that a mapping tells
abbrev pub mapping_of : Touching → Capability → Translation
mapping_of m k = record { pages = m.pages; page = m.page; frame = k.frame; flags = record { 0 = k.arg % 4 } }

-- what the entry of its page leads to: a mapping is answered, and its translation cached
abbrev pub meets_page : Touching → Entry → WorkStep
meets_page m Entry.Free = refuse Fault
meets_page m (Entry.Held k) = Changes (Reply.Ok (translated (mapping_of m k))) (Caches (mapping_of m k)) None Nothing
meets_page m (Entry.Closing by) = refuse Raced
meets_page m (Entry.Quiescing stamp) = refuse Fault

-- what a touch takes from a step of its look-up, which stands here after it
abbrev pub touch_end : Touching → Look → StageEnd Found → WorkStep
touch_end m look StageEnd.Going = Goes (Act (touch_act (record m { look = look })))
touch_end m look (StageEnd.Decided r) = refuse (fault_of r)
touch_end m look (StageEnd.Done f) = meets_page m f.value
touch_end m look (StageEnd.Refuse r) = refuse (fault_of r)

-- a translation that is cached is answered, whatever was found
abbrev pub touched : Touching → ℕ → Option Translation → WorkStep
touched m found (Some item) = Answers (translated item) None Nothing
touched m found None = touch_end m (look_after m.look (shown_in m.frames found)) (look_end m.look found (shown_in m.frames found))

abbrev pub took_touch : Touching → ℕ → WorkStep
took_touch m found = touched m found m.cached

-- whether the next step is the load of the page's entry
abbrev pub is_at_page : Look → Bool
is_at_page (AtRoot root number) = false
is_at_page (AtLeaf leaf number) = true
is_at_page (AtEntry root index) = true

-- whether it is the one that decides `ok`
abbrev pub is_answering : Touching → Bool
is_answering m = is_some m.cached || is_at_page m.look

-- the steps that are still to come
abbrev pub touch_left : Look → ℕ
touch_left (AtRoot root number) = 2
touch_left (AtLeaf leaf number) = 1
touch_left (AtEntry root index) = 1

-- a page of the core's own pages is touched; one past 4,095 has no slot
abbrev pub touching : Own → ℕ → Touching
touching own v = record {
  look = AtRoot own.pages v;
  pages = own.pages;
  page = v;
  frames = own.layout.frames;
  cached = translation_of own.cached own.pages v;
}

abbrev pub touches_if : Bool → Own → ℕ → WorkStep
touches_if within own v = if within then Goes (Act (touch_act (touching own v))) else refuse NoSlot

abbrev pub touches : Own → ℕ → WorkStep
touches own v = touches_if (nat_le v 4095) own v
