-- The acts by which a core enters a component through a gate, and leaves it.
use Rattle.std.specs.Prelude.{◌≡◌, ◌+◌, ◌-◌, ◌<◌, ◌≤◌, ◌==◌, ◌^◌, if◌then◌else◌}
use Rattle.stage_tcap.specs.{ℕ, min, Bool, true, false, ltb as nat_lt, Option, Some, None}
use Rattle.stage_tcap.specs.{Ok, Nothing as nothing, stack_of_word, StackWord, EntryAt, LiveAt, ClockAt, Shape, Move, LoadOf}
use Rattle.stage_tcap.specs.{AddOf}
use Rattle.stage_sweep.specs.frame_words.specs.{Comp.CompFits, declared.live_word.LiveWord.LiveWord}
use Rattle.act_states.specs.{declared.invocations.Invoking.Invoking, declared.invocations.InvokingAt.InvokingAt}
use Rattle.act_states.specs.{declared.invocations.Returning.Returning, declared.invocations.ReturningAt.ReturningAt}
use Rattle.act_states.specs.{declared.own.OwnChange.TheVariants.Works, declared.refusals.Refusal.TheVariants.Raced}
use Rattle.act_states.specs.{declared.refusals.Refusal.TheVariants.Busy, declared.refusals.Refusal.TheVariants.Dead as is_dead}
use Rattle.act_states.specs.{declared.work.Tail.TheVariants.Push, declared.work.Tail.TheVariants.Pop, declared.work.WorkStep.WorkStep}
use Rattle.act_states.specs.{declared.work.WorkStep.TheVariants.Changes, WorkSteps.refuse}
use Rattle.stage_thread.specs.declared.stack.Push.TheVariants as push
use Rattle.stage_thread.specs.declared.stack.Pop.TheVariants as pop

-- what an entering names is of the machine, and there is a place above the top of the stack
abbrev pub InvokingAtFits : Shape → InvokingAt → Type 0
InvokingAtFits s InvokingAt.LoadTable = Unit {0}
InvokingAtFits s (InvokingAt.LoadPages table) = table < s.frames
InvokingAtFits s (InvokingAt.LoadComp table pages) = (table < s.frames) × (pages < s.frames)
InvokingAtFits s (InvokingAt.LoadLive table pages life) = (table < s.frames) × (pages < s.frames) × CompFits life

pub record InvokingFits (s : Shape) (m : Invoking) : Type 0 where
  pub comp : m.comp < s.frames
  pub thread : m.thread < s.frames
  pub core : m.core < s.cores
  pub some_depth : 1 ≤ m.depth
  pub most_depth : m.depth < 16
  pub frames : m.frames ≡ s.frames
  pub few : m.frames ≤ 512
  pub at : InvokingAtFits s m.at

-- its steps: the component's table, its pages and its liveness number are loaded, and that number's word
abbrev pub invoking_at : ℕ → InvokingAt → Move
invoking_at f InvokingAt.LoadTable = LoadOf (EntryAt f 0)
invoking_at f (InvokingAt.LoadPages table) = LoadOf (EntryAt f 1)
invoking_at f (InvokingAt.LoadComp table pages) = LoadOf (EntryAt f 2)
invoking_at f (InvokingAt.LoadLive table pages life) = LoadOf (LiveAt life.number)

abbrev pub invoking_move : Invoking → Move
invoking_move m = invoking_at m.comp m.at

-- whether the next step is the load of the number's word
abbrev pub is_entering : InvokingAt → Bool
is_entering InvokingAt.LoadTable = false
is_entering (InvokingAt.LoadPages table) = false
is_entering (InvokingAt.LoadComp table pages) = false
is_entering (InvokingAt.LoadLive table pages life) = true

-- the steps that are still to come with the stores of the push, and with the acquiring and the commit of the count where it is not
-- acquired yet
abbrev pub invoking_left : InvokingAt → ℕ
invoking_left InvokingAt.LoadTable = 9
invoking_left (InvokingAt.LoadPages table) = 8
invoking_left (InvokingAt.LoadComp table pages) = 7
invoking_left (InvokingAt.LoadLive table pages life) = 3

-- the frame of the machine that a word names by its number, if it names one
abbrev pub frame_in : ℕ → ℕ → Option ℕ
frame_in frames found = if nat_lt found frames then Some found else None

-- the frame of the machine that the word of a place on a stack names, if it names one
abbrev pub frame_of_place : ℕ → Option ℕ → Option ℕ
frame_of_place frames None = None
frame_of_place frames (Some f) = if nat_lt f frames then Some f else None

abbrev pub frame_of_stack : ℕ → Option StackWord → Option ℕ
frame_of_stack frames None = None
frame_of_stack frames (Some v) = frame_of_place frames v.0

abbrev pub below_in : ℕ → ℕ → Option ℕ
below_in frames found = frame_of_stack frames (stack_of_word found)

-- the load of the number's word decides: the core works in the component from then on, which is still to be pushed
abbrev pub enters_if : Invoking → ℕ → ℕ → Bool → WorkStep
enters_if m table pages lives =
    if lives then Changes (Ok nothing) (Works m.comp table pages (min (m.depth + 1) (2 ^ 8 - 1))) None
    (Push (push.AtStack m.thread m.core m.depth m.comp))
    else refuse is_dead

abbrev pub enters_number : Invoking → ℕ → ℕ → LiveWord → WorkStep
enters_number m table pages LiveWord.Free = refuse is_dead
enters_number m table pages (LiveWord.Live epoch f) = enters_if m table pages (epoch == m.epoch)
enters_number m table pages (LiveWord.Closing epoch by) = refuse (Busy by)
enters_number m table pages (LiveWord.Dead epoch stamp) = refuse is_dead

abbrev pub enters_live : Invoking → ℕ → ℕ → Option LiveWord → WorkStep
enters_live m table pages None = refuse Raced
enters_live m table pages (Some shown) = enters_number m table pages shown

-- what a leaving names is of the machine, and there is a component below the top of the stack
abbrev pub ReturningAtFits : Shape → ReturningAt → Type 0
ReturningAtFits s ReturningAt.LoadBelow = Unit {0}
ReturningAtFits s (ReturningAt.LoadTable comp) = comp < s.frames
ReturningAtFits s (ReturningAt.LoadPages comp table) = (comp < s.frames) × (table < s.frames)
ReturningAtFits s (ReturningAt.Draw comp table pages) = (comp < s.frames) × (table < s.frames) × (pages < s.frames)

pub record ReturningFits (s : Shape) (m : Returning) : Type 0 where
  pub top : m.top < s.frames
  pub thread : m.thread < s.frames
  pub core : m.core < s.cores
  pub some_depth : 2 ≤ m.depth
  pub most_depth : m.depth ≤ 16
  pub frames : m.frames ≡ s.frames
  pub few : m.frames ≤ 512
  pub at : ReturningAtFits s m.at

-- its steps: the component below the top is loaded, its table and its pages, and a stamp is drawn
abbrev pub returning_at : ℕ → ℕ → ReturningAt → Move
returning_at thread depth ReturningAt.LoadBelow = LoadOf (EntryAt thread (depth - 1))
returning_at thread depth (ReturningAt.LoadTable comp) = LoadOf (EntryAt comp 0)
returning_at thread depth (ReturningAt.LoadPages comp table) = LoadOf (EntryAt comp 1)
returning_at thread depth (ReturningAt.Draw comp table pages) = AddOf ClockAt 1

abbrev pub returning_move : Returning → Move
returning_move m = returning_at m.thread m.depth m.at

-- whether the next step draws the stamp
abbrev pub is_leaving : ReturningAt → Bool
is_leaving ReturningAt.LoadBelow = false
is_leaving (ReturningAt.LoadTable comp) = false
is_leaving (ReturningAt.LoadPages comp table) = false
is_leaving (ReturningAt.Draw comp table pages) = true

-- the steps that are still to come with the stores of the pop, and with the acquiring and the commit of the count where it is not
-- acquired yet
abbrev pub returning_left : ReturningAt → ℕ
returning_left ReturningAt.LoadBelow = 9
returning_left (ReturningAt.LoadTable comp) = 8
returning_left (ReturningAt.LoadPages comp table) = 7
returning_left (ReturningAt.Draw comp table pages) = 3

-- the draw decides: the core works in the component below from then on, and the top is still to be popped
abbrev pub left_to : Returning → ℕ → ℕ → ℕ → ℕ → WorkStep
left_to m comp table pages stamp =
    Changes (Ok nothing) (Works comp table pages (m.depth - 1)) (Some stamp) (Pop (pop.AtThread m.thread m.core m.depth))
