-- The stores by which a core pushes a component onto the stack of the thread that it runs, and pops one.
use Rattle.std.specs.Prelude.{◌+◌, ◌-◌, ◌<◌, ◌≤◌, Some, None}
use Rattle.word_map.specs.{EntryAt, Shape, Move, StoreOf}
use Rattle.tcap_words.specs.{word_of_stack, word_of_thread}
use Rattle.word_map.specs.spk_nums.specs.declared.steps.StageEnd.TheVariants.{Going, Done}
use Rattle.stage_thread.specs.{declared.stack.Push.Push, declared.stack.Pop.Pop}
use Rattle.{word_map.specs.spk_nums.specs.declared.steps.StageEnd.StageEnd}
use Rattle.{tcap_words.specs.declared.thread_word.ThreadWord.TheVariants.Running}

-- there is a place above the top of the thread's stack
abbrev pub PushFits : Shape → Push → Type 0
PushFits s (Push.AtStack t core depth comp) = (t < s.frames) × (1 ≤ depth) × (depth < 16)
PushFits s (Push.AtThread t core depth) = (t < s.frames) × (1 ≤ depth) × (depth < 16)

-- the next step stores the component above the top, then the thread's word with the depth raised
abbrev pub push_move : Push → Move
push_move (Push.AtStack t core depth comp) = StoreOf (EntryAt t (depth + 1)) (word_of_stack (record { 0 = Some comp }))
push_move (Push.AtThread t core depth) = StoreOf (EntryAt t 0) (word_of_thread (Running core (depth + 1)))

-- what a step leads to, and where the push stands after it
abbrev pub push_end : Push → StageEnd (Unit {0})
push_end (Push.AtStack t core depth comp) = Going
push_end (Push.AtThread t core depth) = Done tt

abbrev pub push_after : Push → Push
push_after (Push.AtStack t core depth comp) = Push.AtThread t core depth
push_after (Push.AtThread t core depth) = Push.AtThread t core depth

-- there is a component below the top of the thread's stack
abbrev pub PopFits : Shape → Pop → Type 0
PopFits s (Pop.AtThread t core depth) = (t < s.frames) × (2 ≤ depth) × (depth ≤ 16)
PopFits s (Pop.AtStack t depth) = (t < s.frames) × (2 ≤ depth) × (depth ≤ 16)

-- the next step stores the thread's word with the depth lowered, then clears what was the top
abbrev pub pop_move : Pop → Move
pop_move (Pop.AtThread t core depth) = StoreOf (EntryAt t 0) (word_of_thread (Running core (depth - 1)))
pop_move (Pop.AtStack t depth) = StoreOf (EntryAt t depth) (word_of_stack (record { 0 = None }))

-- what a step leads to, and where the pop stands after it
abbrev pub pop_end : Pop → StageEnd (Unit {0})
pop_end (Pop.AtThread t core depth) = Going
pop_end (Pop.AtStack t depth) = Done tt

abbrev pub pop_after : Pop → Pop
pop_after (Pop.AtThread t core depth) = Pop.AtStack t depth
pop_after (Pop.AtStack t depth) = Pop.AtStack t depth
