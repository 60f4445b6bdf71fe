-- Whether the object in a frame is empty, judged by one of its words after another.
use Rattle.std.specs.Prelude.{ℕ, ◌==◌, nat_lt, Bool, true, false, Option, Some, None, if◌then◌else◌}
use Rattle.tcap_words.specs.{head_of_word, stack_of_word, thread_of_word}
use Rattle.stage_look.specs.spk_nums.specs.declared.kinds.FrameKind.TheVariants.{Untyped, User, Kernel}
use Rattle.stage_look.specs.spk_nums.specs.declared.kinds.Obj.TheVariants.{Blank, Table, Leaf, Pages, Pleaf, Comp, Thread, Tcap}
use Rattle.stage_look.specs.spk_nums.specs.declared.steps.StageEnd.TheVariants.{Going, Decided, Done, Refuse}
use Rattle.tcap_words.specs.{declared.head_word.HeadWord.HeadWord, declared.stack_word.StackWord.StackWord}
use Rattle.tcap_words.specs.{declared.thread_word.ThreadWord.ThreadWord, declared.thread_word.ThreadWord.TheVariants.Idle}
use Rattle.tcap_words.specs.{declared.thread_word.ThreadWord.TheVariants.Running, declared.thread_word.ThreadWord.TheVariants.Claimed}
use Rattle.stage_look.specs.{Shown.shown_in, declared.look.Found.Found}
use Rattle.{stage_look.specs.spk_nums.specs.declared.kinds.FrameKind.FrameKind, stage_look.specs.spk_nums.specs.declared.kinds.Obj.Obj}
use Rattle.{stage_look.specs.spk_nums.specs.declared.replies.Reply.Reply, stage_look.specs.spk_nums.specs.declared.steps.StageEnd.StageEnd}
use Rattle.{stage_look.specs.entry_words.specs.declared.entry.Entry.Entry, stage_sweep.specs.declared.empty.Owned.Owned}

-- how many words of an object are looked at: a node's entries, a component's table and pages, a thread and its bottom component, a temporal
-- capability's head
abbrev pub loads_of : Obj → ℕ
loads_of Blank = 0
loads_of Table = 64
loads_of Leaf = 64
loads_of Pages = 64
loads_of Pleaf = 64
loads_of Comp = 2
loads_of Thread = 2
loads_of Tcap = 1

-- whether a frame may stand in cached translations: a user frame, and a node of a page table
abbrev pub is_page_node : Obj → Bool
is_page_node Pages = true
is_page_node Pleaf = true
is_page_node _ = false

abbrev pub may_be_cached : FrameKind → Obj → Bool
may_be_cached Untyped object = false
may_be_cached User object = true
may_be_cached Kernel object = is_page_node object

-- a node is empty where none of its entries holds anything
abbrev pub entry_refuses : Option Entry → Option Reply
entry_refuses None = Some Reply.Raced
entry_refuses (Some Entry.Free) = None
entry_refuses (Some (Entry.Held k)) = Some Reply.NotEmpty
entry_refuses (Some (Entry.Closing by)) = Some (Reply.Busy by)
entry_refuses (Some (Entry.Quiescing stamp)) = None

-- the refusal of a look-up of such an entry, or of what it found
abbrev pub held_refuses : Entry → Option Reply
held_refuses (Entry.Held k) = Some Reply.NotEmpty
held_refuses _ = None

abbrev pub refusal_by : StageEnd Found → Option Reply
refusal_by Going = None
refusal_by (Decided r) = None
refusal_by (Done f) = held_refuses f.value
refusal_by (Refuse r) = Some r

-- a field of a component names a frame of the machine
abbrev pub field_refuses : Bool → Option Reply
field_refuses within = if within then None else Some Reply.Raced

-- a thread is empty at depth 1
abbrev pub depth_refuses : ℕ → Option Reply
depth_refuses depth = if depth == 1 then None else Some Reply.NotEmpty

abbrev pub thread_refuses : Option ThreadWord → Option Reply
thread_refuses None = Some Reply.Raced
thread_refuses (Some (Idle depth)) = depth_refuses depth
thread_refuses (Some (Running core depth)) = depth_refuses depth
thread_refuses (Some (Claimed core depth)) = Some (Reply.Busy core)

-- its bottom component is a frame of the machine, where it has one
abbrev pub place_refuses : ℕ → Option ℕ → Option Reply
place_refuses frames None = None
place_refuses frames (Some f) = field_refuses (nat_lt f frames)

abbrev pub stack_refuses : ℕ → Option StackWord → Option Reply
stack_refuses frames None = Some Reply.Raced
stack_refuses frames (Some v) = place_refuses frames v.0

-- a temporal capability is empty where it has no budget
abbrev pub head_by_mark : ℕ → Option ℕ → Option Reply
head_by_mark budget None = if budget == 0 then None else Some Reply.NotEmpty
head_by_mark budget (Some by) = Some (Reply.Busy by)

abbrev pub head_refuses : Option HeadWord → Option Reply
head_refuses None = Some Reply.Raced
head_refuses (Some v) = head_by_mark v.budget v.mark

abbrev pub by_turn : Bool → Option Reply → Option Reply → Option Reply
by_turn first one other = if first then one else other

-- the refusal to which a word of an object leads, if it does to one
abbrev pub empty_refuses : ℕ → Obj → ℕ → ℕ → Option Reply
empty_refuses frames Blank at found = None
empty_refuses frames Table at found = entry_refuses (shown_in frames found)
empty_refuses frames Leaf at found = entry_refuses (shown_in frames found)
empty_refuses frames Pages at found = entry_refuses (shown_in frames found)
empty_refuses frames Pleaf at found = entry_refuses (shown_in frames found)
empty_refuses frames Comp at found = field_refuses (nat_lt found frames)
empty_refuses frames Thread at found =
    by_turn (at == 0) (thread_refuses (thread_of_word found)) (stack_refuses frames (stack_of_word found))
empty_refuses frames Tcap at found = head_refuses (head_of_word found)

-- a frame of the machine
abbrev pub frame_if : Bool → ℕ → Option ℕ
frame_if within f = if within then Some f else None

abbrev pub place_owned : ℕ → Option ℕ → Option ℕ
place_owned frames None = None
place_owned frames (Some f) = frame_if (nat_lt f frames) f

abbrev pub stack_owned : ℕ → Option StackWord → Option ℕ
stack_owned frames None = None
stack_owned frames (Some v) = place_owned frames v.0

-- the frames that an object itself names, one found after the other
abbrev pub owns : Bool → Option ℕ → Owned → Owned
owns first f o = if first then record { first = f; second = o.second } else record { first = o.first; second = f }

-- what is known of them after this word: a component names its table and its pages, a thread its bottom component
abbrev pub owned_after : ℕ → Obj → ℕ → ℕ → Owned → Owned
owned_after frames Comp at found o = owns (at == 0) (frame_if (nat_lt found frames) found) o
owned_after frames Thread at found o = if at == 0 then o else owns true (stack_owned frames (stack_of_word found)) o
owned_after frames _ at found o = o
