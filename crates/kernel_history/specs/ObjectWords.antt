-- The words of the objects of frames: what each field of the state is in words.
use Rattle.std.specs.Prelude.{◌==◌, if◌then◌else◌}
use Rattle.kernel_rules.specs.{ℕ, Bool, true, false, List, slice_get, reverse, Option, Some, None, Obj, CompFields}
use Rattle.kernel_rules.specs.{Object, Blank, Table, Leaf, Pages, Pleaf, Comp, Thread, Tcap, Frame, Untyped, User, Kernel, FrameKind}
use Rattle.tcap_words.specs.{word_of_quality, word_of_stack}
use Rattle.frame_words.specs.{Comp.word_of_comp, declared.frame_word.FrameWord.FrameWord}
use Rattle.tcap_words.specs.declared.thread_word.ThreadWord.{ThreadWord}
use Rattle.tcap_words.specs.declared.thread_word.ThreadWord.TheVariants.{Idle, Running}

-- Whether an object is a node, whose 64 words are entries.
abbrev pub is_node_object : Object → Bool
is_node_object Blank = false
is_node_object Table = true
is_node_object Leaf = true
is_node_object Pages = true
is_node_object Pleaf = true
is_node_object (Comp k) = false
is_node_object (Thread t) = false
is_node_object (Tcap q) = false

-- Whether a frame holds a node.
abbrev pub holds_node : Frame → Bool
holds_node Untyped = false
holds_node User = false
holds_node (Kernel object) = is_node_object object

-- The object's name in the frame's word.
abbrev pub name_of_object : Object → Obj
name_of_object Blank = Obj.Blank
name_of_object Table = Obj.Table
name_of_object Leaf = Obj.Leaf
name_of_object Pages = Obj.Pages
name_of_object Pleaf = Obj.Pleaf
name_of_object (Comp k) = Obj.Comp
name_of_object (Thread t) = Obj.Thread
name_of_object (Tcap q) = Obj.Tcap

-- What the word of a frame says that no core has marked.
abbrev pub frame_value : Frame → FrameWord
frame_value Untyped = record { kind = FrameKind.Untyped; object = Obj.Blank; mark = None }
frame_value User = record { kind = FrameKind.User; object = Obj.Blank; mark = None }
frame_value (Kernel object) = record { kind = FrameKind.Kernel; object = name_of_object object; mark = None }

-- The words of a component: the frame of its table, the frame of its pages, and its liveness number with its epoch.
abbrev pub comp_word : CompFields → ℕ → ℕ
comp_word k i =
    if i == 0 then k.table
    else (if i == 1 then k.pages
    else (if i == 2 then word_of_comp (record { number = k.number; epoch = k.epoch })
    else 0))

-- What a thread's first word says: whether and where it runs, and its depth.
abbrev pub thread_value : Option ℕ → ℕ → ThreadWord
thread_value None depth = Idle depth
thread_value (Some c) depth = Running c depth

-- The component at a height of a stack, which lists the newest first; the bottom is at height 0.
abbrev pub at_height : List ℕ → ℕ → Option ℕ
at_height stack h = slice_get (reverse stack) h

-- The word at a height of a thread's stack: none above its depth.
abbrev pub stack_word : List ℕ → ℕ → ℕ
stack_word stack h = word_of_stack (record { 0 = at_height stack h })

-- The word of a temporal capability's list at a position: none after the list's end.
abbrev pub quality_word : List (ℕ × ℕ) → ℕ → ℕ
quality_word qualities j = word_of_quality (record { 0 = slice_get qualities j })
