use Rattle.std.specs.Prelude.{ℕ, Option, Some, None, ◌==◌, if◌then◌else◌}
use Rattle.spk_nums.specs.declared.kinds.FrameKind.TheVariants.{Untyped, User, Kernel}
use Rattle.spk_nums.specs.declared.kinds.Obj.TheVariants.{Blank, Table, Leaf, Pages, Pleaf, Comp, Thread, Tcap}
use Rattle.{spk_nums.specs.declared.kinds.FrameKind.FrameKind, spk_nums.specs.declared.kinds.Obj.Obj}

-- the number of a frame's kind in a word
abbrev pub number_of_frame_kind : FrameKind → ℕ
number_of_frame_kind Untyped = 0
number_of_frame_kind User = 1
number_of_frame_kind Kernel = 2

-- the frame's kind of a number
abbrev pub frame_kind_of_number : ℕ → Option FrameKind
frame_kind_of_number n =
    if n == 0 then Some Untyped
    else if n == 1 then Some User
    else if n == 2 then Some Kernel
    else None

-- the number of an object in a word
abbrev pub number_of_object : Obj → ℕ
number_of_object Blank = 0
number_of_object Table = 1
number_of_object Leaf = 2
number_of_object Pages = 3
number_of_object Pleaf = 4
number_of_object Comp = 5
number_of_object Thread = 6
number_of_object Tcap = 7

-- the object of a number
abbrev pub object_of_number : ℕ → Option Obj
object_of_number n =
    if n == 0 then Some Blank
    else if n == 1 then Some Table
    else if n == 2 then Some Leaf
    else if n == 3 then Some Pages
    else if n == 4 then Some Pleaf
    else if n == 5 then Some Comp
    else if n == 6 then Some Thread
    else if n == 7 then Some Tcap
    else None

-- the end of the numbers of objects in a frame of a kind: only a kernel frame holds an object
abbrev pub end_of_object : FrameKind → ℕ
end_of_object Untyped = 1
end_of_object User = 1
end_of_object Kernel = 8
