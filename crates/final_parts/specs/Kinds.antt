-- The numbers by which C knows kinds, and why there is no part.
use Rattle.spk_nums.specs.{declared.kinds.Kind.Kind, declared.kinds.FrameKind.FrameKind, declared.kinds.Obj.Obj}
use Rattle.{std.specs.Prelude.ℕ, final_parts.specs.declared.parts.NoPart.NoPart}

-- the number of a kind of entry, from 0 in the order of its declaration
abbrev pub kind_code : Kind → ℕ
kind_code Kind.Range = 0
kind_code Kind.Table = 1
kind_code Kind.Leaf = 2
kind_code Kind.Pages = 3
kind_code Kind.Pleaf = 4
kind_code Kind.Comp = 5
kind_code Kind.Gate = 6
kind_code Kind.Thread = 7
kind_code Kind.Tcap = 8
kind_code Kind.Link = 9
kind_code Kind.Page = 10

-- the number of a kind of frame
abbrev pub use_code : FrameKind → ℕ
use_code FrameKind.Untyped = 0
use_code FrameKind.User = 1
use_code FrameKind.Kernel = 2

-- the kind of the capability that names such an object; 255 where there is none
abbrev pub object_code : Obj → ℕ
object_code Obj.Blank = 255
object_code Obj.Table = 1
object_code Obj.Leaf = 2
object_code Obj.Pages = 3
object_code Obj.Pleaf = 4
object_code Obj.Comp = 5
object_code Obj.Thread = 7
object_code Obj.Tcap = 8

-- outside the machine, another object, or nothing there
abbrev pub fault_code : NoPart → ℕ
fault_code NoPart.Outside = 255
fault_code NoPart.Kind = 7
fault_code NoPart.Empty = 2
