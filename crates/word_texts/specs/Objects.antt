-- What a frame is, by its word.
use Rattle.step_views.specs.kernel_history.specs.{ℕ, List, codes, Option, Some, None, Obj, frame_of_word, FrameWord}
use Rattle.spk_nums.specs.declared.kinds.FrameKind.TheVariants.{Untyped, User, Kernel}
use Rattle.spk_nums.specs.declared.kinds.Obj.TheVariants.{Blank, Table, Leaf, Pages, Pleaf, Comp, Thread, Tcap}

-- The object that a frame with this word holds; Blank where it holds none.
abbrev pub object_in : Option FrameWord → Obj
object_in None = Blank
object_in (Some f) = f.object

abbrev pub object_of : ℕ → Obj
object_of word = object_in (frame_of_word word)

-- An object, by its word.
abbrev pub object_text : Obj → List ℕ
object_text Blank = codes "blank"
object_text Table = codes "table"
object_text Leaf = codes "leaf"
object_text Pages = codes "pages"
object_text Pleaf = codes "pleaf"
object_text Comp = codes "comp"
object_text Thread = codes "thread"
object_text Tcap = codes "tcap"
