-- The same as the words of a machine and the ends of its cores say it.
use Rattle.std.specs.Prelude.{◌&&◌, if◌then◌else◌}
use Rattle.kernel_history.specs.{ℕ, Bool, true, false, ltb as nat_lt, Option, Some, None, slice_index, Capability}
use Rattle.kernel_history.specs.{FrameKind, Obj, entry_of_word, frame_of_word, FrameWord, FrameAt, end_in}
use Rattle.machine_image.specs.{ImageOf, word_at, node_words, held_by, component_at}
use Rattle.{machine_image.specs.declared.image.Component.Component, world_parts.specs.Sight.Sight}

-- Whether an object is a node, whose words are entries.
abbrev pub is_node : Obj → Bool
is_node Obj.Blank = false
is_node Obj.Table = true
is_node Obj.Leaf = true
is_node Obj.Pages = true
is_node Obj.Pleaf = true
is_node Obj.Comp = false
is_node Obj.Thread = false
is_node Obj.Tcap = false

abbrev pub is_comp : Obj → Bool
is_comp Obj.Blank = false
is_comp Obj.Table = false
is_comp Obj.Leaf = false
is_comp Obj.Pages = false
is_comp Obj.Pleaf = false
is_comp Obj.Comp = true
is_comp Obj.Thread = false
is_comp Obj.Tcap = false

-- Whether a frame's word says an object of which this is so.
abbrev pub has_kind : (Obj → Bool) → FrameKind → Obj → Bool
has_kind is FrameKind.Untyped object = false
has_kind is FrameKind.User object = false
has_kind is FrameKind.Kernel object = is object

abbrev pub says : (Obj → Bool) → Option FrameWord → Bool
says is None = false
says is (Some v) = has_kind is v.kind v.object

-- Whether it says that the frame is untyped.
abbrev pub kind_untyped : FrameKind → Bool
kind_untyped FrameKind.Untyped = true
kind_untyped FrameKind.User = false
kind_untyped FrameKind.Kernel = false

abbrev pub says_untyped : Option FrameWord → Bool
says_untyped None = true
says_untyped (Some v) = kind_untyped v.kind

-- The table and the pages of a component.
abbrev pub fields : Option Component → Option (ℕ × ℕ)
fields None = None
fields (Some c) = Some (c.table, c.pages)

-- The word of frame f.
abbrev pub frame_said : ImageOf → ℕ → Option FrameWord
frame_said m f = frame_of_word (word_at m.shape m.words (FrameAt f))

-- What place i of frame f holds: something only in a node of the machine.
abbrev pub held_seen : ImageOf → ℕ → ℕ → Option Capability
held_seen m f i =
    if nat_lt f m.shape.frames && nat_lt i 64
    then (if says is_node (frame_said m f) then held_by (entry_of_word (slice_index (node_words m.words f) i)) else None)
    else None

abbrev pub comp_seen : ImageOf → ℕ → Option (ℕ × ℕ)
comp_seen m f =
    if nat_lt f m.shape.frames
    then (if says is_comp (frame_said m f) then fields (component_at m.shape m.words f) else None)
    else None

abbrev pub untyped_seen : ImageOf → ℕ → Bool
untyped_seen m f = if nat_lt f m.shape.frames then says_untyped (frame_said m f) else true

abbrev pub works_seen : ImageOf → ℕ → ℕ
works_seen m c = if nat_lt c m.shape.cores then (end_in m.ends c).comp else 0

abbrev pub seen : ImageOf → Sight
seen m = record {
  frames = m.shape.frames;
  cores = m.shape.cores;
  held = held_seen m;
  comp = comp_seen m;
  untyped = untyped_seen m;
  works = works_seen m;
}
