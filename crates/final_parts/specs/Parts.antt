-- What a finished machine holds, part by part.
use Rattle.std.specs.Prelude.{ℕ, ℤ, ◌+◌, ◌/◌, ◌%◌, ◌==◌, Bool, nat_lt, ◌&&◌, ◌||◌, if◌then◌else◌, List, length, Option, Some, None, Result}
use Rattle.std.specs.Prelude.{Ok, Err, slice_index, slice_get}
use Rattle.machine_image.specs.{ImageOf, word_at, node_words, held_by, component_at}
use Rattle.word_map.specs.{FrameAt, CountAt, LiveAt}
use Rattle.tcap_words.specs.{head_of_word, quality_of_word, stack_of_word}
use Rattle.frame_words.specs.{count_of_word, frame_of_word, live_of_word}
use Rattle.spk_nums.specs.{Capability.Capability, declared.translations.CoreEnd.CoreEnd, declared.translations.Translation.Translation}
use Rattle.frame_words.specs.{declared.count_word.CountWord.CountWord, declared.frame_word.FrameWord.FrameWord}
use Rattle.tcap_words.specs.{declared.head_word.HeadWord.HeadWord, declared.quality_word.QualityWord.QualityWord}
use Rattle.machine_image.specs.{Views.leaf_of, declared.image.Component.Component}
use Rattle.final_parts.specs.{Kinds.kind_code, Kinds.use_code, Kinds.object_code, declared.parts.NoPart.NoPart}
use Rattle.final_parts.specs.{declared.parts.NoPart.TheVariants.Outside, declared.parts.NoPart.TheVariants.Kind}
use Rattle.final_parts.specs.{declared.parts.NoPart.TheVariants.Empty, declared.parts.SizePart.SizePart, declared.parts.FramePart.FramePart}
use Rattle.final_parts.specs.{declared.parts.CapPart.CapPart, declared.parts.CompPart.CompPart, declared.parts.QualityPart.QualityPart}
use Rattle.final_parts.specs.{declared.parts.LivePart.LivePart, declared.parts.CorePart.CorePart, declared.parts.CachedPart.CachedPart}
use Rattle.{machine_image.specs.entry_words.specs.EntryWord.entry_of_word, frame_words.specs.declared.live_word.LiveWord.LiveWord}
use Rattle.{tcap_words.specs.declared.stack_word.StackWord.StackWord}

-- The word i of frame f.
abbrev pub frame_word : ImageOf → ℕ → ℕ → ℕ
frame_word m f i = slice_index (node_words m.words f) i

-- How large the machine is.
abbrev pub size_in : ImageOf → SizePart
size_in m = record { frames = m.shape.frames; cores = m.shape.cores }

-- What a frame's word says; one without a value is untyped.
abbrev pub frame_said : Option FrameWord → FramePart
frame_said None = record { kind = 0; object = 255 }
frame_said (Some v) = record { kind = use_code v.kind; object = object_code v.object }

abbrev pub frame_at : ImageOf → ℕ → FramePart
frame_at m f = frame_said (frame_of_word (word_at m.shape m.words (FrameAt f)))

-- A frame of the machine.
abbrev pub frame_in : ImageOf → ℕ → Result FramePart NoPart
frame_in m f = if nat_lt f m.shape.frames then Ok (frame_at m f) else Err Outside

-- What core c counts of the references to frame f.
abbrev pub counted : Option CountWord → Result ℤ NoPart
counted None = Err Empty
counted (Some v) = Ok v.count

abbrev pub count_in : ImageOf → ℕ → ℕ → Result ℤ NoPart
count_in m f c = if nat_lt f m.shape.frames && nat_lt c m.shape.cores
    then counted (count_of_word (word_at m.shape m.words (CountAt f c)))
    else Err Outside

-- A capability, where there is one.
abbrev pub capability : Option Capability → Result CapPart NoPart
capability None = Err Empty
capability (Some k) = Ok (record { kind = kind_code k.kind; rights = k.rights; frame = k.frame; argument = k.arg })

-- The capability that the entry i of frame f holds.
abbrev pub held_in_entry : ImageOf → ℕ → ℕ → Option Capability
held_in_entry m f i = held_by (entry_of_word (frame_word m f i))

-- Whether it is the number of a node: a root or a leaf, of capabilities or of pages.
abbrev pub is_node : ℕ → Bool
is_node k = k == 1 || k == 2 || k == 3 || k == 4

-- Whether it is the number of a root.
abbrev pub is_root : ℕ → Bool
is_root k = k == 1 || k == 3

-- What an entry of a node holds.
abbrev pub entry_in : ImageOf → ℕ → ℕ → Result CapPart NoPart
entry_in m f i = if nat_lt f m.shape.frames && nat_lt i 64
    then (if is_node (frame_at m f).object then capability (held_in_entry m f i) else Err Kind)
    else Err Outside

-- What stands under a number, in the leaf to which the root's entry links.
abbrev pub in_leaf : ImageOf → Option ℕ → ℕ → Option Capability
in_leaf m None i = None
in_leaf m (Some leaf) i = held_in_entry m leaf i

abbrev pub under : ImageOf → ℕ → ℕ → Option Capability
under m root n = in_leaf m (leaf_of m.shape.frames (held_in_entry m root (n / 64))) (n % 64)

abbrev pub under_in : ImageOf → ℕ → ℕ → Result CapPart NoPart
under_in m root n = if nat_lt root m.shape.frames && nat_lt n 4096
    then (if is_root (frame_at m root).object then capability (under m root n) else Err Kind)
    else Err Outside

-- A component.
abbrev pub component : Option Component → Result CompPart NoPart
component None = Err Empty
component (Some c) = Ok (record { table = c.table; pages = c.pages; epoch = c.epoch; live = c.number })

abbrev pub comp_in : ImageOf → ℕ → Result CompPart NoPart
comp_in m f = if nat_lt f m.shape.frames
    then (if (frame_at m f).object == 5 then component (component_at m.shape m.words f) else Err Kind)
    else Err Outside

-- The frame of the component at a height of a thread's stack, from 0.
abbrev pub stacked_frame : Option ℕ → Result ℕ NoPart
stacked_frame None = Err Empty
stacked_frame (Some f) = Ok f

abbrev pub stacked : Option StackWord → Result ℕ NoPart
stacked None = Err Empty
stacked (Some v) = stacked_frame v.0

abbrev pub stack_in : ImageOf → ℕ → ℕ → Result ℕ NoPart
stack_in m f h = if nat_lt f m.shape.frames && nat_lt h 16
    then (if (frame_at m f).object == 7 then stacked (stack_of_word (frame_word m f (1 + h))) else Err Kind)
    else Err Outside

-- The ticks of a temporal capability.
abbrev pub budget : Option HeadWord → Result ℕ NoPart
budget None = Err Empty
budget (Some v) = Ok v.budget

abbrev pub budget_in : ImageOf → ℕ → Result ℕ NoPart
budget_in m f = if nat_lt f m.shape.frames
    then (if (frame_at m f).object == 8 then budget (head_of_word (frame_word m f 0)) else Err Kind)
    else Err Outside

-- The pair at a place of its list, from 0.
abbrev pub pair : Option (ℕ × ℕ) → Result QualityPart NoPart
pair None = Err Empty
pair (Some p) = Ok (record { quality = p.1; sched = p.0 })

abbrev pub listed : Option QualityWord → Result QualityPart NoPart
listed None = Err Empty
listed (Some v) = pair v.0

abbrev pub quality_in : ImageOf → ℕ → ℕ → Result QualityPart NoPart
quality_in m f j = if nat_lt f m.shape.frames && nat_lt j 8
    then (if (frame_at m f).object == 8 then listed (quality_of_word (frame_word m f (1 + j))) else Err Kind)
    else Err Outside

-- What a liveness number stands for; nothing where no component was ever named so.
abbrev pub life : Option LiveWord → Result LivePart NoPart
life None = Err Empty
life (Some LiveWord.Free) = Err Empty
life (Some (LiveWord.Live epoch frame)) = Ok (record { epoch = epoch; frame = frame; lives = 1 })
life (Some (LiveWord.Closing epoch by)) = Err Empty
life (Some (LiveWord.Dead epoch stamp)) = Ok (record { epoch = epoch; frame = 0; lives = 0 })

abbrev pub live_in : ImageOf → ℕ → Result LivePart NoPart
live_in m n = if nat_lt n 64 then life (live_of_word (word_at m.shape m.words (LiveAt n))) else Err Outside

-- Where a core ended.
abbrev pub core_end : Option CoreEnd → Result CorePart NoPart
core_end None = Err Outside
core_end (Some e) = Ok (record {
  spent = e.spent;
  back = e.back;
  owed = e.owed;
  thread = e.thread;
  tcap = e.tcap;
  comp = e.comp;
  cached = length e.cached;
})

abbrev pub core_in : ImageOf → ℕ → Result CorePart NoPart
core_in m c = core_end (slice_get m.ends c)

-- A translation that it has cached, the earliest first.
abbrev pub translation : Option Translation → Result CachedPart NoPart
translation None = Err Empty
translation (Some t) = Ok (record { pages = t.pages; page = t.page; frame = t.frame; flags = t.flags.0 })

abbrev pub cached_at : Option CoreEnd → ℕ → Result CachedPart NoPart
cached_at None k = Err Outside
cached_at (Some e) k = translation (slice_get e.cached k)

abbrev pub cached_in : ImageOf → ℕ → ℕ → Result CachedPart NoPart
cached_in m c k = cached_at (slice_get m.ends c) k
