-- What the word of a place shows on a machine of some frames.
use Rattle.std.specs.Prelude.{ℕ, ◌+◌, ◌≤◌, Bool, true, false, nat_le, Option, Some, None, if◌then◌else◌}
use Rattle.word_map.specs.spk_nums.specs.{Capability.Capability, declared.kinds.Kind.Kind, declared.kinds.Kind.TheVariants.Range}
use Rattle.entry_words.specs.declared.entry.Entry.TheVariants.{Free, Held, Closing, Quiescing}
use Rattle.{word_map.specs.spk_nums.specs.declared.kinds.Kind.TheVariants.Link, entry_words.specs.EntryWord.entry_of_word}
use Rattle.{entry_words.specs.declared.entry.Entry.Entry}

-- the end of the frames that a capability names: a range names as many as its number says, any other names one
abbrev pub end_of_frames : Kind → ℕ → ℕ → ℕ
end_of_frames Range frame arg = frame + arg
end_of_frames _ frame arg = frame + 1

-- a capability names no frame past the machine's
abbrev pub CapNames : ℕ → Capability → Type 0
CapNames frames k = end_of_frames k.kind k.frame k.arg ≤ frames

-- an entry names no frame past the machine's
abbrev pub EntryNames : ℕ → Entry → Type 0
EntryNames frames Free = Unit {0}
EntryNames frames (Held k) = CapNames frames k
EntryNames frames (Closing by) = Unit {0}
EntryNames frames (Quiescing stamp) = Unit {0}

-- the entry that holds a capability, where that names no frame past the machine's
abbrev pub held_if : Bool → Capability → Option Entry
held_if within k = if within then Some (Held k) else None

-- the entry read from a word, where it names no frame past the machine's
abbrev pub entry_within : ℕ → Option Entry → Option Entry
entry_within frames None = None
entry_within frames (Some Free) = Some Free
entry_within frames (Some (Held k)) = held_if (nat_le (end_of_frames k.kind k.frame k.arg) frames) k
entry_within frames (Some (Closing by)) = Some (Closing by)
entry_within frames (Some (Quiescing stamp)) = Some (Quiescing stamp)

-- what a word shows on a machine of so many frames; a word that shows nothing never comes
abbrev pub shown_in : ℕ → ℕ → Option Entry
shown_in frames word = entry_within frames (entry_of_word word)

-- whether a kind is that of a root's link to a leaf
abbrev pub is_link : Kind → Bool
is_link Link = true
is_link _ = false
