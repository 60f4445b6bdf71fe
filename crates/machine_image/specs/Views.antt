-- What the words of a machine and the ends of its cores say, part by part.
use Rattle.std.specs.Prelude.{ℕ, ◌≡◌, ◌+◌, ◌-◌, ◌*◌, ◌/◌, ◌%◌, Bool, true, false, nat_lt, ◌&&◌, if◌then◌else◌, List, length, take, drop}
use Rattle.std.specs.Prelude.{Option, Some, None, slice_index, filter_map}
use Rattle.word_map.specs.{EntryAt, CountAt, Shape, IsShape, place_of, size_of}
use Rattle.tcap_words.specs.{quality_of_word, stack_of_word}
use Rattle.frame_words.specs.{comp_of_word, count_of_word}
use Rattle.spk_nums.specs.{Capability.Capability, declared.kinds.Kind.Kind, declared.translations.CoreEnd.CoreEnd}
use Rattle.entry_words.specs.{EntryWord.entry_of_word, declared.entry.Entry.Entry}
use Rattle.frame_words.specs.{declared.comp_word.CompWord.CompWord, declared.count_word.CountWord.CountWord}
use Rattle.tcap_words.specs.{declared.quality_word.QualityWord.QualityWord, declared.stack_word.StackWord.StackWord}
use Rattle.{std.specs.List.range_with_len, word_map.specs.Word.Word, machine_image.specs.declared.image.Component.Component}

-- The machine's layout, its words by their places, and the ends of its cores.
pub record ImageOf : Type 0 where
  pub shape : Shape
  pub words : List ℕ
  pub ends : List CoreEnd

-- There is a word for each place, and an end for each core.
pub record IsImage (i : ImageOf) : Type 0 where
  pub shape : IsShape i.shape
  pub size : length i.words ≡ size_of i.shape
  pub cores : length i.ends ≡ i.shape.cores

-- The word of this name.
abbrev pub word_at : Shape → List ℕ → Word → ℕ
word_at shape words w = slice_index words (place_of shape w)

-- The 64 words of a frame.
abbrev pub node_words : List ℕ → ℕ → List ℕ
node_words words f = take 64 (drop (64 * f) words)

-- The capability that an entry holds; none where it is free, closing or quiescing, or no entry at all.
abbrev pub held_by : Option Entry → Option Capability
held_by None = None
held_by (Some Entry.Free) = None
held_by (Some (Entry.Held k)) = Some k
held_by (Some (Entry.Closing by)) = None
held_by (Some (Entry.Quiescing stamp)) = None

-- The capability that the entry i of the node in frame f holds.
abbrev pub held_at : Shape → List ℕ → ℕ → ℕ → Option Capability
held_at shape words f i = held_by (entry_of_word (word_at shape words (EntryAt f i)))

-- Whether this is the kind of a root's entry.
abbrev pub is_link : Kind → Bool
is_link Kind.Range = false
is_link Kind.Table = false
is_link Kind.Leaf = false
is_link Kind.Pages = false
is_link Kind.Pleaf = false
is_link Kind.Comp = false
is_link Kind.Gate = false
is_link Kind.Thread = false
is_link Kind.Tcap = false
is_link Kind.Link = true
is_link Kind.Page = false

-- The frame of the leaf to which a root's entry links, where it links to a frame of the machine.
abbrev pub leaf_of : ℕ → Option Capability → Option ℕ
leaf_of frames None = None
leaf_of frames (Some k) = if is_link k.kind && nat_lt k.frame frames then Some k.frame else None

-- What an entry of this leaf holds, where there is a leaf.
abbrev pub in_leaf : Shape → List ℕ → Option ℕ → ℕ → Option Capability
in_leaf shape words None i = None
in_leaf shape words (Some leaf) i = held_at shape words leaf i

-- What stands under number n of the table with this root: the entry n % 64 of the leaf to which the root's entry n / 64 links.
abbrev pub under : Shape → List ℕ → ℕ → ℕ → Option Capability
under shape words root n = in_leaf shape words (leaf_of shape.frames (held_at shape words root (n / 64))) (n % 64)

-- A capability with its number.
abbrev pub numbered : ℕ → Option Capability → Option (ℕ × Capability)
numbered n None = None
numbered n (Some k) = Some (n, k)

-- The capabilities of the table with this root, from number n to 4,095, each with its number, ascending.
unfoldable pub held_from : Shape → List ℕ → ℕ → ℕ → List (ℕ × Capability)
held_from shape words root n = filter_map (λ m. numbered m (under shape words root m)) (range_with_len n (4096 - n))

-- The values of the count words of a frame, from core c on; a word that has no value is passed over.
unfoldable pub counts_from : Shape → List ℕ → ℕ → ℕ → List CountWord
counts_from shape words f c = filter_map (λ d. count_of_word (word_at shape words (CountAt f d))) (range_with_len c (shape.cores - c))

-- The frame that a word of a stack names.
abbrev pub stacked : Option StackWord → Option ℕ
stacked None = None
stacked (Some v) = v.0

-- The components on the stack of the thread in frame f, from height h on, the lowest first.
unfoldable pub stack_from : Shape → List ℕ → ℕ → ℕ → List ℕ
stack_from shape words f h = filter_map (λ g. stacked (stack_of_word (word_at shape words (EntryAt f (1 + g))))) (range_with_len h (16 - h))

-- The pair that a word of a list says.
abbrev pub listed : Option QualityWord → Option (ℕ × ℕ)
listed None = None
listed (Some v) = v.0

-- The pairs of scheduler and quality of the temporal capability in frame f, from place j on, in the order of its list.
unfoldable pub pairs_from : Shape → List ℕ → ℕ → ℕ → List (ℕ × ℕ)
pairs_from shape words f j = filter_map (λ k. listed (quality_of_word (word_at shape words (EntryAt f (1 + k))))) (range_with_len j (8 - j))

-- The component that two frame numbers and a third word say; none where a number is no frame's, or the word has no value.
abbrev pub component_of : ℕ → ℕ → Option CompWord → Option Component
component_of table pages None = None
component_of table pages (Some v) =
    if nat_lt table 512 && nat_lt pages 512
    then Some (record { table = table; pages = pages; number = v.number; epoch = v.epoch })
    else None

-- The component in frame f.
abbrev pub component_at : Shape → List ℕ → ℕ → Option Component
component_at shape words f =
    component_of (word_at shape words (EntryAt f 0)) (word_at shape words (EntryAt f 1)) (comp_of_word (word_at shape words (EntryAt f 2)))
