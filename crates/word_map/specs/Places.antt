use Rattle.std.specs.Prelude.{ℕ, ◌≡◌, ◌+◌, ◌*◌, ◌<◌, ◌≤◌}
use Rattle.word_map.specs.Word.{Word, EntryAt, FrameAt, CountAt, CoreAt, FlushAt, LiveAt, ClockAt}

-- a layout as contracts see it: the machine's cores and frames
pub record Shape : Type 0 where
  pub cores : ℕ
  pub frames : ℕ

-- the limits of a machine: 1 to 8 cores, and 4 + 2 * cores to 512 frames
pub record IsShape (s : Shape) : Type 0 where
  pub some_core : 1 ≤ s.cores
  pub most_cores : s.cores ≤ 8
  pub least_frames : 4 + 2 * s.cores ≤ s.frames
  pub most_frames : s.frames ≤ 512

-- the machine has a word of this name
abbrev pub IsIn : Shape → Word → Type 0
IsIn s (EntryAt f i) = (f < s.frames) × (i < 64)
IsIn s (FrameAt f) = f < s.frames
IsIn s (CountAt f c) = (f < s.frames) × (c < s.cores)
IsIn s (CoreAt c) = c < s.cores
IsIn s (FlushAt c) = c < s.cores
IsIn s (LiveAt l) = l < 64
IsIn s ClockAt = Unit {0}

-- how many words a core has: its count of each frame, its core word and its flush word
abbrev pub core_words : Shape → ℕ
core_words s = s.frames + 2

-- the first place of a core's words
abbrev pub core_begins : Shape → ℕ → ℕ
core_begins s c = 65 * s.frames + core_words s * c

-- the place of a word: first the frames' 64 words each, then a word for each frame, the words of each core, the liveness words, the clock
unfoldable pub place_of : Shape → Word → ℕ
place_of s (EntryAt f i) = 64 * f + i
place_of s (FrameAt f) = 64 * s.frames + f
place_of s (CountAt f c) = core_begins s c + f
place_of s (CoreAt c) = core_begins s c + s.frames
place_of s (FlushAt c) = core_begins s c + s.frames + 1
place_of s (LiveAt l) = core_begins s s.cores + l
place_of s ClockAt = core_begins s s.cores + 64

-- how many words the table has
unfoldable pub size_of : Shape → ℕ
size_of s = core_begins s s.cores + 65

-- the words of a machine have distinct places
pub record HasPlaces (s : Shape) : Type 0 where
  -- a word's place is in the table
  pub below : (w : Word) → IsIn s w → place_of s w < size_of s
  -- words at one place are one
  pub distinct : (w u : Word) → IsIn s w → IsIn s u → place_of s w ≡ place_of s u → w ≡ u
  -- the table has at most 37,457 words
  pub small : size_of s ≤ 37457
