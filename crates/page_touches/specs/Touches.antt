-- What is known of the words of the table: the newest change of each, and which cores have come to it since; and what each frame is.
use Rattle.std.specs.Prelude.{◌+◌, ◌*◌, ◌==◌, ◌&&◌, ◌||◌, if◌then◌else◌, ◌∷◌, ◌++◌}
use Rattle.page_layers.specs.step_views.specs.kernel_history.specs.{ℕ, zero, suc, ltb as nat_lt, not, Bool, true, false}
use Rattle.page_layers.specs.step_views.specs.kernel_history.specs.{List, [], replicate, get_or as slice_index_or, set as slice_set}
use Rattle.page_layers.specs.step_views.specs.kernel_history.specs.{Option, Some, None, Obj, word_of_frame, Word, EntryAt, FrameAt, CountAt}
use Rattle.page_layers.specs.step_views.specs.kernel_history.specs.{CoreAt, FlushAt}
use Rattle.page_layers.specs.step_views.specs.kernel_history.specs.{LiveAt, ClockAt}
use Rattle.spk_nums.specs.declared.kinds.FrameKind.TheVariants.{Kernel, Untyped}
use Rattle.spk_nums.specs.declared.kinds.Obj.TheVariants.{Blank, Table, Leaf, Pages, Comp, Thread, Tcap}
use Rattle.page_layers.specs.{Seen.Seen, Layers.is_blamed, declared.lanes.Change.Change}
use Rattle.page_touches.specs.declared.touches.Touch.{Touch}

-- A word that no step has changed.
abbrev pub untouched : Touch
untouched = record { change = None; cores = replicate 8 false }

-- A word after a core's step on it: a step that leaves another value is its newest change, and that core alone has come to it since.
abbrev pub touched : Bool → Change → Touch → Touch
touched changes c t = record {
  change = if changes then Some c else t.change;
  cores = slice_set (if changes then replicate 8 false else t.cores) c.core true;
}

-- The words whose first finding is told: the entries of frames, their kinds, and the liveness numbers.
abbrev pub is_told : Word → Bool
is_told (EntryAt f i) = true
is_told (FrameAt f) = true
is_told (CountAt f c) = false
is_told (CoreAt c) = false
is_told (FlushAt c) = false
is_told (LiveAt l) = true
is_told ClockAt = false

abbrev pub is_clock : Word → Bool
is_clock ClockAt = true
is_clock w = false

-- A step is its core's first on the word since its newest change, and is told so; or it is blamed on that.
abbrev pub is_first : Touch → Seen → Bool
is_first t s = is_told s.word && not (slice_index_or t.cores s.core false)

abbrev pub is_told_of : Touch → Seen → Bool
is_told_of t s = is_first t s || (is_blamed s.decides && not (is_clock s.word))

-- A step is met by the newest change of its word, where that is another core's and is told of.
abbrev pub met_by : Bool → Option Change → Seen → Option Change
met_by told None s = None
met_by told (Some c) s = if told && not (c.core == s.core) then Some c else None

abbrev pub tail_of : Touch → Seen → Option Change
tail_of t s = met_by (is_told_of t s) t.change s

-- The frames' words, marks aside: at the start the table, the leaf, the pages and the component, and each core's thread and temporal
-- capability; all else is untyped.
abbrev pub kernel_word : Obj → ℕ
kernel_word object = word_of_frame (record { kind = Kernel; object = object; mark = None })

abbrev pub untyped_word : ℕ
untyped_word = word_of_frame (record { kind = Untyped; object = Blank; mark = None })

abbrev pub start_word : ℕ → ℕ → ℕ
start_word cores f =
    if f == 0 then kernel_word Table
    else if f == 1 then kernel_word Leaf
    else if f == 2 then kernel_word Pages
    else if f == 3 then kernel_word Comp
    else if nat_lt f (4 + cores) then kernel_word Thread
    else if nat_lt f (4 + 2 * cores) then kernel_word Tcap
    else untyped_word

-- Those of the first n frames.
abbrev pub start_words : ℕ → ℕ → List ℕ
start_words cores zero = []
start_words cores (suc n) = start_words cores n ++ start_word cores n ∷ []

-- The frames' words after a step: a word below 64 has no mark.
abbrev pub frames_after : Word → ℕ → List ℕ → List ℕ
frames_after (FrameAt f) left frames = if nat_lt left 64 then slice_set frames f left else frames
frames_after w left frames = frames

-- The word of the frame that has a word; 0 for words of no frame.
abbrev pub frame_of : Word → List ℕ → ℕ
frame_of (EntryAt f i) frames = slice_index_or frames f 0
frame_of w frames = 0
