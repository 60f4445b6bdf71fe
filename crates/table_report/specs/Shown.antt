-- The state that words and ends show, whatever they are: a word that unpacks to nothing, or to a core's mark, shows nothing.
-- A count word shows its count, whoever holds it.
use Rattle.table_lines.specs.kernel_history.specs as low
use Rattle.std.specs.Prelude.{◌+◌, ◌++◌}
use low.{ℕ, zero, suc, Bool, true, false, List, [], Option, Some, None, option_to_list, FrameKind, Obj, CoreEnd, Entry}
use low.{entry_of_word, comp_of_word, frame_of_word, live_of_word, residue, CompWord, FrameWord, LiveWord, head_of_word, quality_of_word}
use low.{stack_of_word, HeadWord, QualityWord, EntryAt, FrameAt, LiveAt, Shape, Place, Free, Holds, CompFields, Object, Blank, Table, Leaf}
use low.{Pages, Pleaf, Comp, Thread, Tcap, Frame, Untyped, User, Kernel, Liveness, Unused, Live, Dead, Core, State, no_grace, ticks}
use low.{holds_node, word_in, end_in, counters, count_at, count_sum, lines_below, frame_lines, number_line, core_lines, total_line}
use Rattle.{tcap_words.specs.declared.stack_word.StackWord.StackWord, table_lines.specs.Ends.core_shown}

-- The place that an entry shows: what was removed is not shown.
abbrev pub place_shown : Option Entry → Place
place_shown None = Free
place_shown (Some Entry.Free) = Free
place_shown (Some (Entry.Held k)) = Holds k
place_shown (Some (Entry.Closing by)) = Free
place_shown (Some (Entry.Quiescing stamp)) = Free

-- The place that a word of a frame shows; words of a frame that is no node show none.
abbrev pub place_in : Bool → ℕ → Place
place_in false word = Free
place_in true word = place_shown (entry_of_word word)

-- The component that two words and a third show.
abbrev pub comp_shown : Option CompWord → ℕ → ℕ → CompFields
comp_shown None table pages = record { table = table; pages = pages; number = 0; epoch = 0 }
comp_shown (Some v) table pages = record { table = table; pages = pages; number = v.number; epoch = v.epoch }

-- The frame that a word of a stack shows, if it shows one.
abbrev pub stacked : Option StackWord → List ℕ
stacked None = []
stacked (Some v) = option_to_list v.0

-- The stack that its first n words show, the newest first.
unfoldable pub stack_shown : (ℕ → ℕ) → ℕ → List ℕ
stack_shown word zero = []
stack_shown word (suc n) = stacked (stack_of_word (word (1 + n))) ++ stack_shown word n

-- The budget that a head shows.
abbrev pub budget_shown : Option HeadWord → ℕ
budget_shown None = 0
budget_shown (Some v) = v.budget

-- The pair that a word of a list shows, if it shows one.
abbrev pub listed : Option QualityWord → List (ℕ × ℕ)
listed None = []
listed (Some v) = option_to_list v.0

-- The list that its first n words show.
unfoldable pub qualities_shown : (ℕ → ℕ) → ℕ → List (ℕ × ℕ)
qualities_shown word zero = []
qualities_shown word (suc n) = qualities_shown word n ++ listed (quality_of_word (word (1 + n)))

-- The object of this name that the words of a frame show.
abbrev pub object_shown : Obj → (ℕ → ℕ) → Object
object_shown Obj.Blank word = Blank
object_shown Obj.Table word = Table
object_shown Obj.Leaf word = Leaf
object_shown Obj.Pages word = Pages
object_shown Obj.Pleaf word = Pleaf
object_shown Obj.Comp word = Comp (comp_shown (comp_of_word (word 2)) (word 0) (word 1))
object_shown Obj.Thread word = Thread (record { stack = stack_shown word 16; runs_on = None })
object_shown Obj.Tcap word = Tcap (record { budget = budget_shown (head_of_word (word 0)); qualities = qualities_shown word 8 })

-- The frame of this kind that its words show.
abbrev pub kind_shown : FrameKind → Obj → (ℕ → ℕ) → Frame
kind_shown FrameKind.Untyped object word = Untyped
kind_shown FrameKind.User object word = User
kind_shown FrameKind.Kernel object word = Kernel (object_shown object word)

-- The frame that its word and the words of its object show.
abbrev pub frame_shown : Option FrameWord → (ℕ → ℕ) → Frame
frame_shown None word = Untyped
frame_shown (Some v) word = kind_shown v.kind v.object word

-- What a liveness word shows.
abbrev pub number_shown : Option LiveWord → Liveness
number_shown None = Unused
number_shown (Some LiveWord.Free) = Unused
number_shown (Some (LiveWord.Live epoch frame)) = Live epoch frame
number_shown (Some (LiveWord.Closing epoch by)) = Unused
number_shown (Some (LiveWord.Dead epoch stamp)) = Dead epoch

-- The words of a frame's object.
abbrev pub words_of : Shape → List ℕ → ℕ → ℕ → ℕ
words_of shape words f i = word_in shape words (EntryAt f i)

-- The frame f that the words show.
abbrev pub frame_at : Shape → List ℕ → ℕ → Frame
frame_at shape words f = frame_shown (frame_of_word (word_in shape words (FrameAt f))) (words_of shape words f)

-- The place i of frame f that the words show.
abbrev pub place_at : Shape → List ℕ → ℕ → ℕ → Place
place_at shape words f i = place_in (holds_node (frame_at shape words f)) (words_of shape words f i)

-- The liveness number l that the words show.
abbrev pub number_at : Shape → List ℕ → ℕ → Liveness
number_at shape words l = number_shown (live_of_word (word_in shape words (LiveAt l)))

-- The references to frame f that its count words show: the sum of their counts, modulo 2 ^ 16.
abbrev pub counted_at : Shape → List ℕ → ℕ → ℕ
counted_at shape words f = residue (count_sum (count_at (word_in shape words) f) (counters shape.cores))

-- The core c that the ends show.
abbrev pub core_shown_at : List CoreEnd → ℕ → Core
core_shown_at ends c = core_shown (end_in ends c)

-- The state that the words and the ends show.
abbrev pub shown : Shape → List ℕ → List CoreEnd → State
shown shape words ends = record {
  place = place_at shape words;
  frame = frame_at shape words;
  number = number_at shape words;
  core = core_shown_at ends;
  grace = λ x. no_grace;
  limits = record { cores = shape.cores; frames = shape.frames; calls = 0; epochs = 0 };
}

-- The lines of the frames, with the references to each.
abbrev pub frames_text : Shape → List ℕ → ℕ → List ℕ
frames_text shape words n = lines_below (λ f. frame_lines f (frame_at shape words f) (place_at shape words f) (counted_at shape words f)) n

-- The lines of the liveness numbers.
abbrev pub numbers_text : Shape → List ℕ → ℕ → List ℕ
numbers_text shape words n = lines_below (λ l. number_line l (number_at shape words l)) n

-- The lines of the cores.
abbrev pub cores_text : List CoreEnd → ℕ → List ℕ
cores_text ends n = lines_below (λ c. core_lines c (core_shown_at ends c) (end_in ends c).comp) n

-- The tables of what the words and the ends show.
abbrev pub tables_shown : Shape → List ℕ → List CoreEnd → List ℕ
tables_shown shape words ends =
    frames_text shape words shape.frames
    ++ (numbers_text shape words 64
    ++ (cores_text ends shape.cores
    ++ total_line (ticks (shown shape words ends))))
