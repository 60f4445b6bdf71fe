-- The tables of a state, as they are printed.
use Rattle.std.specs.Prelude.{◌==◌, ◌||◌, ◌&&◌, ◌∷◌, ◌++◌, if◌then◌else◌}
use Rattle.kernel_rules.specs.{ℕ, zero, suc, Bool, ltb as nat_lt, List, [], codes, decimal}
use Rattle.kernel_rules.specs.{reverse, flat_map, Translation, Place, Free, Holds, Quiescing, CompFields, ThreadFields, TcapFields, Object}
use Rattle.kernel_rules.specs.{Blank, Table, Leaf, Pages, Pleaf, Comp, Thread, Tcap, Frame, Untyped, User, Kernel, Liveness, Unused, Live}
use Rattle.kernel_rules.specs.{Dead, Core, first_of_stack, thread_of, refs, ticks}
use Rattle.{entry_words.specs.spk_nums.specs.Texts.cap_text, kernel_rules.specs.State.State}

-- A space and a number.
abbrev pub number : ℕ → List ℕ
number n = codes " " ++ decimal n

abbrev pub line_end : List ℕ
line_end = codes "\n"

-- The lines of the numbers below n, in ascending order.
unfoldable pub lines_below : (ℕ → List ℕ) → ℕ → List ℕ
lines_below line zero = []
lines_below line (suc n) = lines_below line n ++ line n

-- The line of an entry that is held: its index and its capability. Removed entries are not printed.
abbrev pub entry_line : ℕ → Place → List ℕ
entry_line i Free = []
entry_line i (Holds k) = codes "  " ++ (decimal i ++ (codes " " ++ (cap_text k ++ line_end)))
entry_line i (Quiescing k) = []

-- The lines of a node's entries.
abbrev pub node_lines : (ℕ → Place) → List ℕ
node_lines place = lines_below (λ i. entry_line i (place i)) 64

-- The line of a component: its table, its pages, its liveness number and its epoch.
abbrev pub comp_line : CompFields → List ℕ
comp_line k = codes "  fields" ++ (number k.table ++ (number k.pages ++ (number k.number ++ (number k.epoch ++ line_end))))

-- The line of a thread: the frames of its stack from bottom to top.
abbrev pub thread_line : ThreadFields → List ℕ
thread_line t = codes "  stack" ++ (flat_map number (reverse t.stack) ++ line_end)

-- The line of a pair of a scheduler and a quality.
abbrev pub quality_line : ℕ × ℕ → List ℕ
quality_line p = codes "  quality" ++ (number p.0 ++ (number p.1 ++ line_end))

-- The lines of a temporal capability: its budget, and each pair of its list.
abbrev pub tcap_lines : TcapFields → List ℕ
tcap_lines q = codes "  budget" ++ (number q.budget ++ (line_end ++ flat_map quality_line q.qualities))

-- The word of an object; a blank frame is called `kernel`.
abbrev pub object_word : Object → List ℕ
object_word Blank = codes "kernel"
object_word Table = codes "table"
object_word Leaf = codes "leaf"
object_word Pages = codes "pages"
object_word Pleaf = codes "pleaf"
object_word (Comp k) = codes "comp"
object_word (Thread t) = codes "thread"
object_word (Tcap q) = codes "tcap"

-- The lines of an object after its frame's line.
abbrev pub object_lines : Object → (ℕ → Place) → List ℕ
object_lines Blank place = []
object_lines Table place = node_lines place
object_lines Leaf place = node_lines place
object_lines Pages place = node_lines place
object_lines Pleaf place = node_lines place
object_lines (Comp k) place = comp_line k
object_lines (Thread t) place = thread_line t
object_lines (Tcap q) place = tcap_lines q

-- The line of a frame: its number, its word and the references to it.
abbrev pub frame_line : ℕ → List ℕ → ℕ → List ℕ
frame_line f word k = codes "frame" ++ (number f ++ (codes " " ++ (word ++ (codes " refs" ++ (number k ++ line_end)))))

-- The lines of a frame with its places and the references to it; an untyped frame has none.
abbrev pub frame_lines : ℕ → Frame → (ℕ → Place) → ℕ → List ℕ
frame_lines f Untyped place k = []
frame_lines f User place k = frame_line f (codes "user") k
frame_lines f (Kernel object) place k = frame_line f (object_word object) k ++ object_lines object place

-- The line of a liveness number that is live or dead.
abbrev pub number_line : ℕ → Liveness → List ℕ
number_line l Unused = []
number_line l (Live epoch f) = codes "live"
    ++ (number l ++ (codes " epoch" ++ (number epoch ++ (codes " frame" ++ (number f ++ line_end)))))
number_line l (Dead epoch) = codes "dead" ++ (number l ++ (codes " epoch" ++ (number epoch ++ line_end)))

-- The line of a translation: its page root, its page, the frame and the flags.
abbrev pub translation_line : Translation → List ℕ
translation_line t = codes "  cached" ++ (number t.pages ++ (number t.page ++ (number t.frame ++ (number t.flags.0 ++ line_end))))

-- Whether a translation is printed before another: by its page root, then by its page.
abbrev pub is_before : Translation → Translation → Bool
is_before t u = nat_lt t.pages u.pages || (t.pages == u.pages && nat_lt t.page u.page)

-- A list in which a translation is put before the first that it is printed before.
abbrev pub inserted : Translation → List Translation → List Translation
inserted t [] = t ∷ []
inserted t (u ∷ us) = if is_before t u then t ∷ (u ∷ us) else u ∷ inserted t us

-- The translations in the order in which they are printed.
abbrev pub ascending : List Translation → List Translation
ascending [] = []
ascending (t ∷ ts) = inserted t (ascending ts)

-- What a core's line says of the ticks that it has had back: nothing where these are none.
abbrev pub back_words : ℕ → List ℕ
back_words n = if n == 0 then [] else codes " back" ++ number n

-- The line of a core, with the component that it works in, and those of its translations.
abbrev pub core_lines : ℕ → Core → ℕ → List ℕ
core_lines c k comp =
    codes "core" ++ (number c ++ (codes " thread" ++ (number k.thread ++ (codes " tcap" ++ (number k.tcap ++ (codes " comp" ++ (number comp
    ++ (codes " spent" ++ (number k.spent
    ++ (codes " owed" ++ (number k.owed ++ (back_words k.back
    ++ (line_end ++ flat_map translation_line (ascending k.cached))))))))))))))

-- The line of all ticks: the budgets, and what the cores have spent and have not had back.
abbrev pub total_line : ℕ → List ℕ
total_line n = codes "total" ++ (number n ++ line_end)

-- The tables of a state: its frames, its liveness numbers, its cores, and the total of its ticks.
abbrev pub tables_of : State → List ℕ
tables_of s =
    lines_below (λ f. frame_lines f (s.frame f) (s.place f) (refs s f)) s.limits.frames
    ++ (lines_below (λ l. number_line l (s.number l)) 64
    ++ (lines_below (λ c. core_lines c (s.core c) (first_of_stack (thread_of s c).stack)) s.limits.cores
    ++ total_line (ticks s)))
