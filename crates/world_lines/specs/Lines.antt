-- The lines that tell the worlds of a machine that are apart.
use Rattle.std.specs.Prelude.{◌+◌, ◌==◌, ◌&&◌, ◌||◌, if◌then◌else◌, ◌∷◌, ◌++◌}
use Rattle.table_lines.specs.kernel_history.specs.{ℕ, zero, suc, Bool, true, false, not, ltb as nat_lt}
use Rattle.table_lines.specs.kernel_history.specs.{List, [], Option, Some, None, codes, flat_map, Capability}
use Rattle.table_lines.specs.kernel_history.specs.{Kind, number, lines_below}
use Rattle.{std.specs.List.list_any, world_parts.specs.seal_check.specs.Holding.holds, world_parts.specs.Sight.Sight}
use Rattle.{world_lines.specs.declared.ranges.WorldRange.WorldRange}

-- A range of a world comes before another of it: by first frame, then by count.
abbrev pub is_less : WorldRange → WorldRange → Bool
is_less x y = nat_lt x.first y.first || (x.first == y.first && nat_lt x.count y.count)

-- A range comes before another: by world, then by first frame, then by count.
abbrev pub is_before : WorldRange → WorldRange → Bool
is_before x y = nat_lt x.world y.world || (x.world == y.world && is_less x y)

-- A range stands among ascending ones, once.
abbrev pub put_before : WorldRange → WorldRange → List WorldRange → List WorldRange
put_before x y ys = if is_before x y then x ∷ y ∷ ys else y ∷ ys

abbrev pub put_range : WorldRange → List WorldRange → List WorldRange
put_range x [] = x ∷ []
put_range x (y ∷ ys) = if is_before y x then y ∷ put_range x ys else put_before x y ys

-- The range that a capability of a world's node gives the world: it is one, and may be used.
abbrev pub range_if : Bool → ℕ → Capability → Option WorldRange
range_if false world k = None
range_if true world k = Some (record { world = world; first = k.frame; count = k.arg })

abbrev pub range_by : Kind → ℕ → Capability → Option WorldRange
range_by Kind.Range world k = range_if (holds k) world k
range_by _ world k = None

abbrev pub range_of : ℕ → Capability → Option WorldRange
range_of world k = range_by k.kind world k

abbrev pub put_given : Option WorldRange → List WorldRange → List WorldRange
put_given None xs = xs
put_given (Some x) xs = put_range x xs

-- What a place of a world's node adds to the ranges.
abbrev pub put_held : ℕ → Option Capability → List WorldRange → List WorldRange
put_held world None xs = xs
put_held world (Some k) xs = put_given (range_of world k) xs

-- The ranges that the first i places of node f hold, and that the first n nodes do, over what stands already.
unfoldable pub ranges_in : Sight → (ℕ → ℕ) → ℕ → ℕ → List WorldRange → List WorldRange
ranges_in x world f zero xs = xs
ranges_in x world f (suc i) xs = put_held (world f) (x.held f i) (ranges_in x world f i xs)

unfoldable pub ranges_below : Sight → (ℕ → ℕ) → ℕ → List WorldRange
ranges_below x world zero = []
ranges_below x world (suc n) = ranges_in x world n 64 (ranges_below x world n)

-- All ranges that may be used of nodes, by world, each once, ascending by first frame and count.
abbrev pub ranges_of : Sight → (ℕ → ℕ) → List WorldRange
ranges_of x world = ranges_below x world x.frames

-- Whether a world has a range.
abbrev pub has_range : ℕ → List WorldRange → Bool
has_range r ranges = list_any (λ y. y.world == r) ranges

-- Whether the world that begins at frame r has a line: all of the machine do but an untyped frame that is in no range.
abbrev pub is_told : Sight → (ℕ → ℕ) → List WorldRange → ℕ → Bool
is_told x world ranges r = nat_lt r x.frames && (world r == r && (not (x.untyped r) || has_range r ranges))

-- How many worlds with a line begin before frame r: the number of the one that begins there.
unfoldable pub number_at : Sight → (ℕ → ℕ) → List WorldRange → ℕ → ℕ
number_at x world ranges zero = 0
number_at x world ranges (suc r) = if is_told x world ranges r then number_at x world ranges r + 1 else number_at x world ranges r

-- Those of the first n numbers of which this holds, and whether it holds of any.
abbrev pub those : (ℕ → Bool) → ℕ → List ℕ
those is n = lines_below (λ i. if is i then number i else []) n

unfoldable pub any_below : (ℕ → Bool) → ℕ → Bool
any_below is zero = false
any_below is (suc n) = any_below is n || is n

-- `none` stands where there are none.
abbrev pub or_none : Bool → List ℕ → List ℕ
or_none false words = codes " none"
or_none true words = words

-- The frames of the world that begins at frame r, the cores that work in it, and its ranges.
abbrev pub frames_in : Sight → (ℕ → ℕ) → ℕ → List ℕ
frames_in x world r = those (λ f. world f == r) x.frames

abbrev pub works_there : Sight → (ℕ → ℕ) → ℕ → ℕ → Bool
works_there x world r c = world (x.works c) == r

abbrev pub core_words : Sight → (ℕ → ℕ) → ℕ → List ℕ
core_words x world r = or_none (any_below (works_there x world r) x.cores) (those (works_there x world r) x.cores)

abbrev pub range_words : ℕ → WorldRange → List ℕ
range_words r y = if y.world == r then number y.first ++ number y.count else []

abbrev pub memory_words : List WorldRange → ℕ → List ℕ
memory_words ranges r = or_none (has_range r ranges) (flat_map (range_words r) ranges)

-- Its line.
abbrev pub told_line : Sight → (ℕ → ℕ) → List WorldRange → ℕ → List ℕ
told_line x world ranges r =
    (codes "world" ++ (number (number_at x world ranges (world r)) ++ codes " frames"))
    ++ (frames_in x world r
    ++ (codes " cores" ++ (core_words x world r ++ (codes " memory" ++ (memory_words ranges r ++ codes "\n")))))

abbrev pub world_line : Sight → (ℕ → ℕ) → List WorldRange → ℕ → List ℕ
world_line x world ranges r = if is_told x world ranges r then told_line x world ranges r else []

-- The line of a gate that place i of frame f holds, where its component is of another world.
abbrev pub gate_words : ℕ → ℕ → ℕ → ℕ → ℕ → List ℕ
gate_words f i from to g =
    codes "gate" ++ (number f ++ (number i ++ (codes " world" ++ (number from ++ (codes " to" ++ (number to
    ++ (codes " frame" ++ (number g ++ codes "\n"))))))))

abbrev pub gate_between : Sight → (ℕ → ℕ) → List WorldRange → ℕ → ℕ → ℕ → List ℕ
gate_between x world ranges f i g = if world f == world g then []
    else gate_words f i (number_at x world ranges (world f)) (number_at x world ranges (world g)) g

abbrev pub gate_by : Kind → Sight → (ℕ → ℕ) → List WorldRange → ℕ → ℕ → ℕ → List ℕ
gate_by Kind.Gate x world ranges f i g = gate_between x world ranges f i g
gate_by _ x world ranges f i g = []

abbrev pub gate_line : Sight → (ℕ → ℕ) → List WorldRange → ℕ → ℕ → Option Capability → List ℕ
gate_line x world ranges f i None = []
gate_line x world ranges f i (Some k) = gate_by k.kind x world ranges f i k.frame

-- The lines of the gates that node f holds.
abbrev pub gate_lines : Sight → (ℕ → ℕ) → List WorldRange → ℕ → List ℕ
gate_lines x world ranges f = lines_below (λ i. gate_line x world ranges f i (x.held f i)) 64

-- The lines of the worlds of a partition, then of the gates between them.
abbrev pub text_by : Sight → (ℕ → ℕ) → List WorldRange → List ℕ
text_by x world ranges = lines_below (world_line x world ranges) x.frames ++ lines_below (gate_lines x world ranges) x.frames

abbrev pub worlds_text : Sight → (ℕ → ℕ) → List ℕ
worlds_text x world = text_by x world (ranges_of x world)
