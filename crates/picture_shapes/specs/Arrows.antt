-- The arrows: each comes level to the side of a bar, from the left where its tail is on a core of a smaller number.
use Rattle.std.specs.Prelude.{ℕ, ◌+◌, ◌-◌, Bool, true, false, nat_lt, if◌then◌else◌, List, ◌++◌, codes, decimal}
use Rattle.picture_shapes.specs.Frame.{lane_x}

-- An arrow's colour and width: of a race, orange and 2 wide; else blue and 1 wide.
abbrev pub arrow_style : Bool → List ℕ
arrow_style false = codes "flow"
arrow_style true = codes "race"

abbrev pub head_style : Bool → List ℕ
head_style false = codes "flowh"
head_style true = codes "raceh"

-- Where the head touches the bar, and the places 8, 16 and 24 before that.
abbrev pub tip_x : Bool → ℕ → ℕ
tip_x true core = lane_x core
tip_x false core = lane_x core + 38

abbrev pub before_tip : Bool → ℕ → ℕ → ℕ
before_tip true core n = lane_x core - n
before_tip false core n = lane_x core + 38 + n

-- Where a tail leaves its bar.
abbrev pub tail_x : Bool → ℕ → ℕ
tail_x true core = lane_x core + 38
tail_x false core = lane_x core

-- The shape of a head.
abbrev pub head_shape : Bool → List ℕ
head_shape true = codes "l-8 -4v8z"
head_shape false = codes "l8 -4v8z"

-- An arrow, up to the words of its title.
unfoldable pub arrow_begin : List ℕ
arrow_begin = codes "<g><title>"

-- A line from one place to another before a head, and level from there on; the disc at its tail.
unfoldable pub line_from : ℕ → ℕ → List ℕ
line_from x y = codes "</title><path d='M" ++ (decimal x ++ (codes " " ++ decimal y))

unfoldable pub line_to : List ℕ → ℕ → ℕ → ℕ → List ℕ
line_to style x y near =
    codes "L" ++ (decimal x ++ (codes " " ++ (decimal y ++ (codes "H" ++ (decimal near ++ (codes "' class='" ++ (style ++ codes "'/>")))))))

abbrev pub bent_line : List ℕ → ℕ → ℕ → ℕ → ℕ → ℕ → List ℕ
bent_line style x y to_x to_y near = line_from x y ++ line_to style to_x to_y near

unfoldable pub disc_at : List ℕ → ℕ → ℕ → List ℕ
disc_at style x y =
    codes "<circle cx='" ++ (decimal x ++ (codes "' cy='" ++ (decimal y ++ (codes "' r='2' class='" ++ (style ++ codes "'/>")))))

-- A level line to a place.
unfoldable pub level_line : List ℕ → ℕ → ℕ → ℕ → List ℕ
level_line style x y near =
    codes "</title><path d='M" ++ (decimal x ++ (codes " " ++ (decimal y ++ (codes "H" ++ (decimal near ++ (codes "' class='" ++ (style
    ++ codes "'/>")))))))

-- The middle of a step at height y is 1 below that.
abbrev pub line_path : Bool → Bool → ℕ → ℕ → ℕ → ℕ → List ℕ
line_path race right from_core from_y core y =
    bent_line (arrow_style race) (tail_x right from_core) (from_y + 1) (before_tip right core 16) (y + 1) (before_tip right core 8)

abbrev pub tail_disc : Bool → Bool → ℕ → ℕ → List ℕ
tail_disc race right from_core from_y = disc_at (head_style race) (tail_x right from_core) (from_y + 1)

abbrev pub short_path : Bool → Bool → ℕ → ℕ → List ℕ
short_path race right core y = level_line (arrow_style race) (before_tip right core 24) (y + 1) (before_tip right core 8)

-- The head.
unfoldable pub head_at : List ℕ → List ℕ → ℕ → ℕ → List ℕ
head_at style shape x y =
    codes "<path d='M" ++ (decimal x ++ (codes " " ++ (decimal y ++ (shape ++ (codes "' class='" ++ (style ++ codes "'/>"))))))

abbrev pub arrow_head : Bool → Bool → ℕ → ℕ → List ℕ
arrow_head race right core y = head_at (head_style race) (head_shape right) (tip_x right core) (y + 1)

unfoldable pub arrow_end : List ℕ
arrow_end = codes "</g>\n"

-- An arrow after the words of its title: a line, or a short one.
abbrev pub line_arrow : Bool → Bool → ℕ → ℕ → ℕ → ℕ → List ℕ
line_arrow race right from_core from_y core y =
    line_path race right from_core from_y core y ++ (tail_disc race right from_core from_y ++ (arrow_head race right core y ++ arrow_end))

abbrev pub short_arrow : Bool → Bool → ℕ → ℕ → List ℕ
short_arrow race right core y = short_path race right core y ++ (arrow_head race right core y ++ arrow_end)
