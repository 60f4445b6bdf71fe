-- The bars of calls: a rectangle with a title, a name, an edge where the core steps, and teeth where the page cuts it.
use Rattle.std.specs.Prelude.{ℕ, ◌+◌, ◌-◌, ◌*◌, List, ◌++◌, codes, decimal}
use Rattle.picture_shapes.specs.Frame.{lane_x}

-- A bar from one height to another, up to the words of its title, and what comes after these.
unfoldable pub bar_at : ℕ → ℕ → ℕ → List ℕ
bar_at x y height =
    codes "<rect x='" ++ (decimal x ++ (codes "' y='" ++ (decimal y ++ (codes "' width='38' height='" ++ (decimal height
    ++ codes "' rx='3' class='bar'><title>")))))

abbrev pub bar_begin : ℕ → ℕ → ℕ → List ℕ
bar_begin core top end = bar_at (lane_x core) top (end - top)

unfoldable pub bar_end : List ℕ
bar_end = codes "</title></rect>\n"

-- The name of a bar, up to its words.
unfoldable pub bar_name_begin : ℕ → ℕ → List ℕ
bar_name_begin core y =
    codes "<text x='" ++ (decimal (lane_x core + 22) ++ (codes "' y='" ++ (decimal y ++ codes "' class='s c'>")))

-- A piece of the edge, from the height of one step to 2 below that of another.
unfoldable pub edge : ℕ → ℕ → ℕ → List ℕ
edge core first last =
    codes "<rect x='" ++ (decimal (lane_x core) ++ (codes "' y='" ++ (decimal first ++ (codes "' width='7' height='"
    ++ (decimal (last - first + 2) ++ codes "' class='run'/>\n")))))

-- The teeth of a bar that begins before the page, and of one that goes on after it, where the last step has this height.
unfoldable pub upper_teeth : ℕ → List ℕ
upper_teeth core =
    codes "<path d='M" ++ (decimal (lane_x core - 1) ++ codes " 140V146l5 5l5 -5l5 5l5 -5l5 5l5 -5l5 5l5 -5V140z' class='paper'/>\n")

unfoldable pub lower_teeth : ℕ → ℕ → List ℕ
lower_teeth core y =
    codes "<path d='M" ++ (decimal (lane_x core - 1) ++ (codes " " ++ (decimal (y + 16) ++ (codes "V" ++ (decimal (y + 10)
    ++ (codes "l5 -5l5 5l5 -5l5 5l5 -5l5 5l5 -5l5 5V" ++ (decimal (y + 16) ++ codes "z' class='paper'/>\n")))))))
