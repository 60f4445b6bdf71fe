-- The marks of decisions, and the lines of the history with what leads to them. The middle of a step at height y is 1 below that.
use Rattle.std.specs.Prelude.{ℕ, ◌+◌, ◌-◌, List, ◌++◌, codes, decimal}
use Rattle.picture_shapes.specs.declared.lines.Outcome.TheVariants.{Done, Refused, InTheWay}
use Rattle.{picture_shapes.specs.declared.lines.Outcome.Outcome, picture_shapes.specs.Frame.lane_x, picture_shapes.specs.Frame.right_x}

-- The dotted line from the lanes to a text.
unfoldable pub lead_to : ℕ → ℕ → List ℕ
lead_to x y = codes "<path d='M62 " ++ (decimal y ++ (codes "H" ++ (decimal x ++ codes "' class='lead'/>\n")))

abbrev pub lead : ℕ → ℕ → List ℕ
lead cores y = lead_to (right_x cores + 4) (y + 1)

-- The number of a step, at the left margin, and that of a decision, before its text.
unfoldable pub number_at : ℕ → ℕ → ℕ → List ℕ
number_at x y n =
    codes "<text x='" ++ (decimal x ++ (codes "' y='" ++ (decimal y ++ (codes "' class='m s e'>" ++ (decimal n ++ codes "</text>\n")))))

abbrev pub step_number : ℕ → ℕ → List ℕ
step_number y n = number_at 58 (y + 5) n

abbrev pub decision_number : ℕ → ℕ → ℕ → List ℕ
decision_number cores y n = number_at (right_x cores + 22) (y + 5) n

-- A text of the right half, up to its words; one that begins at the left margin, so far down; and what comes after the words.
unfoldable pub line_begin : ℕ → ℕ → List ℕ
line_begin cores y = codes "<text x='" ++ (decimal (right_x cores + 30) ++ (codes "' y='" ++ (decimal (y + 5) ++ codes "'>")))

unfoldable pub sentence_begin : ℕ → List ℕ
sentence_begin y = codes "<text x='26' y='" ++ (decimal (y + 5) ++ codes "' class='m'>")

unfoldable pub text_end : List ℕ
text_end = codes "</text>\n"

-- Words in a style, and words in grey that stand apart.
unfoldable pub span_begin : List ℕ → List ℕ
span_begin style = codes "<tspan class='" ++ (style ++ codes "'>")

unfoldable pub aside_begin : List ℕ
aside_begin = codes "<tspan class='m' dx='16'>"

unfoldable pub span_end : List ℕ
span_end = codes "</tspan>"

-- The style of a reply.
abbrev pub reply_style : Outcome → List ℕ
reply_style Done = codes "okt"
reply_style Refused = codes "not"
reply_style InTheWay = codes "wayt"

unfoldable pub disc : List ℕ → ℕ → ℕ → List ℕ
disc style core y =
    codes "<circle cx='" ++ (decimal (lane_x core + 22) ++ (codes "' cy='" ++ (decimal (y + 1) ++ (codes "' r='5' class='" ++ (style
    ++ codes "'/>\n")))))

unfoldable pub diamond : ℕ → ℕ → List ℕ
diamond core y =
    codes "<path d='M" ++ (decimal (lane_x core + 22) ++ (codes " " ++ (decimal (y - 5) ++ codes "l6 6l-6 6l-6 -6z' class='way'/>\n")))

-- The mark of a decision: a disc, a ring or a diamond.
abbrev pub mark : Outcome → ℕ → ℕ → List ℕ
mark Done core y = disc (codes "ok") core y
mark Refused core y = disc (codes "no") core y
mark InTheWay core y = diamond core y
