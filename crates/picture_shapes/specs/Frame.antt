-- What stands round a picture: its element, title and styles, the key, the names of the cores, and their lanes. Places are in pixels,
-- to the right and down.
use Rattle.std.specs.Prelude.{ℕ, ◌+◌, ◌*◌, List, ◌++◌, codes, decimal}

-- The left of a core's lane, and where the right half begins beside so many cores.
abbrev pub lane_x : ℕ → ℕ
lane_x core = 68 + 72 * core

abbrev pub right_x : ℕ → ℕ
right_x cores = 72 + 72 * cores

-- The element that holds the picture, of this size.
unfoldable pub size_begin : ℕ → ℕ → List ℕ
size_begin width height =
    codes "<svg xmlns='http://www.w3.org/2000/svg' width='" ++ (decimal width ++ (codes "' height='" ++ (decimal height ++ codes "'")))

unfoldable pub view_box : ℕ → ℕ → List ℕ
view_box width height =
    codes " viewBox='0 0 " ++ (decimal width ++ (codes " " ++ (decimal height ++ codes "' role='img' aria-labelledby='t d'>\n")))

abbrev pub picture_begin : ℕ → ℕ → List ℕ
picture_begin width height = size_begin width height ++ view_box width height

unfoldable pub picture_end : List ℕ
picture_end = codes "</svg>\n"

-- Its name: before it and after it, as a title and as a heading.
unfoldable pub title_begin : List ℕ
title_begin = codes "<title id='t'>"

unfoldable pub title_end : List ℕ
title_end = codes "</title>\n"

unfoldable pub heading_begin : List ℕ
heading_begin = codes "<text x='26' y='26' class='t'>"

-- What it shows, in a sentence.
unfoldable pub about_left : List ℕ
about_left =
    codes "<desc id='d'>Time goes downwards. Left: a lane for each core, a bar for each call. "

unfoldable pub about_right : List ℕ
about_right =
    codes "Right: the calls in the order in which they take effect.</desc>\n"

abbrev pub about : List ℕ
about = about_left ++ about_right

-- The styles, light and dark.
unfoldable pub style_font : List ℕ
style_font =
    codes "<style>text{font:12px ui-monospace,SFMono-Regular,Menlo,Consolas,'DejaVu Sans Mono',monospace;fill:#1b1f24;white-space:pre}\n"

unfoldable pub style_colours : List ℕ
style_colours =
    codes ".paper{fill:#ffffff}.t{font-size:15px;font-weight:bold}.m{fill:#57606a}"

unfoldable pub style_sizes : List ℕ
style_sizes =
    codes ".e{text-anchor:end}.c{text-anchor:middle}.s{font-size:10px}\n"

abbrev pub style_texts : List ℕ
style_texts = style_font ++ (style_colours ++ style_sizes)

unfoldable pub style_shapes : List ℕ
style_shapes =
    codes ".lane{stroke:#d8dee4}.lead{stroke:#d0d7de;stroke-dasharray:1 3}.bar{fill:#dde6ef;stroke:#8fa3b8}.run{fill:#5b7a9a}\n"

unfoldable pub style_discs : List ℕ
style_discs =
    codes ".ok{fill:#12805c}.no{fill:#ffffff;stroke:#57606a;stroke-width:2}.way{fill:#c2410c}"

unfoldable pub style_replies : List ℕ
style_replies =
    codes ".okt{fill:#12805c}.not{fill:#57606a}.wayt{fill:#c2410c}\n"

abbrev pub style_bars : List ℕ
style_bars = style_shapes ++ (style_discs ++ style_replies)

unfoldable pub style_flows : List ℕ
style_flows =
    codes ".flow{fill:none;stroke:#2563c9;stroke-width:1}.flowh{fill:#2563c9}"

unfoldable pub style_races : List ℕ
style_races =
    codes ".race{fill:none;stroke:#c2410c;stroke-width:2}.raceh{fill:#c2410c}\n"

unfoldable pub style_still : List ℕ
style_still =
    codes ".lead,.run,.ok,.no,.way,.s{pointer-events:none}\n"

abbrev pub style_arrows : List ℕ
style_arrows = style_flows ++ (style_races ++ style_still)

unfoldable pub dark_colours : List ℕ
dark_colours =
    codes "@media (prefers-color-scheme:dark){text{fill:#e6edf3}.paper{fill:#0d1117}.m,.not{fill:#9aa4af}"

unfoldable pub dark_lanes : List ℕ
dark_lanes =
    codes ".lane{stroke:#2b323b}.lead{stroke:#3a434e}\n"

unfoldable pub dark_bars : List ℕ
dark_bars =
    codes ".bar{fill:#1f2b39;stroke:#52667d}.run{fill:#86a5c6}"

unfoldable pub dark_marks : List ℕ
dark_marks =
    codes ".ok,.okt{fill:#3fbf8f}.no{fill:#0d1117;stroke:#9aa4af}.way,.wayt,.raceh{fill:#ff8a4c}\n"

unfoldable pub dark_lines : List ℕ
dark_lines =
    codes ".flow{stroke:#6ea8ff}.flowh{fill:#6ea8ff}.race{stroke:#ff8a4c}}</style>\n"

abbrev pub style_dark : List ℕ
style_dark = dark_colours ++ (dark_lanes ++ (dark_bars ++ (dark_marks ++ dark_lines)))

abbrev pub styles : List ℕ
styles = style_texts ++ (style_bars ++ (style_arrows ++ style_dark))

-- White below all, or black.
unfoldable pub paper : ℕ → ℕ → List ℕ
paper width height =
    codes "<rect width='" ++ (decimal width ++ (codes "' height='" ++ (decimal height ++ codes "' class='paper'/>\n")))

-- The key: a bar and its edge, the two arrows that are no race, the three marks, and the arrow of a race.
unfoldable pub key_bar_shape : List ℕ
key_bar_shape =
    codes "<rect x='30' y='44' width='24' height='17' rx='3' class='bar'/><rect x='30' y='47' width='7' height='6' class='run'/>"

unfoldable pub key_bar_words : List ℕ
key_bar_words =
    codes "<text x='62' y='56' class='m'>a call; its left edge is filled where its core steps</text>\n"

abbrev pub key_bar : List ℕ
key_bar = key_bar_shape ++ key_bar_words

unfoldable pub key_line_shape : List ℕ
key_line_shape =
    codes "<path d='M26 76H46' class='flow'/><path d='M54 76l-8 -4v8z' class='flowh'/>"

unfoldable pub key_line_words : List ℕ
key_line_words =
    codes "<text x='62' y='80' class='m'>meets what a call in progress at the same time has made</text>\n"

abbrev pub key_line : List ℕ
key_line = key_line_shape ++ key_line_words

unfoldable pub key_short_shape : List ℕ
key_short_shape =
    codes "<path d='M38 100H46' class='flow'/><path d='M54 100l-8 -4v8z' class='flowh'/>"

unfoldable pub key_short_words : List ℕ
key_short_words =
    codes "<text x='62' y='104' class='m'>finds what an earlier call has left</text>\n"

abbrev pub key_short : List ℕ
key_short = key_short_shape ++ key_short_words

unfoldable pub key_done : List ℕ
key_done =
    codes "<circle cx='502' cy='52' r='5' class='ok'/><text x='514' y='56' class='m'>carried out</text>\n"

unfoldable pub key_refused : List ℕ
key_refused =
    codes "<circle cx='614' cy='52' r='5' class='no'/><text x='626' y='56' class='m'>refused</text>\n"

unfoldable pub key_way : List ℕ
key_way =
    codes "<path d='M502 70l6 6l-6 6l-6 -6z' class='way'/><text x='514' y='80' class='m'>refused: another is in the way</text>\n"

abbrev pub key_marks : List ℕ
key_marks = key_done ++ (key_refused ++ key_way)

unfoldable pub key_race_shape : List ℕ
key_race_shape =
    codes "<path d='M482 100H498' class='race'/><path d='M506 100l-8 -4v8z' class='raceh'/>"

unfoldable pub key_race_words : List ℕ
key_race_words =
    codes "<text x='514' y='104' class='m'>what is in the way</text>\n"

abbrev pub key_race : List ℕ
key_race = key_race_shape ++ key_race_words

abbrev pub key : List ℕ
key = key_bar ++ (key_line ++ (key_short ++ (key_marks ++ key_race)))

-- The heads of the two columns of texts.
unfoldable pub heads : ℕ → List ℕ
heads cores =
    codes "<text x='58' y='138' class='m s e'>step</text>\n<text x='" ++ (decimal (right_x cores + 30)
    ++ codes "' y='138' class='m'>in the order in which calls take effect</text>\n")

-- A core's lane down to 14 below the last step, and its name above and below.
unfoldable pub lane : ℕ → ℕ → List ℕ
lane core y =
    codes "<path d='M" ++ (decimal (lane_x core + 19) ++ (codes " 142V" ++ (decimal (y + 14) ++ codes "' class='lane'/>\n")))

unfoldable pub core_name : ℕ → ℕ → ℕ → List ℕ
core_name core x y =
    codes "<text x='" ++ (decimal x ++ (codes "' y='" ++ (decimal y ++ (codes "' class='c m'>core " ++ (decimal core
    ++ codes "</text>\n")))))

abbrev pub core_names : ℕ → ℕ → List ℕ
core_names core y = core_name core (lane_x core + 19) 138 ++ core_name core (lane_x core + 19) (y + 30)
