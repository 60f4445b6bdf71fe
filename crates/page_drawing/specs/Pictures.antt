-- The picture of a page: its name, its key, its layers one over another, and what stands below.
use Rattle.std.specs.Prelude.{◌+◌, ◌*◌, ◌==◌, ◌||◌, if◌then◌else◌, ◌++◌}
use Rattle.page_touches.specs.step_views.specs.kernel_history.specs.{ℕ, zero, suc, max, ltb as nat_lt, Bool, true, false}
use Rattle.page_touches.specs.step_views.specs.kernel_history.specs.{List, [], codes, decimal, Setting}
use Rattle.picture_shapes.specs.Frame.{right_x, picture_begin, picture_end, title_begin, title_end, heading_begin, about, styles, paper}
use Rattle.page_touches.specs.page_layers.specs.{Layers.Layers, Layers.with_core, Layers.foot_y, declared.lanes.Lane.Lane}
use Rattle.page_drawing.specs.Pages.{Page, lane_of, run_ended, page_after}
use Rattle.{page_touches.specs.step_views.specs.kernel_history.specs.Trace.Trace, picture_shapes.specs.Frame.key}
use Rattle.{picture_shapes.specs.Frame.heads}
use Rattle.{picture_shapes.specs.Lines.sentence_begin, picture_shapes.specs.Lines.text_end}

-- So many of a thing.
abbrev pub counted : ℕ → List ℕ → List ℕ
counted n thing = decimal n ++ (codes " " ++ (thing ++ (if n == 1 then [] else codes "s")))

-- The name of a page: its number, where there is more than one, its cores, calls and steps.
abbrev pub number_words : Bool → ℕ → List ℕ
number_words false page = []
number_words true page = codes "Page " ++ (decimal page ++ codes ": ")

unfoldable pub steps_words : ℕ → ℕ → List ℕ
steps_words first last = codes ", steps " ++ (decimal first ++ (codes " to " ++ decimal last))

abbrev pub page_words : Page → List ℕ
page_words p =
    number_words (nat_lt 1 p.page || p.is_cut) p.page
    ++ (counted p.cores (codes "core") ++ (codes ", " ++ (counted p.rows.calls (codes "call")
    ++ steps_words (p.first + 1) (p.first + p.rows.count))))

-- The layers with the lanes of the first n cores finished, where so many steps lie before the page and its last step has height y.
abbrev pub cores_finished : ℕ → List Lane → ℕ → ℕ → Layers → ℕ → Layers
cores_finished cores lanes first y l zero = l
cores_finished cores lanes first y l (suc n) = with_core cores n (lane_of lanes n) first y (cores_finished cores lanes first y l n)

-- The layers at the end of the page: the last run's piece of the edge is drawn, and all lanes are finished.
abbrev pub run_finished : Page → Layers
run_finished p = record (run_ended p.run p.rows.y p.layers) { feet = 0 }

abbrev pub finished : Page → Layers
finished p = cores_finished p.cores p.lanes p.first p.rows.y (run_finished p) p.cores

-- Where a page is cut, a sentence says with which step the next begins.
unfoldable pub cut_here : List ℕ
cut_here = codes "Cut here: a page has at most 60 calls and 2000 steps. The next begins with step "

abbrev pub cut_line : ℕ → ℕ → List ℕ
cut_line y next = sentence_begin y ++ (cut_here ++ (decimal next ++ (codes "." ++ text_end)))

abbrev pub cut_words : Bool → ℕ → ℕ → ℕ → List ℕ
cut_words false y feet next = []
cut_words true y feet next = cut_line (foot_y y feet) next

-- The size of a page: its right half has room for its longest text, 8 pixels a letter.
abbrev pub width_of : ℕ → ℕ → ℕ
width_of cores letters = max 760 (right_x cores + (46 + 8 * letters))

abbrev pub height_of : ℕ → ℕ → Bool → ℕ
height_of y feet cut = y + (46 + 17 * (if cut then feet + 1 else feet))

-- How a picture of this size begins, with this name, as its title and as its heading.
abbrev pub picture_title : List ℕ → List ℕ
picture_title name = title_begin ++ (name ++ title_end)

abbrev pub picture_heading : List ℕ → List ℕ
picture_heading name = heading_begin ++ (name ++ text_end)

abbrev pub picture_head : ℕ → ℕ → List ℕ → List ℕ
picture_head width height name =
    picture_begin width height ++ (picture_title name ++ (about ++ (styles ++ (paper width height ++ picture_heading name))))

-- The layers, one over another.
abbrev pub lower_layers : Layers → List ℕ
lower_layers l = l.grounds ++ (l.leads ++ (l.arrows ++ (l.bars ++ l.edges)))

abbrev pub upper_layers : Layers → List ℕ
upper_layers l = l.teeth ++ (l.marks ++ (l.texts ++ l.names))

abbrev pub layers_text : Layers → List ℕ
layers_text l = lower_layers l ++ upper_layers l

abbrev pub page_text : Page → Layers → List ℕ
page_text p l =
    picture_head (width_of p.cores l.letters) (height_of p.rows.y l.feet p.is_cut) (page_words p)
    ++ (key ++ (heads p.cores ++ (layers_text l ++ (cut_words p.is_cut p.rows.y l.feet (p.first + (p.rows.count + 1)) ++ picture_end))))

-- A page past the end is a sentence.
unfoldable pub none_words : ℕ → ℕ → List ℕ
none_words wanted page = codes "There is no page " ++ (decimal wanted ++ (codes ": the last is page " ++ (decimal page ++ codes ".")))

abbrev pub none_text : ℕ → ℕ → List ℕ
none_text wanted page = picture_head 760 44 (none_words wanted page) ++ picture_end

abbrev pub text_of : Page → List ℕ
text_of p = if p.page == p.wanted then page_text p (finished p) else none_text p.wanted p.page

-- The picture of a page of a trace, in a machine of this setup.
abbrev pub picture : ℕ → Setting → Trace → List ℕ
picture page setup t = text_of (page_after page setup t)
