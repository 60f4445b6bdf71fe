-- The layers of a page, the lower ones first, and what a step and a call add to them.
use Rattle.std.specs.Prelude.{◌+◌, ◌*◌, ◌||◌, if◌then◌else◌, ◌++◌}
use Rattle.word_texts.specs.step_views.specs.kernel_history.specs.{ℕ, max, ltb as nat_lt, leb as nat_le, Bool, true, false}
use Rattle.word_texts.specs.step_views.specs.kernel_history.specs.{List, [], codes, Option, Some, None, is_some, reply_text, Call, Reply}
use Rattle.picture_shapes.specs.{declared.lines.Outcome.Outcome, declared.lines.Outcome.TheVariants.Done}
use Rattle.picture_shapes.specs.{declared.lines.Outcome.TheVariants.Refused, declared.lines.Outcome.TheVariants.InTheWay, Frame.lane}
use Rattle.picture_shapes.specs.{Frame.core_names, Bars.bar_begin, Bars.bar_end, Bars.bar_name_begin, Bars.edge, Bars.upper_teeth}
use Rattle.picture_shapes.specs.{Bars.lower_teeth, Arrows.arrow_begin, Arrows.line_arrow, Arrows.short_arrow, Lines.lead, Lines.step_number}
use Rattle.picture_shapes.specs.{Lines.decision_number, Lines.line_begin, Lines.text_end, Lines.span_begin, Lines.aside_begin}
use Rattle.picture_shapes.specs.{Lines.span_end, Lines.reply_style, Lines.mark}
use Rattle.page_layers.specs.{Seen.Seen, Lanes.outcome, Lanes.overlaps, Lanes.top_y, Lanes.name_y, Lanes.change_y, Words.letters}
use Rattle.page_layers.specs.{Words.call_name, Words.lane_words, Words.found_words, Words.finder_words, Words.arrow_words, Words.bar_words}
use Rattle.page_layers.specs.{declared.lanes.Lane.Lane, declared.lanes.Change.Change, declared.sheet.Moment.Moment}

-- The lanes; the dotted lines; arrows; bars; their edges; their teeth; the marks of decisions and the names of bars; the texts of the
-- history; the names of the cores. Beside them the letters of the longest text, and how many calls stand below as in progress.
pub record Layers : Type 0 where
  pub letters : ℕ
  pub feet : ℕ
  pub grounds : List ℕ
  pub leads : List ℕ
  pub arrows : List ℕ
  pub bars : List ℕ
  pub edges : List ℕ
  pub teeth : List ℕ
  pub marks : List ℕ
  pub texts : List ℕ
  pub names : List ℕ

abbrev pub no_layers : Layers
no_layers = record {
  letters = 38;
  feet = 0;
  grounds = [];
  leads = [];
  arrows = [];
  bars = [];
  edges = [];
  teeth = [];
  marks = [];
  texts = [];
  names = [];
}

-- A step is blamed on the change that it finds where it decides that another is in the way.
abbrev pub in_the_way : Outcome → Bool
in_the_way InTheWay = true
in_the_way o = false

abbrev pub is_blamed : Option Reply → Bool
is_blamed None = false
is_blamed (Some r) = in_the_way (outcome r)

-- The arrow to a step from a change: a line where the two calls overlap, else a short one.
abbrev pub arrow_shape : Moment → Seen → Lane → Change → List ℕ
arrow_shape m s l c =
    if overlaps l c
    then line_arrow (is_blamed s.decides) (nat_lt c.core s.core) c.core (change_y m.first c) s.core m.y
    else short_arrow (is_blamed s.decides) (nat_lt c.core s.core) s.core m.y

abbrev pub with_arrow : Moment → Seen → Lane → Option Change → Layers → Layers
with_arrow m s l None p = p
with_arrow m s l (Some c) p = record p { arrows = p.arrows ++ (arrow_begin ++ (arrow_words m.frame s l c ++ arrow_shape m s l c)) }

-- The text of a decision: the call with its reply, and then what the step finds, where it is met.
abbrev pub aside : Moment → Seen → Option Change → List ℕ
aside m s None = []
aside m s (Some c) = aside_begin ++ (found_words m.frame s c ++ span_end)

abbrev pub aside_letters : Moment → Seen → Option Change → ℕ
aside_letters m s None = 0
aside_letters m s (Some c) = letters (found_words m.frame s c)

abbrev pub reply_span : Reply → List ℕ
reply_span r = span_begin (reply_style (outcome r)) ++ (reply_text r ++ span_end)

abbrev pub decision_line : Moment → Seen → Lane → Reply → Option Change → List ℕ
decision_line m s l r tail =
    line_begin m.cores m.y ++ (lane_words s.core l ++ (codes " = " ++ (reply_span r ++ (aside m s tail ++ text_end))))

abbrev pub decision_letters : Moment → Seen → Lane → Reply → Option Change → ℕ
decision_letters m s l r tail = letters (lane_words s.core l) + letters (reply_text r) + aside_letters m s tail + 5

-- The text of a step that is met and decides nothing.
abbrev pub found_line : Moment → Seen → Lane → Change → List ℕ
found_line m s l c =
    line_begin m.cores m.y ++ (span_begin (codes "m") ++ (finder_words s.core l ++ (found_words m.frame s c ++ (span_end ++ text_end))))

abbrev pub found_letters : Moment → Seen → Lane → Change → ℕ
found_letters m s l c = letters (finder_words s.core l) + letters (found_words m.frame s c) + 2

-- Each decision has its text, its number and its mark; each other step that is met its text.
abbrev pub with_line : List ℕ → ℕ → Layers → Layers
with_line line n p = record p { letters = max p.letters n; texts = p.texts ++ line }

abbrev pub with_words : Moment → Seen → Lane → Option Reply → Option Change → Layers → Layers
with_words m s l None None p = p
with_words m s l None (Some c) p = with_line (found_line m s l c) (found_letters m s l c) p
with_words m s l (Some r) tail p =
    record (with_line (decision_line m s l r tail ++ decision_number m.cores m.y m.number) (decision_letters m s l r tail) p)
    { marks = p.marks ++ mark (outcome r) s.core m.y }

-- A dotted line leads to each text, and the step's number stands at the left margin.
abbrev pub with_lead : Moment → Bool → Layers → Layers
with_lead m false p = p
with_lead m true p = record p { leads = p.leads ++ lead m.cores m.y; texts = p.texts ++ step_number m.y m.step }

-- The layers after a step.
abbrev pub with_step : Moment → Seen → Lane → Option Change → Layers → Layers
with_step m s l tail p =
    with_lead m (is_some s.decides || is_some tail) (with_words m s l s.decides tail (with_arrow m s l tail p))

-- A piece of the edge of a core's bar.
abbrev pub with_edge : ℕ → ℕ → ℕ → Layers → Layers
with_edge core first last p = record p { edges = p.edges ++ edge core first last }

-- The bar of a core's call, down to a height; where it begins before the page, of which so many steps lie before, it is torn.
abbrev pub bar_teeth : ℕ → ℕ → Lane → List ℕ
bar_teeth core first l = if nat_le l.entered first then upper_teeth core else []

abbrev pub with_bar : ℕ → Lane → ℕ → ℕ → Option ℕ → Layers → Layers
with_bar core l first end last p = record p {
  bars = p.bars ++ (bar_begin core (top_y first l) end ++ (bar_words core l last ++ bar_end));
  marks = p.marks ++ (bar_name_begin core (name_y first l) ++ (call_name core l.index ++ text_end));
  teeth = p.teeth ++ bar_teeth core first l;
}

-- The bar of a call that returns at a step, to 2 below it.
abbrev pub with_return : Moment → ℕ → Option Reply → Lane → Layers → Layers
with_return m core None l p = p
with_return m core (Some r) l p = with_bar core l m.first (m.y + 2) (Some m.step) p

-- At the page's end, whose last step has height y: a core's lane and its names; the bar of the call in which it still is, torn below; and
-- that call's line below, where it is not decided.
abbrev pub with_ground : ℕ → ℕ → Layers → Layers
with_ground core y p = record p { grounds = p.grounds ++ lane core y; names = p.names ++ core_names core y }

abbrev pub with_open_bar : ℕ → Lane → ℕ → ℕ → Layers → Layers
with_open_bar core l first y p =
    record (with_bar core l first (y + 14) None p) { teeth = p.teeth ++ bar_teeth core first l ++ lower_teeth core y }

abbrev pub with_open : ℕ → Lane → Option Call → ℕ → ℕ → Layers → Layers
with_open core l None first y p = p
with_open core l (Some call) first y p = with_open_bar core l first y p

abbrev pub foot_y : ℕ → ℕ → ℕ
foot_y y feet = y + 53 + 17 * feet

-- What stands after a call there.
abbrev pub in_progress : List ℕ
in_progress = aside_begin ++ (codes "in progress" ++ (span_end ++ text_end))

abbrev pub foot_line : ℕ → ℕ → Lane → ℕ → ℕ → List ℕ
foot_line cores core l y feet = line_begin cores (foot_y y feet) ++ (lane_words core l ++ in_progress)

abbrev pub with_foot : ℕ → ℕ → Lane → ℕ → Layers → Layers
with_foot cores core l y p = record p {
  letters = max p.letters (letters (lane_words core l) + 13);
  feet = p.feet + 1;
  texts = p.texts ++ foot_line cores core l y p.feet;
}

abbrev pub with_undecided : ℕ → ℕ → Lane → Option Reply → ℕ → Layers → Layers
with_undecided cores core l None y p = with_foot cores core l y p
with_undecided cores core l (Some r) y p = p

abbrev pub with_progress : ℕ → ℕ → Lane → Option Call → Option Reply → ℕ → Layers → Layers
with_progress cores core l None reply y p = p
with_progress cores core l (Some call) reply y p = with_undecided cores core l reply y p

-- The layers when core's lane is finished.
abbrev pub with_core : ℕ → ℕ → Lane → ℕ → ℕ → Layers → Layers
with_core cores core l first y p =
    with_progress cores core l l.call l.reply y (with_open core l l.call first y (with_ground core y p))
