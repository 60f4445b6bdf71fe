-- The pages of a trace. A page has at most 60 calls and 2,000 steps: it ends before the step at which a 61st call would be entered, or
-- before the 2,001st step, and the next begins there. One of them is drawn.
use Rattle.std.specs.Prelude.{◌+◌, ◌*◌, ◌≤◌, ◌==◌, ◌&&◌, if◌then◌else◌, ◌∷◌}
use Rattle.page_touches.specs.step_views.specs.kernel_history.specs.{ℕ, All, ltb as nat_lt, not, Bool, true, false}
use Rattle.page_touches.specs.step_views.specs.kernel_history.specs.{is_some, List, [], replicate, get_or as slice_index_or}
use Rattle.page_touches.specs.step_views.specs.kernel_history.specs.{set as slice_set, Option}
use Rattle.page_touches.specs.step_views.specs.kernel_history.specs.{Some, None, Setting, size_of, shape_of}
use Rattle.page_touches.specs.page_layers.specs.{seen, no_call, lane_entered, lane_decided, lane_topped}
use Rattle.picture_rows.specs.{is_full, no_rows, rows_after}
use Rattle.picture_rows.specs.{declared.rows.Placed.Placed, declared.rows.Rows.Rows, Rows.IsWithin}
use Rattle.page_touches.specs.page_layers.specs.{Seen.Seen, Lanes.lane_returned, Layers.Layers, Layers.no_layers, Layers.with_step}
use Rattle.page_touches.specs.page_layers.specs.{Layers.with_edge}
use Rattle.page_touches.specs.page_layers.specs.{Layers.with_return, declared.lanes.Lane.Lane, declared.lanes.Change.Change}
use Rattle.page_touches.specs.page_layers.specs.{declared.sheet.Moment.Moment}
use Rattle.page_touches.specs.Touches.{untouched, touched, tail_of, start_words, frames_after, frame_of}
use Rattle.{page_touches.specs.step_views.specs.kernel_history.specs.Trace.Trace, page_touches.specs.declared.touches.Touch.Touch}
use Rattle.{page_drawing.specs.declared.page.Run.Run}

-- What is known after some steps: the page that is asked for and the page so far; whether there are more steps after the page that is
-- asked for; how many steps lie before the page, and how many calls are decided up to now; the cores' calls; the words of the table, by
-- their places; the frames' words; the rows of the page; the core that steps, since when; and the layers of the page that is asked for.
pub record Page : Type 0 where
  pub cores : ℕ
  pub wanted : ℕ
  pub page : ℕ
  pub is_cut : Bool
  pub first : ℕ
  pub decisions : ℕ
  pub lanes : List Lane
  pub words : List Touch
  pub frames : List ℕ
  pub rows : Rows
  pub run : Option Run
  pub layers : Layers

-- Before any step, in a machine of this setup.
abbrev pub blank : ℕ → Setting → Page
blank wanted setup = record {
  cores = setup.cores;
  wanted = wanted;
  page = 1;
  is_cut = false;
  first = 0;
  decisions = 0;
  lanes = replicate 8 no_call;
  words = replicate (size_of (shape_of setup)) untouched;
  frames = start_words setup.cores setup.frames;
  rows = no_rows (replicate 8 156);
  run = None;
  layers = no_layers;
}

-- So many steps lie on a page, and no more calls are decided, or entered by a core, than steps are made: each number has its room.
pub record IsSound (rows : Rows) (cores page first decisions : ℕ) (lanes : List Lane) : Type 0 where
  pub within : IsWithin rows
  pub few_cores : cores ≤ 8
  pub before : first ≤ 2000 * page
  pub decided : decisions ≤ first + rows.count
  pub entered : All (λ l. l.index ≤ first + rows.count) lanes

-- A core's calls, and what is due of a core at the beginning of a page: of one in a call that is not decided, its decision.
abbrev pub lane_of : List Lane → ℕ → Lane
lane_of lanes core = slice_index_or lanes core no_call

abbrev pub first_due : Lane → ℕ
first_due l = if is_some l.call && not (is_some l.reply) then 176 else 156

abbrev pub first_dues : List Lane → List ℕ
first_dues lanes =
    first_due (lane_of lanes 0) ∷ first_due (lane_of lanes 1) ∷ first_due (lane_of lanes 2) ∷ first_due (lane_of lanes 3)
    ∷ first_due (lane_of lanes 4) ∷ first_due (lane_of lanes 5) ∷ first_due (lane_of lanes 6) ∷ first_due (lane_of lanes 7) ∷ []

-- The step of each core's last return.
abbrev pub returns_of : List Lane → List ℕ
returns_of lanes =
    (lane_of lanes 0).returned ∷ (lane_of lanes 1).returned ∷ (lane_of lanes 2).returned ∷ (lane_of lanes 3).returned
    ∷ (lane_of lanes 4).returned ∷ (lane_of lanes 5).returned ∷ (lane_of lanes 6).returned ∷ (lane_of lanes 7).returned ∷ []

-- The next page begins.
abbrev pub turned : Page → Page
turned p = record p {
  page = p.page + 1;
  first = p.first + p.rows.count;
  rows = no_rows (first_dues p.lanes);
  run = None;
}

-- A core steps on from an earlier step of the page, where it enters no call, or its run begins here.
abbrev pub follows : Option Run → ℕ → Bool
follows None core = false
follows (Some r) core = r.core == core

abbrev pub run_after : Option Run → Seen → ℕ → Option Run
run_after run s y = if follows run s.core && not (is_some s.enters) then run else Some (record { core = s.core; y = y })

-- Where a run ends its piece of the edge is drawn, down to the last step.
abbrev pub run_ended : Option Run → ℕ → Layers → Layers
run_ended None last l = l
run_ended (Some r) last l = with_edge r.core r.y last l

abbrev pub run_left : Option Run → Seen → ℕ → Layers → Layers
run_left run s last l = if follows run s.core && not (is_some s.enters) then l else run_ended run last l

-- What the height of a step depends on.
abbrev pub placed : Page → Seen → Option Change → Placed
placed p s tail = record {
  core = s.core;
  enters = is_some s.enters;
  decides = is_some s.decides;
  returns = is_some s.returns;
  met = is_some tail;
  changes = not (s.found == s.left);
  follows = follows p.run s.core;
}

-- The number of the next step.
abbrev pub next_step : Page → ℕ
next_step p = p.first + (p.rows.count + 1)

-- The core's calls at the step, with its entry and its decision.
abbrev pub lane_at : Page → Seen → ℕ → Lane
lane_at p s n = lane_decided s.decides n (lane_entered s.enters n (returns_of p.lanes) (lane_of p.lanes s.core))

abbrev pub tail_at : Page → Seen → Option Change
tail_at p s = tail_of (slice_index_or p.words s.place untouched) s

-- How many calls are decided, with the step.
abbrev pub decisions_after : Page → Seen → ℕ
decisions_after p s = if is_some s.decides then p.decisions + 1 else p.decisions

-- Where the step stands, at height y.
abbrev pub moment : Page → Seen → ℕ → ℕ → Moment
moment p s n y = record {
  cores = p.cores;
  first = p.first;
  frame = frame_of s.word p.frames;
  y = y;
  step = n;
  number = decisions_after p s;
}

-- The layers after the step, on the page that is asked for.
abbrev pub layers_at : Page → Seen → Lane → ℕ → ℕ → Layers
layers_at p s l n y =
    with_return (moment p s n y) s.core s.returns l
    (with_step (moment p s n y) s l (tail_at p s) (run_left p.run s p.rows.y p.layers))

abbrev pub layers_after : Page → Seen → Lane → ℕ → ℕ → Layers
layers_after p s l n y = if p.page == p.wanted then layers_at p s l n y else p.layers

-- The change that the step makes.
abbrev pub change_at : Seen → Lane → ℕ → ℕ → Change
change_at s l n y = record { core = s.core; index = l.index; step = n; y = y }

abbrev pub words_after : Page → Seen → Lane → ℕ → ℕ → List Touch
words_after p s l n y =
    slice_set p.words s.place
    (touched (not (s.found == s.left)) (change_at s l n y) (slice_index_or p.words s.place untouched))

-- The page with the step noted and not drawn, where the rows and its core's calls are these; then with its layers.
abbrev pub noted : Page → Seen → Rows → Lane → ℕ → Page
noted p s rows l n = record p {
  decisions = decisions_after p s;
  lanes = slice_set p.lanes s.core (lane_returned s.returns n l);
  words = words_after p s l n rows.y;
  frames = frames_after s.word s.left p.frames;
  rows = rows;
  run = run_after p.run s rows.y;
}

abbrev pub taken_at : Page → Seen → Rows → Lane → ℕ → Page
taken_at p s rows l n = noted (record p { layers = layers_after p s l n rows.y }) s rows l n

abbrev pub taken_in : Page → Seen → Rows → Page
taken_in p s rows = taken_at p s rows (lane_topped s.enters rows.y (lane_at p s (next_step p))) (next_step p)

abbrev pub taken : Page → Seen → Page
taken p s = taken_in p s (rows_after p.rows (placed p s (tail_at p s)))

-- After a step: where the page has no room, the next one begins with it; after the page that is asked for nothing more is taken.
abbrev pub turned_to : Page → Seen → Page
turned_to p s = if nat_lt p.page p.wanted then taken (turned p) s else record p { is_cut = true }

abbrev pub step_taken : Page → Seen → Page
step_taken p s =
    if p.is_cut then p
    else if is_full p.rows (is_some s.enters) then turned_to p s
    else taken p s

-- After a trace.
abbrev pub page_after : ℕ → Setting → Trace → Page
page_after wanted setup [] = blank wanted setup
page_after wanted setup (e ∷ t) = step_taken (page_after wanted setup t) (seen (shape_of setup) e)
