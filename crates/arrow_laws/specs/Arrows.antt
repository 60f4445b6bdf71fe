-- What the arrows of a picture say of its trace.
use Rattle.std.specs.Prelude.{◌≡◌, ◌≢◌, ◌<◌, ◌==◌, ◌&&◌, if◌then◌else◌, ◌∷◌}
use Rattle.page_drawing.specs.kernel_history.specs.{ℕ, suc, Bool, true, false, not, ltb as nat_lt}
use Rattle.page_drawing.specs.kernel_history.specs.{[], length, Option, Some, is_some, Setting, IsSetting, Word, same_word, word_of}
use Rattle.page_drawing.specs.kernel_history.specs.{left_of, Step, calls_of, IsLegal, shape_of, Reply}
use Rattle.page_drawing.specs.{Page, page_after, next_step}
use Rattle.page_drawing.specs.page_layers.specs.{Seen.Seen, Seen.seen, Lanes.overlaps, declared.lanes.Change.Change}
use Rattle.{page_drawing.specs.kernel_history.specs.Trace.Trace, page_drawing.specs.Pages.tail_at, page_drawing.specs.Pages.lane_at}

-- A step leaves another value in this word.
abbrev pub changes : Step → Word → Bool
changes e w = same_word w (word_of e.move) && not (e.found == left_of e.move e.found)

-- The trace up to the newest change of a word, which stands at its head; nothing where no step has changed it.
abbrev pub newest : Trace → Word → Trace
newest [] w = []
newest (e ∷ t) w = if changes e w then e ∷ t else newest t w

-- A page that has taken all steps of the trace.
abbrev pub HasTaken : ℕ → Setting → Trace → Type 0
HasTaken page setup t = (page_after page setup t).is_cut ≡ false

-- The arrow to e, after t, comes from this change, where one does.
abbrev pub arrow_to : ℕ → Setting → Trace → Step → Option Change
arrow_to page setup t e = tail_at (page_after page setup t) (seen (shape_of setup) e)

-- The tail is the newest change of e's word, and another core's; the change says its core, its step and its call; and e finds what it left.
pub record ComesFrom (t : Trace) (e : Step) (c : Change) : Type 0 where
  pub tail : Step
  pub before : Trace
  pub is_newest : newest t (word_of e.move) ≡ tail ∷ before
  pub other : tail.core ≢ e.core
  pub core : c.core ≡ tail.core
  pub step : c.step ≡ suc (length before)
  pub call : c.index ≡ length (calls_of (tail ∷ before) tail.core)
  pub same_value : e.found ≡ left_of tail.move tail.found

abbrev pub HeadsFindTails : Type 0
HeadsFindTails = (page : ℕ) (setup : Setting) (t : Trace) (e : Step) (c : Change) → IsSetting setup → IsLegal setup (e ∷ t)
    → HasTaken page setup t → arrow_to page setup t e ≡ Some c → ComesFrom t e c

-- The number of the step at which a core has entered a call last; 0 where it has entered none. And that of its last return.
abbrev pub entered_at : Trace → ℕ → ℕ
entered_at [] c = 0
entered_at (e ∷ t) c = if c == e.core && is_some e.enters then suc (length t) else entered_at t c

abbrev pub returned_at : Trace → ℕ → ℕ
returned_at [] c = 0
returned_at (e ∷ t) c = if c == e.core && is_some e.returns then suc (length t) else returned_at t c

-- The steps before the one at which a core has entered a call last; none where it has entered none.
abbrev pub before_entry : Trace → ℕ → Trace
before_entry [] c = []
before_entry (e ∷ t) c = if c == e.core && is_some e.enters then t else before_entry t c

-- The arrow to e from this change is a line; else it is short.
abbrev pub is_line_on : Page → Seen → Change → Bool
is_line_on p s c = overlaps (lane_at p s (next_step p)) c

abbrev pub is_line : ℕ → Setting → Trace → Step → Change → Bool
is_line page setup t e c = is_line_on (page_after page setup t) (seen (shape_of setup) e) c

-- An arrow is a line exactly where its two calls overlap: where the tail's core had not returned from the tail on when the call of the
-- head was entered.
abbrev pub LinesOverlap : Type 0
LinesOverlap = (page : ℕ) (setup : Setting) (t : Trace) (e : Step) (c : Change) → IsSetting setup → IsLegal setup (e ∷ t)
    → HasTaken page setup t → arrow_to page setup t e ≡ Some c
    → is_line page setup t e c ≡ nat_lt (returned_at (before_entry (e ∷ t) e.core) c.core) c.step

-- An arrow that is a line, and whose tail is later than the entry of e's call.
pub record IsLateLine (page : ℕ) (setup : Setting) (t : Trace) (e : Step) : Type 0 where
  pub change : Change
  pub arrow : arrow_to page setup t e ≡ Some change
  pub line : is_line page setup t e change ≡ true
  pub later : entered_at t e.core < change.step

abbrev pub RacesAreLines : Type 0
RacesAreLines = (page : ℕ) (setup : Setting) (t : Trace) (e : Step) → IsSetting setup → IsLegal setup (e ∷ t)
    → HasTaken page setup t → e.decides ≡ Some Reply.Raced → IsLateLine page setup t e
