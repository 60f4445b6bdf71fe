-- What the rows of a picture say: nothing overlaps.
use Rattle.std.specs.Prelude.{◌≡◌, ◌<◌, ◌≤◌, ◌+◌, ◌==◌, ◌&&◌, ℕ, true, false, List, [], ◌∷◌, ◌++◌, length}
use Rattle.page_drawing.specs.picture_rows.specs.{rows_after, no_rows, declared.rows.Placed.Placed, declared.rows.Rows.Rows, Rows.has_event}
use Rattle.page_drawing.specs.picture_rows.specs.{Rows.has_text, Rows.room_after}

-- The rows of the steps of a page, the newest first, where this is due of the cores at its beginning; and the height of the newest.
abbrev pub rows_of : List ℕ → List Placed → Rows
rows_of due [] = no_rows due
rows_of due (s ∷ t) = rows_after (rows_of due t) s

abbrev pub height : List ℕ → List Placed → ℕ
height due t = (rows_of due t).y

-- None of these steps is one of this core with an event.
abbrev pub AreQuiet : ℕ → List Placed → Type 0
AreQuiet core [] = Unit {0}
AreQuiet core (s ∷ t) = ((s.core == core && has_event s) ≡ false) × AreQuiet core t

-- Of two steps of a page the later one, s, is not above the earlier one, r; it is 17 below it or more where both have texts; and where
-- they are events of one core with none between them, it is as far below as r asks: 8 below a return, 20 below an entry, 8 below a
-- decision, or 22 where that is the entry too.
pub record AreApart (due : List ℕ) (s : Placed) (u : List Placed) (r : Placed) (t : List Placed) : Type 0 where
  pub falls : height due (r ∷ t) ≤ height due (s ∷ (u ++ r ∷ t))
  pub texts : has_text r ≡ true → has_text s ≡ true → height due (r ∷ t) + 17 ≤ height due (s ∷ (u ++ r ∷ t))
  pub events : r.core ≡ s.core → r.core < length due → has_event r ≡ true → has_event s ≡ true → AreQuiet r.core u
      → height due (r ∷ t) + room_after r ≤ height due (s ∷ (u ++ r ∷ t))

abbrev pub RowsAreApart : Type 0
RowsAreApart = (due : List ℕ) (s : Placed) (u : List Placed) (r : Placed) (t : List Placed) → AreApart due s u r t
