-- The rows of a page: how many steps and calls it has room for, and the heights of its steps, in pixels: each is the greatest that a rule
-- asks for.
use Rattle.std.specs.Prelude.{ℕ, ◌+◌, ◌*◌, ◌≤◌, max, nat_lt, nat_le, ◌&&◌, ◌||◌, Bool, if◌then◌else◌, List, slice_index_or, slice_set, All}
use Rattle.picture_rows.specs.{declared.rows.Placed.Placed, declared.rows.Rows.Rows}

-- A page has room for 2,000 steps, and for 60 calls: it is full for each step more, and for one that enters a 61st call.
abbrev pub is_full : Rows → Bool → Bool
is_full p enters = nat_le 2000 p.count || (enters && nat_le 60 p.calls)

abbrev pub calls_after : Rows → Placed → ℕ
calls_after p s = if s.enters then p.calls + 1 else p.calls

-- A step has an event where it enters, decides or returns a call.
abbrev pub has_event : Placed → Bool
has_event s = s.enters || (s.decides || s.returns)

-- A step has a text where it decides or is met, that is, has an arrow's head.
abbrev pub has_text : Placed → Bool
has_text s = s.decides || s.met

-- A step is quiet where it has no event, is not met and leaves its word as it was. So many of one core in a row are quiet up to it.
abbrev pub quiet_after : Rows → Placed → ℕ
quiet_after p s =
    if has_event s || (s.met || s.changes) then 0
    else if s.follows then p.quiet + 1
    else 1

-- Every step is 2 below the step before, but the ninth quiet step of one core in a row and those after it.
abbrev pub own_y : Rows → Placed → ℕ
own_y p s = if nat_lt 8 (quiet_after p s) then p.y else p.y + 2

-- A step with a text is 17 below the last one that has one.
abbrev pub text_y : Rows → Placed → ℕ
text_y p s = if has_text s then p.text + 17 else 0

-- A step with an event is not above what is due of its core.
abbrev pub event_y : Rows → Placed → ℕ
event_y p s = if has_event s then slice_index_or p.due s.core 0 else 0

abbrev pub step_y : Rows → Placed → ℕ
step_y p s = max (own_y p s) (max (text_y p s) (event_y p s))

-- How far below an event the next one of its core is: an entry is 8 below a return; a decision 20 below the entry; a return 8 below the
-- decision, or 22 where that is the entry too.
abbrev pub room_after : Placed → ℕ
room_after s =
    if s.returns then 8
    else if s.decides then (if s.enters then 22 else 8)
    else 20

abbrev pub due_after : Rows → Placed → ℕ → List ℕ
due_after p s y = if has_event s then slice_set p.due s.core (y + room_after s) else p.due

-- The rows with a step more, at this height.
abbrev pub rows_at : Rows → Placed → ℕ → Rows
rows_at p s y = record {
  count = p.count + 1;
  calls = calls_after p s;
  y = y;
  text = if has_text s then y else p.text;
  quiet = quiet_after p s;
  due = due_after p s y;
}

abbrev pub rows_after : Rows → Placed → Rows
rows_after p s = rows_at p s (step_y p s)

-- The rows of a page without steps, where this is due of the cores.
abbrev pub no_rows : List ℕ → Rows
no_rows due = record { count = 0; calls = 0; y = 156; text = 139; quiet = 0; due = due }

-- A page has at most 2,000 steps and 60 calls; no step is more than 22 below the one before, and nothing is due more than 22 below the
-- last.
pub record IsWithin (p : Rows) : Type 0 where
  pub count : p.count ≤ 2000
  pub calls : p.calls ≤ 60
  pub height : p.y ≤ 156 + 22 * p.count
  pub text : p.text ≤ p.y
  pub quiet : p.quiet ≤ p.count
  pub due : All (λ d. d ≤ p.y + 22) p.due
