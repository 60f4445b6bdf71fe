-- The stamps that the count words of a frame show at each moment, also while calls hold them: with what these calls have still to store,
-- the newest is that of the grace period of the frame which began last.
use Rattle.std.specs.Prelude.{◌≡◌, ◌==◌, ◌&&◌, ◌∷◌, if◌then◌else◌}
use Rattle.kernel_history.specs.{ℕ, max, List, [], Option, Some, None, is_some, Setting, CountWord}
use Rattle.kernel_history.specs.{Hold, Unheld, Pinned, Closed, FrameOf, counters, count_at, begins_at, stamp, phase, last_left}
use Rattle.{kernel_history.specs.Trace.Trace, history_laws.specs.Counts.is_carried_out, history_laws.specs.Counts.has_cleared}

-- The stamp that the last decision of core c has drawn for frame f: the value of the clock that its step found, where it began a grace
-- period of the frame; else 0.
abbrev pub drawn_by : Setting → Trace → ℕ → ℕ → ℕ
drawn_by setup [] c f = 0
drawn_by setup (e ∷ t) c f =
    if c == e.core && is_some e.decides then (if begins_at setup t e (FrameOf f) then e.found else 0) else drawn_by setup t c f

-- The stamp that a word of frame f will show, which core d holds and which shows this stamp, once d's call has stored there: none, where
-- the call has made f untyped; where it is carried out otherwise, the later of this stamp and what its decision has drawn for f; else this
-- one.
abbrev pub once_stored : Setting → Trace → ℕ → ℕ → ℕ → ℕ
once_stored setup t f d shown =
    if has_cleared f (phase t d) then 0
    else (if is_carried_out (phase t d) then max shown (drawn_by setup t d f) else shown)

-- The stamp that a word of frame f will show, which shows this hold and this stamp.
abbrev pub stamp_then : Setting → Trace → ℕ → Hold → ℕ → ℕ
stamp_then setup t f Unheld shown = shown
stamp_then setup t f (Pinned d) shown = once_stored setup t f d shown
stamp_then setup t f (Closed d) shown = once_stored setup t f d shown

abbrev pub will_date : Setting → Trace → ℕ → Option CountWord → ℕ
will_date setup t f None = 0
will_date setup t f (Some v) = stamp_then setup t f v.hold v.stamp

-- The newest stamp that the words of these numbers will show.
abbrev pub newest_then : Setting → Trace → ℕ → List ℕ → ℕ
newest_then setup t f [] = 0
newest_then setup t f (k ∷ ks) = max (will_date setup t f (count_at (last_left setup t) f k)) (newest_then setup t f ks)

-- At each moment the newest stamp that the count words of a frame will show is that of the grace period of the frame which began last; 0
-- before the first, and from when the frame is made untyped.
abbrev pub StampsTell : Setting → Trace → Type 0
StampsTell setup t = (f : ℕ) → newest_then setup t f (counters setup.cores) ≡ stamp setup t (FrameOf f)
