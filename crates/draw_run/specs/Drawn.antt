-- What is drawn of a trace by one who watches it.
use Rattle.std.specs.Prelude.{◌≡◌}
use Rattle.told_run.specs.lone_kernel.specs.core_invariant.specs.{ℕ, Setting, Trace}
use Rattle.page_drawing.specs.{Page, blank, page_after}

-- After a blank page, the page that is asked for of the trace.
abbrev pub has_drawn : Setting → Page → Trace → Page → Type 0
has_drawn setup first t last = (wanted : ℕ) → first ≡ blank wanted setup → last ≡ page_after wanted setup t
