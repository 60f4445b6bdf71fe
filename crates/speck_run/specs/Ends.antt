-- The theorem on endpoint calls after lists.
use Rattle.std.specs.Prelude.{◌≡◌, ◌++◌}
use Rattle.trace_run.specs.lone_kernel.specs.kernel_history.specs.{ℕ, List, Call, Setting, lines_below, decisions_by}
use Rattle.trace_run.specs.lone_kernel.specs.kernel_history.specs.{reply_lines, calls_of}
use Rattle.ends_text.specs.{done_lines, end_lines}
use Rattle.{async_ends.specs.declared.asks.EndAsk.EndAsk, ends_run.specs.Ends.EndsHistory}

-- The reply lines of the lists' calls, core by core, then the lines of the endpoint calls, core by core, then those of the frames.
abbrev pub ends_text : (setup : Setting) (lists : List (List Call)) (asks : List (List EndAsk)) → EndsHistory setup lists asks → List ℕ
ends_text setup lists asks h =
    lines_below (λ c. reply_lines (calls_of h.first) (decisions_by h.first c)) setup.cores
    ++ (lines_below (λ c. done_lines c 1 (h.made c).done) setup.cores ++ end_lines h.events 512)

-- There is one history of the machine that has the lists and, after all of them, the looks of the endpoint calls, and one legal endpoint
-- history beside it; and this is their text.
pub record EndsText (setup : Setting) (lists : List (List Call)) (asks : List (List EndAsk)) (text : List ℕ) : Type 0 where
  pub ends : EndsHistory setup lists asks
  pub is_text : text ≡ ends_text setup lists asks ends
