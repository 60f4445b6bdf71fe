-- The reply lines of a run.
use Rattle.trace_run.specs.lone_kernel.specs.kernel_history.specs.{ℕ, List, [], get_or as slice_index_or, Call, Decision, list_of}
use Rattle.trace_run.specs.lone_kernel.specs.kernel_history.specs.{lines_below, reply_lines}
use Rattle.{async_ends.specs.declared.asks.EndDone.EndDone, ends_text.specs.Lines.done_lines}

-- The reply lines of the decisions, in the order decided, by the lists of the cores' calls.
abbrev pub lines_of : List (List Call) → List Decision → List ℕ
lines_of lists decisions = reply_lines (list_of lists) decisions

-- The lines of the endpoint calls of the first n cores, by the lists of what each has made.
abbrev pub core_lines : List (List EndDone) → ℕ → List ℕ
core_lines done n = lines_below (λ c. done_lines c 1 (slice_index_or done c [])) n
