-- The texts of finished traces, and of the sequential kernel's run.
use Rattle.std.specs.Prelude.{◌+◌, ◌-◌, ◌==◌, ◌∷◌, ◌++◌}
use Rattle.kernel_rules.specs.{ℕ, zero, suc, List, [], Option, Some, None, slice_get, flat_map, Call, Decision}
use Rattle.kernel_rules.specs.{Setting, start, plain_reply, plain_step, plain_steps}
use Rattle.kernel_history.specs.{Trace.Trace, Trace.state_after, Trace.calls_of, Trace.decisions_of, Tables.tables_of, Tables.lines_below}
use Rattle.{std.specs.List.filter, entry_words.specs.spk_nums.specs.Texts.reply_line_text, kernel_rules.specs.State.State}

-- The reply line of a decision on this call, if there is one.
abbrev pub line_if : Decision → Option Call → List ℕ
line_if d None = []
line_if d (Some call) = reply_line_text d.core d.index call d.reply

-- The reply line of a decision, by the calls of each core.
abbrev pub line_of : (ℕ → List Call) → Decision → List ℕ
line_of calls d = line_if d (slice_get (calls d.core) (d.index - 1))

-- The reply lines of these decisions, in order.
abbrev pub reply_lines : (ℕ → List Call) → List Decision → List ℕ
reply_lines calls decisions = flat_map (line_of calls) decisions

-- The text of given steps: the reply lines in the order decided, then the tables of the state that the trace leaves.
abbrev pub text_of : Setting → Trace → List ℕ
text_of setup t = reply_lines (calls_of t) (decisions_of t) ++ tables_of (state_after setup t)

-- The decisions of core c.
abbrev pub decisions_by : Trace → ℕ → List Decision
decisions_by t c = filter (λ d. d.core == c) (decisions_of t)

-- The text of steps taken by threads: the reply lines of core 0, then of core 1 and so on, then the tables.
abbrev pub text_by_cores : Setting → Trace → List ℕ
text_by_cores setup t = lines_below (λ c. reply_lines (calls_of t) (decisions_by t c)) setup.cores ++ tables_of (state_after setup t)

-- The reply lines of core c's calls that are made alone, one after another, from a state on; the first has this index.
abbrev pub plain_lines : State → ℕ → ℕ → List Call → List ℕ
plain_lines s c index [] = []
plain_lines s c index (call ∷ calls) = reply_line_text c index call (plain_reply s c call)
    ++ plain_lines (plain_step s c call) c (index + 1) calls

-- The state after the calls of the first n lists, core 0's first.
unfoldable pub plain_state : (ℕ → List Call) → ℕ → State → State
plain_state calls zero s = s
plain_state calls (suc n) s = plain_steps (plain_state calls n s) n (calls n)

-- The text of calls made alone: core 0's calls, then core 1's and so on, then the tables of the last state.
abbrev pub plain_text : Setting → (ℕ → List Call) → List ℕ
plain_text setup calls =
    lines_below (λ c. plain_lines (plain_state calls c (start setup)) c 1 (calls c)) setup.cores
    ++ tables_of (plain_state calls setup.cores (start setup))
