-- Calls made alone by the plain kernel, and what is written of them.
use Rattle.std.specs.Prelude.{◌≡◌, ◌<◌, ◌^◌, ◌++◌}
use Rattle.plain_kernel.specs.kernel_rules.specs.{ℕ, List, length, All, Setting, InLimits, Call, plain_reply}
use Rattle.plain_kernel.specs.kernel_rules.specs.{plain_step, plain_steps}
use Rattle.plain_tables.specs.kernel_history.specs.{State, lines_below}
use Rattle.plain_tables.specs.kernel_history.specs.Text.{plain_lines, plain_state}
use Rattle.{spk_nums.specs.Texts.reply_line_text, plain_kernel.specs.seq_state.specs.Maps.Maps, plain_kernel.specs.Step.IsReached}

-- The kernel has reached some state.
pub record HasReached (setting : Setting) (k : Maps) : Type 0 where
  pub state : State
  pub reached : IsReached setting k state

-- Lists of calls that can be made: each call within its limits, and fewer than 2^32 in a list.
abbrev pub IsRunnable : List Call → Type 0
IsRunnable calls = All InLimits calls × (length calls < 2 ^ 32)

abbrev pub AreRunnable : List (List Call) → Type 0
AreRunnable lists = All IsRunnable lists

-- The kernel has reached this state, and the text has gone on by these lines.
pub record Ran (setting : Setting) (k : Maps) (s : State) (text lines text' : List ℕ) : Type 0 where
  pub reached : IsReached setting k s
  pub written : text' ≡ text ++ lines

-- From every state that the kernel had reached, a call of core c has been made alone, and its reply line is written.
abbrev pub RunsCall : Setting → Maps → Maps → ℕ → ℕ → Call → List ℕ → List ℕ → Type 0
RunsCall setting k k' c index call text text' = (s : State) → IsReached setting k s
    → Ran setting k' (plain_step s c call) text (reply_line_text c index call (plain_reply s c call)) text'

-- From every state that the kernel had reached, the calls of core c have been made alone, and their reply lines are written.
abbrev pub RunsList : Setting → Maps → Maps → ℕ → List Call → List ℕ → List ℕ → Type 0
RunsList setting k k' c calls text text' = (s : State) → IsReached setting k s
    → Ran setting k' (plain_steps s c calls) text (plain_lines s c 1 calls) text'

-- The same for the calls of the first n cores, core 0's first.
abbrev pub RunsLists : Setting → Maps → Maps → (ℕ → List Call) → ℕ → List ℕ → List ℕ → Type 0
RunsLists setting k k' calls n text text' = (s : State) → IsReached setting k s
    → Ran setting k' (plain_state calls n s) text (lines_below (λ c. plain_lines (plain_state calls c s) c 1 (calls c)) n) text'
