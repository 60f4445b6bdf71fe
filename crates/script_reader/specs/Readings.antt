-- A script as a whole: the lines of its bytes, one after another, and the end.
use Rattle.std.specs.Prelude.{◌≡◌, ◌<◌, ◌≤◌, ℕ, List, [], ◌∷◌, ◌++◌, Bool, true, false, Result, Ok, Err, map, take, length, slice_set}
use Rattle.std.specs.Prelude.{slice_index_or, ◌+◌, All, replicate, if◌then◌else◌}
use Rattle.line_reader.specs.{◌>>=◌, Step, lines_from, whole_lines}
use Rattle.spk_nums.specs.{declared.calls.Call.Call, declared.steps.Item.Item, CallLimits.InLimits, Setting.Setting}
use Rattle.script_reader.specs.{declared.head.Section.Section, declared.head.Head.Head, declared.head.Line.Line}
use Rattle.script_reader.specs.{declared.reading.Draft.Draft, declared.reading.Script.Script, Heads.line_of, Heads.no_head, Heads.is_whole}
use Rattle.{script_tokens.specs.words_of, script_tokens.specs.ending_of, std.specs.Global.Vec}
use Rattle.{script_tokens.specs.declared.scanning.Ending.Ending, line_reader.specs.declared.cause.Cause.Cause}
use Rattle.{line_reader.specs.declared.cause.Cause.TheVariants.S7, script_reader.specs.Heads.IsHead, script_reader.specs.Orders.items_of}
pub use Rattle.line_reader.specs.Lines.{Row, with_word, rows_of, words_in, First_fault, at_line, and_then}
pub use Rattle.line_reader.specs.Lines.{Takes, Fails, fault_at, Leads, Gives}

-- ---- lines

-- what the lines so far say: the head, a list of calls for each core that a machine may have, and the order
pub record Draft_of : Type 0 where
  pub head : Head
  pub lists : List (List Call)
  pub order : List Item

-- nothing was read
abbrev pub no_draft : Draft_of
no_draft = record { head = no_head; lists = replicate 8 []; order = [] }

-- the calls of a core, and no calls past the cores
abbrev pub calls_of : List (List Call) → ℕ → List Call
calls_of lists core = slice_index_or lists core []

-- the lists where the core makes one more call
abbrev pub with_call : List (List Call) → ℕ → Call → List (List Call)
with_call lists core call = slice_set lists core (calls_of lists core ++ call ∷ [])

-- the draft with what a line says
abbrev pub with_line : Draft_of → Line → Draft_of
with_line d (Line.Head head) = record d { head = head }
with_line d (Line.Call call) = record d { lists = with_call d.lists d.head.core call }

-- after the `order` line stand items alone
abbrev pub is_order : Section → Bool
is_order Section.Order = true
is_order _ = false

-- the draft after a line before the order of steps
unfoldable pub behind_line : Draft_of → List (List ℕ) → Result Draft_of Cause
behind_line d words = line_of d.head words >>= λ line. Ok (with_line d line)

-- the draft after a line
unfoldable pub draft_behind : Draft_of → List (List ℕ) → Result Draft_of Cause
draft_behind d words =
    if is_order d.head.section
    then (items_of d.head.version d.head.cores d.order words >>= λ order. Ok (record d { order = order }))
    else behind_line d words

-- the draft after a line of this number, or its fault
abbrev pub draft_step : Step Draft_of
draft_step d number words = at_line number (draft_behind d words)

-- the draft after lines, or the first fault
abbrev pub draft_from : Draft_of → List Row → Result Draft_of First_fault
draft_from d rows = lines_from draft_step d rows

-- ---- the whole

-- a script: its version, its setup, a list of calls for each core, and its order
pub record Meaning : Type 0 where
  pub version : ℕ
  pub setup : Setting
  pub lists : List (List Call)
  pub order : List Item

-- the setup that a head says
abbrev pub setting_of : Head → Setting
setting_of h = record { cores = h.cores; frames = h.frames; grants = h.grants; calls = h.calls; epochs = h.epochs }

-- what a whole draft says: the lists of its cores alone
abbrev pub meaning_of : Draft_of → Meaning
meaning_of d =
    record {
      version = d.head.version;
      setup = setting_of d.head;
      lists = take d.head.cores d.lists;
      order = d.order;
    }

-- what lines say that end there; S7 after the last line where the last grant is missing
abbrev pub meaning_in : Draft_of → ℕ → Result Meaning First_fault
meaning_in d lines = if is_whole d.head.section then Ok (meaning_of d) else Err (record { line = lines + 1; cause = S7 })

-- the end of the bytes: the byte or line that ended them; else that of the lines
abbrev pub meaning_at : Draft_of → Ending → Result Meaning First_fault
meaning_at d ending = and_then (whole_lines ending) (meaning_in d)

-- what bytes say: the script that they are, or their first fault
unfoldable pub script_of : List ℕ → Result Meaning First_fault
script_of source = and_then (draft_from no_draft (rows_of (words_of source))) (λ d. meaning_at d (ending_of source))

-- ---- what the reader answers

-- each item's core is below the number of cores
abbrev pub BelowCores : ℕ → List Item → Type 0
BelowCores cores order = All (λ (item : Item). item.core < cores) order

-- a draft that lines lead to
pub record IsDraft (d : Draft_of) : Type 0 where
  pub head : IsHead d.head
  pub eight : length d.lists ≡ 8
  pub limits : All (All InLimits) d.lists
  pub below : BelowCores d.head.cores d.order
  pub before : is_order d.head.section ≡ false → d.order ≡ []

-- lists of calls, seen without where they lie in memory
abbrev pub lists_of : List (Vec Call) → List (List Call)
lists_of lists = map (λ v. v.items) lists

-- a draft, seen without where it lies in memory
abbrev pub draft_view : Draft → Draft_of
draft_view d = record { head = d.head; lists = lists_of d.lists.items; order = d.order.items }

-- a script, seen so
abbrev pub script_view : Script → Meaning
script_view s = record { version = s.version; setup = s.setup; lists = lists_of s.lists.items; order = s.order.items }

-- a script is of version 1 or 2, has a list for each core, its calls are in range, and its items are of its cores
pub record IsScript (s : Script) : Type 0 where
  pub some_version : 1 ≤ s.version
  pub most_versions : s.version ≤ 3
  pub lists : length s.lists.items ≡ s.setup.cores
  pub limits : All (All InLimits) (lists_of s.lists.items)
  pub below : BelowCores s.setup.cores s.order.items

-- at most so many calls
abbrev pub AtMost : ℕ → List Call → Type 0
AtMost n calls = length calls ≤ n
