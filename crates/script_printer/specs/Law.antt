-- Which scripts are read back from their printed form, and that they are.
use Rattle.std.specs.Prelude.{◌≡◌, ◌≤◌, ℕ, ◌+◌, List, [], ◌∷◌, All, Ok, length}
use Rattle.script_reader.specs.{Meaning, BelowCores, script_of}
use Rattle.script_reader.specs.call_reader.specs.{most_calls, IsCallWithin}
use Rattle.{spk_nums.specs.declared.calls.Call.Call, spk_nums.specs.Setting.IsSetting}
use Rattle.{script_reader.specs.script_tokens.specs.Words.line_count, script_printer.specs.Printing.printed}

-- a script within the limits: its version is 1 to 3, its setup is one with no more calls than a script may give, each core has a list,
-- arguments and items are in their ranges, the items are at most 200,000, and its printed form has at most 20,000 lines
pub record IsWithin (m : Meaning) : Type 0 where
  pub some_version : 1 ≤ m.version
  pub most_versions : m.version ≤ 3
  pub setup : IsSetting m.setup
  pub limit : m.setup.calls ≤ most_calls m.version
  pub lists : length m.lists ≡ m.setup.cores
  pub calls : All (All (IsCallWithin m.version)) m.lists
  pub below : BelowCores m.setup.cores m.order
  pub items : length m.order ≤ 200000
  pub lines : line_count (printed m) ≤ 20000

-- the printed form of a script within the limits says that script
abbrev pub ReadsBack : Meaning → Type 0
ReadsBack m = IsWithin m → script_of (printed m) ≡ Ok m

-- what bytes say is a script within the limits, where its printed form has at most 20,000 lines
abbrev pub IsReadWithin : List ℕ → Meaning → Type 0
IsReadWithin source m = script_of source ≡ Ok m → line_count (printed m) ≤ 20000 → IsWithin m

-- a bound on the lines of lists: each core's `core` line and its calls
abbrev pub most_list_lines : List (List Call) → ℕ
most_list_lines [] = 0
most_list_lines (calls ∷ lists) = 1 + length calls + most_list_lines lists

-- a bound on the lines of the printed form, as if each core had calls and each item a line
abbrev pub most_lines : Meaning → ℕ
most_lines m = 7 + length m.setup.grants + most_list_lines m.lists + length m.order

-- a script whose parts are within the limits has at most so many lines in its printed form
abbrev pub HasFewLines : Meaning → Type 0
HasFewLines m = 1 ≤ m.version → m.version ≤ 3 → IsSetting m.setup → length m.lists ≡ m.setup.cores → All (All (IsCallWithin m.version)) m.lists
    → BelowCores m.setup.cores m.order → line_count (printed m) ≤ most_lines m
