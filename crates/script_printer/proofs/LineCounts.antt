-- How many lines the printed form of a script has at most.
use Rattle.std.proofs.Common.{◌≡◌, ℕ, ◌+◌, ◌%◌, ◌≤◌, Bool, true, false, cond, List, [], ◌∷◌, length, All, ap, ◌∙◌, arith, count_by}
use Rattle.spk_nums.specs.{declared.calls.Call.Call, declared.grants.Grant.Grant, declared.steps.Item.Item, Setting.IsSetting}
use Rattle.script_printer.proofs.{Spans.lines_count, HeadLines.calls_words, HeadLines.epochs_words, ItemWords.in_front, ItemWords.item_rows}
use Rattle.script_printer.proofs.{ItemWords.order_rows, ReadingLines.grants_then, ReadingLines.calls_then, ReadingLines.core_then}
use Rattle.script_printer.proofs.{ReadingLines.lists_then, ReadingLines.script_lines, PrintedLines.printed_onto}
use Rattle.{std.proofs.Common.slice_get, std.proofs.Common.◌==◌, std.proofs.Common.◌-◌, script_printer.specs.printed}
use Rattle.{script_printer.specs.item_text, script_printer.specs.IsCallWithin, script_reader.specs.Meaning, script_reader.specs.BelowCores}
use Rattle.{script_reader.specs.script_tokens.specs.is_feed, script_reader.specs.script_tokens.specs.line_count}
use Rattle.{script_reader.specs.script_tokens.specs.Words.ends_open, script_printer.specs.Law.most_list_lines}
use Rattle.{script_printer.specs.Law.most_lines, script_printer.proofs.PrintedLines.script_are_lines}

pub grants_length : (gs : List Grant) (lines : List (List (List ℕ))) → length (grants_then gs lines) ≡ length gs + length lines
grants_length [] lines = omega arith
grants_length (g ∷ gs) lines = omega (arith, grants_length gs lines)

calls_length : (cs : List Call) (lines : List (List (List ℕ))) → length (calls_then cs lines) ≡ length cs + length lines
calls_length [] lines = omega arith
calls_length (c ∷ cs) lines = omega (arith, calls_length cs lines)

core_length : (core : ℕ) (cs : List Call) (lines : List (List (List ℕ))) → length (core_then core cs lines) ≤ 1 + length cs + length lines
core_length core [] lines = omega arith
core_length core (c ∷ cs) lines = omega (arith, calls_length cs lines)

lists_length : (core : ℕ) (lists : List (List Call)) (lines : List (List (List ℕ)))
    → length (lists_then core lists lines) ≤ most_list_lines lists + length lines
lists_length core [] lines = omega arith
lists_length core (l ∷ ls) lines = omega (arith, core_length core l (lists_then (core + 1) ls lines), lists_length (core + 1) ls lines)

front_length : (w : List ℕ) (lines : List (List (List ℕ))) → length (in_front w lines) ≤ 1 + length lines
front_length w [] = omega arith
front_length w (ws ∷ lines) = omega arith

either_length : (b : Bool) (xs ys : List (List (List ℕ))) (n : ℕ) → length xs ≤ n → length ys ≤ n → length (cond b xs ys) ≤ n
either_length true xs ys n h k = h
either_length false xs ys n h k = k

rows_length : (at : ℕ) (i : Item) (is : List Item) → length (item_rows at i is) ≤ 1 + length is
rows_length at i [] = omega arith
rows_length at i (j ∷ js) =
    let more = rows_length (at + 1) j js in
    either_length ((at + 1) % 10 == 0) ((item_text i ∷ []) ∷ item_rows (at + 1) j js)
    (in_front (item_text i) (item_rows (at + 1) j js)) (1 + length (j ∷ js))
    (omega (arith, more)) (omega (arith, more, front_length (item_text i) (item_rows (at + 1) j js)))

order_length : (items : List Item) → length (order_rows items) ≤ 1 + length items
order_length [] = omega arith
order_length (i ∷ is) = omega (arith, rows_length 0 i is)

one_more : (b : Bool) → cond b 1 0 ≤ 1
one_more true = omega arith
one_more false = omega arith

pub few_lines : (m : Meaning) → 1 ≤ m.version → m.version ≤ 3 → IsSetting m.setup → length m.lists ≡ m.setup.cores
    → All (All (IsCallWithin m.version)) m.lists → BelowCores m.setup.cores m.order → line_count (printed m) ≤ most_lines m
few_lines m some most setting pairs calls below =
    let text = printed m in
    let order = order_rows m.order in
    let limited : List (List (List ℕ)) = calls_words m.setup.calls ∷ epochs_words m.setup.epochs ∷ lists_then 0 m.lists order in
    let feeds : count_by is_feed text ≡ length (script_lines m) =
    ap (count_by is_feed) (printed_onto m) ∙ lines_count (script_lines m) (script_are_lines m some most setting pairs calls below) in
    omega (
      arith,
      feeds,
      one_more (ends_open (slice_get text (length text - 1))),
      grants_length m.setup.grants limited,
      lists_length 0 m.lists order,
      order_length m.order,
    )
