-- The summary of calls: how often each reply came.
use Rattle.std.specs.Prelude.{ℕ, zero, suc, ◌+◌, ◌==◌, List, [], ◌∷◌, ◌++◌, codes, length, filter}
use Rattle.spk_nums.specs.{declared.replies.Decision.Decision, Names.reply_code, Names.reply_word, Texts.with_one}
use Rattle.script_printer.specs.Printing.{line}

-- the decisions whose reply has that number
abbrev pub with_number : ℕ → List Decision → List Decision
with_number n ds = filter (λ (d : Decision). reply_code d.reply == n) ds

-- the line of decisions of one reply: its word, and how many they are; none where there are none
abbrev pub counted : List Decision → List ℕ
counted [] = []
counted (d ∷ ds) = line (with_one (reply_word d.reply) (1 + length ds))

-- the lines of the replies numbered below n, in the order of their numbers
abbrev pub counts_below : ℕ → List Decision → List ℕ
counts_below zero ds = []
counts_below (suc n) ds = counts_below n ds ++ counted (with_number n ds)

-- the counts of decisions: a line for each reply that came, then how many calls there were
abbrev pub counts_text : List Decision → List ℕ
counts_text ds = counts_below 25 ds ++ line (with_one (codes "calls") (length ds))

-- the line of a total of ticks
abbrev pub total_text : ℕ → List ℕ
total_text total = line (with_one (codes "total") total)

-- the summary of decisions: their counts, and a total of ticks
unfoldable pub summary_text : List Decision → ℕ → List ℕ
summary_text ds total = counts_text ds ++ total_text total
