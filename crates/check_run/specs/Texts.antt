-- The text of a verdict.
use Rattle.std.specs.Prelude.{ℕ, List, ◌++◌, codes, decimal}
use Rattle.marked_history.specs.{declared.marks.Why.Why, declared.marks.Verdict.Verdict, declared.marks.Verdict.TheVariants.Legal}
use Rattle.marked_history.specs.{declared.marks.Verdict.TheVariants.Illegal}

-- The word for why no history goes on with a line.
abbrev pub why_word : Why → List ℕ
why_word Why.Marks = codes "marks"
why_word Why.Race = codes "race"
why_word Why.Reply = codes "reply"

-- The text that names a line, and why no history goes on with it.
abbrev pub illegal_text : ℕ → List ℕ → List ℕ
illegal_text line word = codes "illegal line " ++ decimal line ++ codes ": " ++ word ++ codes "\n"

-- `legal N`, or `illegal line L: WHY`, and a line feed.
abbrev pub verdict_text : Verdict → List ℕ
verdict_text (Legal decided) = codes "legal " ++ decimal decided ++ codes "\n"
verdict_text (Illegal line w) = illegal_text line (why_word w)
