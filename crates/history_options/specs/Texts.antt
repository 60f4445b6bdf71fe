-- A line of a given history, as it is written.
use Rattle.std.specs.Prelude.{◌++◌}
use Rattle.open_calls.specs.kernel_rules.specs.{List, ℕ, codes, decimal, call_text, reply_text}
use Rattle.marked_history.specs.declared.marks.Mark.TheVariants.{Enter, Decide, Return}
use Rattle.marked_history.specs.declared.marks.Said.{Said}
use Rattle.marked_history.specs.declared.marks.Said.TheVariants.{One, Whole}

-- `enter C CALL`, `decide C REPLY`, `return C`, `C.I CALL = REPLY`
abbrev pub said_text : Said → List ℕ
said_text (One (Enter c call)) = codes "enter " ++ decimal c ++ codes " " ++ call_text call
said_text (One (Decide c r)) = codes "decide " ++ decimal c ++ codes " " ++ reply_text r
said_text (One (Return c)) = codes "return " ++ decimal c
said_text (Whole c i call r) = decimal c ++ codes "." ++ decimal i ++ codes " " ++ call_text call ++ codes " = " ++ reply_text r

-- such a line after two spaces
abbrev pub said_line : Said → List ℕ
said_line said = codes "  " ++ said_text said ++ codes "\n"
