use Rattle.std.proofs.Common.{◌≡◌, ◌++◌, take, string_bytes}
use Rattle.ends_text.specs.Lines.{done_lines}
use Rattle.ends_text.proofs.done.push_done_lines.Given as goal

abbrev pub invariant-loop-at : goal.invariant-loop-at
invariant-loop-at l = string_bytes l.text ≡ string_bytes l.initial.text ++ done_lines l.core 1 (take l.at l.done)
