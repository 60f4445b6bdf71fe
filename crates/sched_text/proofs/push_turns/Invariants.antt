use Rattle.std.proofs.Common.{◌≡◌, ◌++◌, drop, string_bytes}
use Rattle.sched_rules.specs.Texts.{turn_lines}
use Rattle.sched_text.proofs.push_turns.Given as goal

abbrev pub invariant-turns : goal.invariant-turns
invariant-turns l = string_bytes l.text ++ turn_lines (drop l.turn-index l.turns) ≡ string_bytes l.initial.text ++ turn_lines l.turns
