use Rattle.{std.proofs.Common.◌≡◌, std.proofs.Common.◌++◌, std.proofs.Common.string_bytes, ends_text.specs.Lines.count_lines}
use Rattle.ends_text.proofs.counts.push_end_lines.Given as goal

abbrev pub invariant-loop-frame : goal.invariant-loop-frame
invariant-loop-frame l = string_bytes l.text ≡ string_bytes l.initial.text ++ count_lines l.sent l.left l.frame
