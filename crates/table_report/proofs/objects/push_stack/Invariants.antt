use Rattle.table_lines.specs.kernel_history.specs.{◌≡◌, ◌++◌, reverse, string_bytes, flat_map, number}
use Rattle.table_report.specs.{stack_shown, words_of}
use Rattle.table_report.proofs.objects.push_stack.Given as goal

abbrev pub invariant-heights : goal.invariant-heights
invariant-heights l = string_bytes l.text ≡ string_bytes l.initial.text
    ++ flat_map number (reverse (stack_shown (words_of l.image.shape l.image.words l.frame) l.height))
