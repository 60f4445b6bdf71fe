use Rattle.table_lines.specs.kernel_history.specs.{◌≡◌, ◌++◌, string_bytes, entry_of_word, lines_below, entry_line}
use Rattle.table_report.specs.Shown.{place_shown, words_of}
use Rattle.table_report.proofs.objects.push_node.Given as goal

abbrev pub invariant-entries : goal.invariant-entries
invariant-entries l = string_bytes l.text ≡ string_bytes l.initial.text
    ++ lines_below (λ i. entry_line i (place_shown (entry_of_word (words_of l.image.shape l.image.words l.frame i)))) l.index
