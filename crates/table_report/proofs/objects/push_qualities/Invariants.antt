use Rattle.table_lines.specs.kernel_history.specs.{◌≡◌, ◌++◌, string_bytes, flat_map, quality_line}
use Rattle.table_report.specs.{qualities_shown, words_of}
use Rattle.table_report.proofs.objects.push_qualities.Given as goal

abbrev pub invariant-pairs : goal.invariant-pairs
invariant-pairs l = string_bytes l.text ≡ string_bytes l.initial.text
    ++ flat_map quality_line (qualities_shown (words_of l.image.shape l.image.words l.frame) l.place)
