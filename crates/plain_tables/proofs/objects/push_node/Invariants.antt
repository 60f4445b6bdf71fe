use Rattle.plain_tables.proofs.Common.{◌≡◌, ◌++◌, string_bytes, lines_below, entry_line, state_of}
use Rattle.plain_tables.proofs.objects.push_node.Given as goal

abbrev pub invariant-entries : goal.invariant-entries
invariant-entries l = string_bytes l.text ≡ string_bytes l.initial.text
    ++ lines_below (λ i. entry_line i ((state_of l.k).place l.node i)) l.index
