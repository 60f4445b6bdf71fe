use Rattle.plain_tables.proofs.Common.{◌≡◌, ◌++◌, string_bytes, first_of_stack, thread_of, lines_below, core_lines, state_of}
use Rattle.plain_tables.proofs.rest.push_cores.Given as goal

abbrev pub invariant-cores : goal.invariant-cores
invariant-cores l =
    string_bytes l.text ≡ string_bytes l.initial.text
    ++ lines_below (λ c. core_lines c ((state_of l.k).core c) (first_of_stack (thread_of (state_of l.k) c).stack)) l.core
