use Rattle.plain_tables.proofs.Common.{◌≡◌, ◌++◌, string_bytes, lines_below, number_line, state_of}
use Rattle.plain_tables.proofs.rest.push_numbers.Given as goal

abbrev pub invariant-numbers : goal.invariant-numbers
invariant-numbers l = string_bytes l.text ≡ string_bytes l.initial.text
    ++ lines_below (λ n. number_line n ((state_of l.k).number n)) l.number
