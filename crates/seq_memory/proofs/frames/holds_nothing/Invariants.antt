use Rattle.seq_lookups.specs.seq_state.specs.{◌≡◌, ◌-◌, is_some, held_in, state_of}
use Rattle.std.specs.List.{list_any, range_with_len}
use Rattle.seq_memory.proofs.frames.holds_nothing.Given as goal

abbrev pub invariant-each : goal.invariant-each
invariant-each l =
    list_any (λ i. is_some (held_in ((state_of l.k).place l.node i))) (range_with_len 0 64)
    ≡ list_any (λ i. is_some (held_in ((state_of l.k).place l.node i))) (range_with_len l.number (64 - l.number))
