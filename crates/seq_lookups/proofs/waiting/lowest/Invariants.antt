use Rattle.seq_state.specs.kernel_rules.specs.{◌≡◌, ◌-◌, find, has_core, lowest}
use Rattle.{std.specs.List.range_with_len, seq_state.specs.Maps.state_of}
use Rattle.seq_lookups.proofs.waiting.lowest.Given as goal

abbrev pub invariant-each : goal.invariant-each
invariant-each l =
    lowest (state_of l.k) (has_core l.set) ≡ find (has_core l.set) (range_with_len l.number ((state_of l.k).limits.cores - l.number))
