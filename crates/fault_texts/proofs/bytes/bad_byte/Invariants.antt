use Rattle.std.proofs.Common.{◌≡◌, ◌+◌, ◌≤◌, drop}
use Rattle.fault_texts.specs.Bytes.{bad_from, bad_byte}
use Rattle.fault_texts.proofs.bytes.bad_byte.Given as goal

abbrev pub invariant-bytes : goal.invariant-bytes
invariant-bytes l = record { value : bad_from l.column (drop l.at l.source) ≡ bad_byte l.source; within : l.column ≤ l.at + 1 }
