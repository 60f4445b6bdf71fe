use Rattle.std.proofs.Common.{◌≡◌, ◌<◌, ℕ, Some, length, slice_get}
use Rattle.world_parts.proofs.parts.numbers.Given as goal

abbrev pub invariant-numbers : goal.invariant-numbers
invariant-numbers l = record {
  done : (f : ℕ) → f < l.number → slice_get l.numbers f ≡ Some f;
  size : length l.numbers ≡ 512;
}
