use Rattle.std.proofs.Common.{◌≡◌, ℕ, length, slice_get, map, Some}
use Rattle.core_runs.specs.Whole.{IsReady}
use Rattle.core_runs.proofs.whole.runners_of.Given as goal

abbrev pub invariant-loop-seat : goal.invariant-loop-seat
invariant-loop-seat l = record {
  count : length l.runners.items ≡ length l.yielded;
  each : (k : ℕ) (r : _) → slice_get l.runners.items k ≡ Some r → IsReady l.fn.seats.items (map (λ v. v.items) l.lists) k r;
}
