use Rattle.std.proofs.Common.{◌≡◌, ℕ, length, slice_get, map, drop, Some}
use Rattle.ends_runners.specs.Runners.{IsReady}
use Rattle.ends_runners.proofs.parts.end_runners.Given as goal

abbrev pub invariant-loop-seat : goal.invariant-loop-seat
invariant-loop-seat l = record {
  rest : l.rest.items ≡ drop (length l.yielded) l.fn.ends.items;
  count : length l.runners.items ≡ length l.yielded;
  each : (k : ℕ) (r : _) → slice_get l.runners.items k ≡ Some r → IsReady l.fn.seats.items l.fn.ends.items (map (λ v. v.items) l.asks) k r;
}
