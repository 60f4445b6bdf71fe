use Rattle.std.proofs.Common.{◌≡◌, ℕ, [], length, slice_get, Some}
use Rattle.turn_rule.specs.Rule.{part}
use Rattle.turn_rule.proofs.table.TurnTable.deal.Given as goal

abbrev pub invariant-loop-program : goal.invariant-loop-program
invariant-loop-program g l = let ps = l.fn.programs.items in record {
  table : l.rest.table_id ≡ l.self.id;
  rest : l.rest.me.0.own ≡ part l.self.start (length l.yielded) (length ps) [];
  count : length l.seats.items ≡ length l.yielded;
  seats : (k : ℕ) (s : _) → slice_get l.seats.items k ≡ Some s
      → (s.table ≡ l.self) × (s.core ≡ k) × (s.seen ≡ []) × (slice_get ps k ≡ Some s.program);
}
