use Rattle.std.proofs.Common.{◌≡◌, ◌+◌, ◌≤◌, ℕ, length, slice_get, Some, vec_capacity}
use Rattle.turn_rule.specs.{program_after, part, Stays, Begins}
use Rattle.turn_rule.proofs.table.TurnTable.gather.Given as goal

abbrev pub invariant-loop-one : goal.invariant-loop-one
invariant-loop-one g l = let T = g.P.CoreProgram.steps in record {
  table : l.all.table_id ≡ l.initial.all.table_id;
  id : l.all.id ≡ l.initial.all.id;
  all : Stays T l.initial.all.me.0.own (length l.yielded) l.all.me.0.own;
  room : length l.fn.seats.items ≤ vec_capacity l.programs;
  count : length l.programs.items ≡ length l.yielded;
  programs : (k : ℕ) (p : _) → slice_get l.programs.items k ≡ Some p → program_after T l.all.me.0.own.start l.all.me.0.own.seen k ≡ Some p;
  seen : (k : ℕ) (s : _) → slice_get l.yielded k ≡ Some s → Begins l.all.me.0.own.seen (part l.self.start k (k + 1) s.seen);
}
