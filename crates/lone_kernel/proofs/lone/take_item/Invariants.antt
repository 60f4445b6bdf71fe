use Rattle.flight_laws.specs.core_invariant.specs.{◌≡◌, ◌+◌, ◌<◌, ◌≤◌, ◌^◌, length, IsSome, vec_capacity, size_of, steps_left}
use Rattle.lone_kernel.specs.{core_in, begun_by, due_in, IsDone, IsAt}
use Rattle.lone_kernel.specs.{Machine.Machine, declared.seats.Seat.Seat}
use Rattle.{std.specs.Prelude.vec_len, lone_kernel.proofs.Items.IsShort}
use Rattle.lone_kernel.proofs.lone.take_item.Given as goal

abbrev pub invariant-going : goal.invariant-going
invariant-going l = record {
  in_call : IsSome l.seat.state.active;
  machine : l.layout ≡ l.seat.state.own.layout;
  size : length l.words.items ≡ size_of l.layout;
  few : l.seat.begun < 2 ^ 32;
  due : due_in l.seat.state.active ≤ l.seat.due;
  room : vec_len l.decisions + due_in l.seat.state.active ≤ vec_capacity l.decisions;
  grown : vec_capacity l.initial.decisions ≤ vec_capacity l.decisions;
  goes : (m : Machine) (first : Seat) → IsAt m l.core l.turn first l.initial.words.items l.initial.decisions.items
      → (IsDone l.how m l.core → ⊥) → l.initial.seat.state ≡ core_in first.state l.turn
      → l.initial.seat.begun ≡ begun_by l.turn first.begun → l.initial.seat.due ≡ first.due
      → IsShort l.how m l.core l.seat l.words.items l.decisions.items;
}

abbrev pub decreases-going : goal.decreases-going
decreases-going l = steps_left l.seat.state
