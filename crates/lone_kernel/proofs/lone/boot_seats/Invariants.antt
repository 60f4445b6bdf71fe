use Rattle.{std.proofs.Common.map, lone_kernel.proofs.Boot.AreFreshBelow}
use Rattle.lone_kernel.proofs.lone.boot_seats.Given as goal

abbrev pub invariant-loop-core : goal.invariant-loop-core
invariant-loop-core l = record { fresh : AreFreshBelow l.setup (map (λ v. v.items) l.lists) l.core l.seats.items }
