use Rattle.std.specs.Prelude.{Some}
use Rattle.listed_ports.proofs.started.Given as goal

abbrev pub ghosts-all_cores : goal.ghosts-all_cores
ghosts-all_cores a args = record { kernel = Some args.seats.kernel }
