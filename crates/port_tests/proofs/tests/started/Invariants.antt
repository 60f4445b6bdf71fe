use Rattle.std.specs.Prelude.{Some}
use Rattle.port_tests.proofs.tests.started.Given as goal

abbrev pub ghosts-seen_behind : goal.ghosts-seen_behind
ghosts-seen_behind a args = record { kernel = Some args.seats.kernel }
