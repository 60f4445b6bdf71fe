use Rattle.seat_laws.proofs.Ports.{ends_in_worlds, of_ok}
use Rattle.seat_laws.proofs.finish_and_tell.Goals as goal

pub returns : goal.returns
returns c = record { worlds = of_ok _ (λ closed end. ends_in_worlds _ _ _ _ end) c.finish.ensures.ends }
