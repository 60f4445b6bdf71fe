use Rattle.seat_laws.proofs.Ports.{tells}
use Rattle.seat_laws.proofs.port_tells.Goals as goal

pub returns-clause-worlds : goal.returns-clause-worlds
returns-clause-worlds c = tells _ c.core.ensures.seen
