use Rattle.seat_laws.proofs.Ports.{tells, stay_since}
use Rattle.seat_laws.proofs.ask_and_tell.Goals as goal

pub returns-clause-worlds : goal.returns-clause-worlds
returns-clause-worlds c = tells _ c.call.ensures.seen

pub returns-clause-since : goal.returns-clause-since
returns-clause-since c = stay_since _ _ _ _ c.call.ensures.makes c.call.ensures.seen
