use Rattle.ends_runners.proofs.Looks.{looks_more}
use Rattle.end_ports.proofs.looker.LookerAuthority.look.Goals as goal

pub returns-clause-looks : goal.returns-clause-looks
returns-clause-looks c =
    looks_more c.args.self.now.port c.call-reply.new.self c.args.number c.call-reply.result c.core-core.ensures.seen c.call-reply.ensures.makes
