use Rattle.std.proofs.Common.{◌∙◌, ◌++◌, [], ◌∷◌, ap}
use Rattle.{async_ends.specs.Looks.look, ends_runners.specs.Looks.looks_in, ends_runners.proofs.Looks.looks_more}
use Rattle.ends_runners.proofs.authority.SeatAuthorityAuthority.look.Goals as goal

pub returns-clause-looks : goal.returns-clause-looks
returns-clause-looks c =
    looks_more c.self.inside.seat c.call-reply.new.seat c.args.number c.call-reply.result c.self.invariant.1 c.call-reply.ensures.makes
    ∙ ap (λ s. looks_in s ++ look c.args.number c.call-reply.result ∷ []) c.self.view_is
