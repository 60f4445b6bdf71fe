use Rattle.{std.proofs.Common.◌+◌, std.proofs.Common.◌∙◌, std.proofs.Common.sym, std.proofs.Common.subst, async_ends.specs.Comes}
use Rattle.{async_ends.specs.seat_value, async_ends.specs.declared.endpoint.EndReply.TheVariants.Refused, async_ends.proofs.Made.refused}
use Rattle.async_ends.proofs.table.EndTable.answer.Goals as goal

pub returns-in-Err : goal.returns-in-Err
returns-in-Err c =
    let s = c.seat.inside in
    let r = c.in-Err.refusal in
    subst (λ z. Comes c.args.op c.args.look.now (Refused r) z (seat_value s.frames s.cores (s.made + 1) s.seat)) c.seat.view_is
    (refused s.frames s.cores s.made s.seat c.seat.invariant c.args.op c.args.look.now r (sym c.reach.ensures ∙ c.in-Err.is))
