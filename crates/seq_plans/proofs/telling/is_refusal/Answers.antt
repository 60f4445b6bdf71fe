use Rattle.seq_plans.proofs.SameReplies.{decides_same}
use Rattle.seq_plans.proofs.telling.is_refusal.Goals as goal

pub returns : goal.returns
returns c =
    rw (c.reply_number.ensures, c.reply_number-2.ensures, c.number_told.ensures, c.number_told-2.ensures)
    (decides_same c.args.reply.now c.args.refusal.now c.requires)
