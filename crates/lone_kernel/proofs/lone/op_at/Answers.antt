use Rattle.lone_kernel.proofs.Shown.{word_on}
use Rattle.lone_kernel.proofs.lone.op_at.Goals as goal

pub returns-in-GoesOn-clause-word : goal.returns-in-GoesOn-clause-word
returns-in-GoesOn-clause-word c =
    word_on c.args.layout.now c.args.seat.now.state c.args.turn.now c.requires.machine c.next_op.ensures.fits c.requires.can
