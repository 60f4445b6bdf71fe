use Rattle.std.proofs.Common.{refl}
use Rattle.lone_kernel.proofs.Making.{whole_item}
use Rattle.lone_kernel.proofs.lone.take_call.Goals as goal

pub returns-clause-takes : goal.returns-clause-takes
returns-clause-takes c m at =
    whole_item m c.args.core c.args.call.now c.args.seat.now c.args.words.now.items c.args.decisions.now.items at c.requires.can.limits
    _ _ _ c.make_call.ensures.makes refl refl
