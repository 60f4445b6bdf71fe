use Rattle.straight_own.proofs.Touching.{touch_asked}
use Rattle.straight_own.proofs.touches.touch.Goals as goal

pub touch_root-requires-clause-stands : goal.touch_root-requires-clause-stands
touch_root-requires-clause-stands g c =
    touch_asked c.args.own.now c.args.call.now c.in-Touch.v c.in-Some.touching _ (cc) c.in-Some.ensures c.in-Lives.ensures.core
