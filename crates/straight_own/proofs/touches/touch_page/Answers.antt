use Rattle.straight_own.proofs.Touching.{touch_rests}
use Rattle.straight_own.proofs.touches.touch_page.Goals as goal

pub returns-in-None : goal.returns-in-None
returns-in-None g c =
    touch_rests c.args.own.now _ c.args.call.now 4 c.args.touching.now (g.W.Words.core c.args.words.now) _ _ _ c.rest_touching.ensures
    c.requires.stands c.requires.fits c.make-found.ensures.goes c.make-found.ensures.told
