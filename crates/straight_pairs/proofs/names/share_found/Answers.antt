use Rattle.std.proofs.Common.{refl}
use Rattle.straight_pairs.proofs.Naming.{same_stands, shares}
use Rattle.straight_pairs.proofs.names.share_found.Goals as goal

pub share_pair-requires-clause-shares : goal.share_pair-requires-clause-shares
share_pair-requires-clause-shares g c =
    shares c.args.own.now c.args.call.now c.args.caps.now c.args.a.now.frame c.args.b.now.frame c.args.what c.new-pair.result
    (g.W.Words.core c.args.words.now) c.requires.on c.requires.fits c.requires.begins
    (cc) (rw (c.new-pair.ensures, c.frame-else-eq.ensures, c.frame-else-eq-2.ensures) refl)

pub returns-then-eq : goal.returns-then-eq
returns-then-eq g c =
    same_stands c.args.own.now c.rest_same.new.own c.args.call.now c.args.caps.now c.args.a.now.frame c.args.b.now.frame c.args.what
    c.rest_same.new.active (g.W.Words.core c.args.words.now) c.requires.on c.requires.fits c.requires.begins
    (cc) c.rest_same.ensures.own c.rest_same.ensures.call
