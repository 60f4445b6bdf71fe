use Rattle.speck_c.proofs.Granted.{granted_more}
use Rattle.speck_c.proofs.boots.grants_of.Goals as goal

pub each-preserved : goal.each-preserved
each-preserved c =
    granted_more c.args.given.now c.each.grant-index _ c.granted_of.result _ c.add-added.new.self c.add-added.result
    c.each-test.true c.requires c.granted_of.ensures c.each.invariant c.add-added.ensures
