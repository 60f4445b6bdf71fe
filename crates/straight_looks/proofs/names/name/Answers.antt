use Rattle.std.proofs.Common.{◌+◌}
use Rattle.straight_looks.proofs.Steps.{named_after}
use Rattle.straight_looks.proofs.names.name.Goals as goal

-- src/names.rt
pub returns-in-Some : goal.returns-in-Some
returns-in-Some g c = record {
  kept = c.in-Leads.ensures.kept;
  core =
      named_after c.args.own.now c.args.call.now _ (c.args.steps + 1) c.args.name.now.number _ c.in-Leads.look c.args.caps.now c.in-Some.cap
      _ _ c.in-Leads.ensures.core c.make-found.ensures.goes c.requires.next c.in-Some.ensures;
  fits = c.make-found.ensures.fits;
}
