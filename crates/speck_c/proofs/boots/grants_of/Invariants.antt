use Rattle.{std.proofs.Common.◌≡◌, std.proofs.Common.map, std.proofs.Common.take, speck_c.specs.Grants.granted}
use Rattle.speck_c.proofs.boots.grants_of.Given as goal

abbrev pub invariant-each : goal.invariant-each
invariant-each l = l.grants ≡ map granted (take l.grant-index l.given)
