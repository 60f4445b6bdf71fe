use Rattle.{std.proofs.Common.◌≡◌, std.proofs.Common.length, confinement.specs.Links.StartsAll}
use Rattle.confinement.proofs.table.all_heads.Given as goal

abbrev pub invariant-each : goal.invariant-each
invariant-each l = StartsAll l.key l.heads.items × (length l.heads.items ≡ l.key)
