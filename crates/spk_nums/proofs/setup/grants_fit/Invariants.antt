use Rattle.std.proofs.Common.{All, take}
use Rattle.spk_nums.specs.Setting.{GrantFits}
use Rattle.spk_nums.proofs.setup.grants_fit.Given as goal

abbrev pub invariant-each : goal.invariant-each
invariant-each l = All GrantFits (take l.grant-index l.grants)
