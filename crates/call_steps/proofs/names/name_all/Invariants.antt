use Rattle.std.specs.Prelude.{◌≤◌, ◌+◌, ◌*◌}
use Rattle.call_steps.specs.Naming.{IsOnward}
use Rattle.call_steps.proofs.names.name_all.Given as goal

-- so many names are left, and the names before them have led to these
abbrev pub invariant-naming : goal.invariant-naming
invariant-naming g l = record {
  few : l.steps + 2 * l.left ≤ 10;
  on : IsOnward l.own l.call l.steps l.caps (g.W.Words.core l.words);
}

abbrev pub decreases-naming : goal.decreases-naming
decreases-naming g l = l.left
