use Rattle.std.specs.Prelude.{◌≡◌, ◌≤◌, ◌+◌}
use Rattle.straight_looks.specs.step_starts.specs.call_stages.specs.Fits.{IsCore}
use Rattle.straight_maps.specs.Mapping.{scanning}
use Rattle.straight_maps.proofs.scans.scan_all.Given as goal

-- the core scans where the scan stands, and so many loads are left at most
abbrev pub invariant-scanning : goal.invariant-scanning
invariant-scanning g l = record {
  few : l.made + l.left ≤ 816;
  kept : l.active ≡ l.initial.active;
  stands : g.W.Words.core l.words ≡ scanning l.own l.call l.made l.at l.act l.caps;
  fits : IsCore (g.W.Words.core l.words);
}

abbrev pub decreases-scanning : goal.decreases-scanning
decreases-scanning g l = l.left
