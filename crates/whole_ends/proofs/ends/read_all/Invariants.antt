use Rattle.std.proofs.Common.{◌≡◌, ◌-◌, ◌≤◌, length, vec_len}
use Rattle.whole_ends.proofs.Pieces.{Reads}
use Rattle.whole_ends.proofs.ends.read_all.Given as goal

-- the bytes so far are the first that the source has given
abbrev pub invariant-reading : goal.invariant-reading
invariant-reading g l = record {
  size : vec_len l.bytes ≤ 1048577;
  buf : length l.buf ≡ 16384;
  reads : Reads l.bytes.items (g.S.Source.left l.initial.source) (g.S.Source.left l.source);
  steady : g.S.Source.faults l.source ≡ g.S.Source.faults l.initial.source;
}

abbrev pub decreases-reading : goal.decreases-reading
decreases-reading g l = 1048577 - vec_len l.bytes
