use Rattle.std.proofs.Common.{◌≡◌, ◌+◌, ◌≤◌, length, drop}
use Rattle.line_forms.specs.Numbered.{dot_at}
use Rattle.line_forms.proofs.numbered.dot_at.Given as goal

abbrev pub invariant-bytes : goal.invariant-bytes
invariant-bytes l = record { value : l.place ≡ dot_at (drop l.index l.word); within : l.place + l.index ≤ length l.word }

abbrev pub decreases-bytes : goal.decreases-bytes
decreases-bytes l = l.index
