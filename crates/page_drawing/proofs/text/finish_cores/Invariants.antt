use Rattle.{std.proofs.Common.◌≡◌, std.proofs.Common.◌≤◌, page_drawing.specs.Pictures.cores_finished}
use Rattle.page_drawing.proofs.text.finish_cores.Given as goal

-- The lanes of the cores before this one are finished, and no more calls stand below.
abbrev pub invariant-cores : goal.invariant-cores
invariant-cores l = (l.sheet ≡ cores_finished l.cores l.lanes l.first l.y l.initial.sheet l.core) × (l.sheet.feet ≤ l.core)
