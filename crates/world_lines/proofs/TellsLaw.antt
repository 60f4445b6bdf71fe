-- The lines of what an image shows are those of the final state.
use Rattle.table_lines.specs.kernel_history.proofs.{◌≡◌, ℕ, ◌++◌, List, ◌∙◌, ap, append_assoc, lines_below}
use Rattle.world_lines.specs.{worlds_text, TellsWorlds}
use Rattle.world_parts.specs.{Sight.Sight, Seen.seen, Partitions.world_in, Finest.TellsFinest}
use Rattle.world_lines.specs.{declared.table.WorldTable.WorldTable, Lines.world_line, Lines.gate_lines, Lines.text_by, Table.IsTable}
use Rattle.{world_parts.specs.machine_image.specs.Views.ImageOf, world_parts.proofs.SeenLaw.seen_is}

pub tells_worlds : (m : ImageOf) (t : WorldTable) (old mid new : List ℕ) → TellsFinest m t.parts → IsTable (seen m) t
    → mid ≡ old ++ lines_below (world_line (seen m) (world_in t.parts) t.ranges.items) m.shape.frames
    → new ≡ mid ++ lines_below (gate_lines (seen m) (world_in t.parts) t.ranges.items) m.shape.frames → TellsWorlds m old new
tells_worlds m t old mid new finest table first then_gates setting events last = record {
  world = world_in t.parts;
  finest = finest setting events last;
  is_text = then_gates ∙ ap (λ x. x ++ gates) first ∙ append_assoc old worlds gates
      ∙ ap (λ ranges. old ++ text_by (seen m) (world_in t.parts) ranges) table.ranges
      ∙ ap (λ (x : Sight). old ++ worlds_text x (world_in t.parts)) (seen_is setting events m last);
}
  where
    worlds : List ℕ
    worlds = lines_below (world_line (seen m) (world_in t.parts) t.ranges.items) m.shape.frames

    gates : List ℕ
    gates = lines_below (gate_lines (seen m) (world_in t.parts) t.ranges.items) m.shape.frames
