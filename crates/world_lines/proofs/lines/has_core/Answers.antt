use Rattle.std.proofs.Common.{sym, ◌∙◌, ap, ◌||◌}
use Rattle.{world_lines.specs.any_below, world_lines.specs.works_there, world_parts.specs.Seen.seen, world_parts.specs.Partitions.world_in}
use Rattle.{world_lines.proofs.Numbers.any_none, world_lines.proofs.Numbers.any_more}
use Rattle.world_lines.proofs.lines.has_core.Goals as goal

pub cores-init : goal.cores-init
cores-init c = sym (any_none (works_there (seen c.args.image.now) (world_in c.args.parts.now) c.args.world))

pub cores-preserved : goal.cores-preserved
cores-preserved c =
    let is = works_there (seen c.args.image.now) (world_in c.args.parts.now) c.args.world in
    c.either-has.ensures
    ∙ ap (λ b. b || c.works_there.result) c.cores.invariant
    ∙ ap (λ b. any_below is c.cores.core || b) (rw c.new.ensures at c.works_there.ensures)
    ∙ sym (any_more is c.cores.core)
