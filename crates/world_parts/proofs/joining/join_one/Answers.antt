use Rattle.kernel_history.proofs.{sym, ◌∙◌, ap, found, has_frame}
use Rattle.{world_parts.specs.Partitions.world_in, world_parts.proofs.Steps.range_one}
use Rattle.world_parts.proofs.joining.join_one.Goals as goal

pub returns-then-in_range : goal.returns-then-in_range
returns-then-in_range c =
    range_one c.args.range c.args.node c.args.frame (world_in c.args.parts.now) (world_in c.join.new.self) c.join.ensures
    (ap (λ n. has_frame (found c.args.range) n) (sym (c.from.ensures ∙ c.number.ensures.value))
    ∙ sym c.in_range.ensures ∙ c.if-in_range.true)
