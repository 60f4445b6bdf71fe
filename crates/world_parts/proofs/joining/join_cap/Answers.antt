use Rattle.{std.proofs.Common.sym, std.proofs.Common.◌∙◌, world_parts.specs.Partitions.world_in, world_parts.proofs.Steps.cap_led}
use Rattle.world_parts.proofs.joining.join_cap.Goals as goal

pub returns-then-holds : goal.returns-then-holds
returns-then-holds c =
    cap_led c.args.cap c.args.node (world_in c.args.parts.now) (world_in c.join_led.new.parts) (sym c.holds.ensures ∙ c.if-holds.true)
    c.join_led.ensures
