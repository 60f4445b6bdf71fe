use Rattle.{world_parts.specs.HasField, world_parts.specs.Joins, world_parts.specs.world_in, std.proofs.Common.◌≡◌, std.proofs.Common.sym}
use Rattle.{std.proofs.Common.subst, world_parts.proofs.Steps.fields_comp}
use Rattle.world_parts.proofs.joining.join_fields.Goals as goal

pub returns-in-Some : goal.returns-in-Some
returns-in-Some c =
    subst (λ o. Joins (λ f g. (f ≡ c.args.frame) × HasField o g) (world_in c.args.parts.now) (world_in c.join-in-Some.new.self))
    (sym c.in-Some.is)
    (fields_comp c.args.frame c.in-Some.both (world_in c.args.parts.now) (world_in c.join.new.self) (world_in c.join-in-Some.new.self)
    c.join.ensures c.join-in-Some.ensures)
