use Rattle.world_parts.specs.{HasField, Joins, world_in}
use Rattle.{std.proofs.Common.◌≡◌, std.proofs.Common.subst, world_parts.specs.Seen.seen, world_parts.proofs.Steps.frame_both}
use Rattle.world_parts.proofs.joining.join_frame.Goals as goal

pub returns : goal.returns
returns c =
    frame_both (seen c.args.image.now) c.args.frame (world_in c.args.parts.now) (world_in c.join_fields.new.parts)
    (world_in c.join_places.new.parts)
    (subst (λ o. Joins (λ f g. (f ≡ c.args.frame) × HasField o g) (world_in c.args.parts.now) (world_in c.join_fields.new.parts))
    c.comp_at.ensures c.join_fields.ensures)
    c.join_places.ensures
