use Rattle.world_parts.specs.{Reaches, Joins, world_in}
use Rattle.std.proofs.Common.{◌≡◌, sym, subst}
use Rattle.world_parts.proofs.joining.join_held.Goals as goal

pub returns-in-Some : goal.returns-in-Some
returns-in-Some c =
    subst (λ o. Joins (λ f g. (f ≡ c.args.node) × Reaches o g) (world_in c.args.parts.now) (world_in c.join_cap.new.parts))
    (sym c.in-Some.is)
    c.join_cap.ensures
