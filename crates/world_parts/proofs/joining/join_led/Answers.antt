use Rattle.kernel_history.proofs.{◌≡◌, sym, ◌∙◌, subst, ap, Kind}
use Rattle.world_parts.specs.{Joins, world_in}
use Rattle.{seal_check.specs.world_laws.specs.Worlds.LeadsTo, world_parts.proofs.Steps.led_other}
use Rattle.world_parts.proofs.joining.join_led.Goals as goal

pub returns-in-Range : goal.returns-in-Range
returns-in-Range c =
    let is : c.args.cap.kind ≡ Kind.Range = sym c.kind.ensures ∙ c.in-Range.is in
    subst (λ j. Joins (λ f g. (f ≡ c.args.node) × LeadsTo j c.args.cap g) (world_in c.args.parts.now) (world_in c.join_new.new.parts))
    (sym is) c.join_new.ensures

pub returns-in_default : goal.returns-in_default
returns-in_default c =
    led_other c.args.cap.kind c.args.cap c.args.node (world_in c.args.parts.now) (world_in c.join.new.self)
    (λ e. c.in_default.not-Range (c.kind.ensures ∙ e))
    (subst (λ n. Joins (λ f g. (f ≡ c.args.node) × (g ≡ n)) (world_in c.args.parts.now) (world_in c.join.new.self))
    c.frame.ensures c.join.ensures)
