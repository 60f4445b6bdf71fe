use Rattle.std.proofs.Common.{sym, ap, ◌∙◌}
use Rattle.turn_rule.{specs.Hands.table_at, proofs.Views.notes}
use Rattle.turn_rule.proofs.table.TurnTable.split.Goals as goal

pub split_seat-requires : goal.split_seat-requires
split_seat-requires g c = (
  ap (λ o. (table_at o).id) (sym c.in-Some.is) ∙ ap (λ z. z.table.id) c.seat.view_is ∙ ap (λ t. t.id) c.requires
      ∙ sym (ap (λ t. t.id) c.self.view_is),
  c.self.invariant.0,
  notes g.P.CoreProgram.steps _ _ _ _,
)
