use Rattle.std.proofs.Common.{true, ◌≡◌, subst, sym, ap, ◌∙◌}
use Rattle.turn_rule.specs.{declared.view.View.View, IsSeated, Rule.Gathers, Hands.table_at, Hands.IsHeld}
use Rattle.turn_rule.proofs.Views.{takes, meets, met_on}
use Rattle.turn_rule.proofs.table.TurnTable.meet.Goals as goal

pub join_seat-requires : goal.join_seat-requires
join_seat-requires g c = let id = ap (λ t. t.id) c.self.view_is in (
  ap (λ o. (table_at o).id) (sym c.in-Some.is) ∙ ap (λ z. z.table.id) c.seat.view_is ∙ ap (λ t. t.id) c.requires.0 ∙ sym id,
  ap (λ z. z.table.id) c.note.view_is ∙ ap (λ t. t.id) c.requires.1 ∙ sym id,
  c.note.invariant,
  c.self.invariant.0,
  takes g.P.CoreProgram.steps _ _ _ _ _ _,
)

pub load-requires : goal.load-requires
load-requires g c =
    let T = g.P.CoreProgram.steps in
    let seat = c.seat.inside in
    let held : IsSeated T seat.core c.in-Some.hand.me seat.program =
    subst (λ o. IsHeld T o seat.core seat.program) c.in-Some.is c.seat.invariant in
    let me = c.join_seat.new.seat.me in
    let live : me.0.own.live ≡ true = ap (λ z. z.0.own.live) c.join_seat.ensures.2 ∙ held.live in (
      c.join_seat.ensures.0 ∙ ap (λ o. (table_at o).id) (sym c.in-Some.is) ∙ ap (λ z. z.table.id) c.seat.view_is
          ∙ ap (λ t. t.id) c.requires.0 ∙ sym (ap (λ t. t.id) c.self.view_is),
      c.self.invariant.0,
      meets T _ _ _ _ me live,
    )

pub invariant_of-seat : goal.invariant_of-seat
invariant_of-seat g c =
    let T = g.P.CoreProgram.steps in
    let seat = c.seat.inside in
    let held : IsSeated T seat.core c.in-Some.hand.me seat.program =
    subst (λ o. IsHeld T o seat.core seat.program) c.in-Some.is c.seat.invariant in
    let is = c.join_seat.ensures.2 in
    let now = c.load.new.seat.me in
    let gathers = subst (λ (v : View g.row.P.Denot g.row.P-Call.Denot). Gathers T v.own v.told v.own.to now.0.own)
    (ap (λ z. z.0) is) c.load.ensures.2.0 in
    met_on T seat.core c.in-Some.hand.me now c.note.inside.seat.me.0.own seat.program held gathers
    (c.load.ensures.2.1 ∙ ap (λ z. z.1) is)

pub returns-clause-follows : goal.returns-clause-follows
returns-clause-follows g c = (invariant_of-seat g c).follows
