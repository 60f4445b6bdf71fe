use Rattle.std.proofs.Common.{sym, arith, ap, ◌∙◌, ℕ, ◌+◌, ◌-◌, ◌*◌, ◌/◌}
use Rattle.turn_rule.proofs.Positions.{position_before, position_from}
use Rattle.turn_rule.proofs.spread.Spread.position.Goals as goal

pub returns-then-at-self : goal.returns-then-at-self
returns-then-at-self c = sym (position_before c.args.self.now c.requires c.args.at
    (omega (arith, c.if-at-self.true, ap (λ s. s.first) c.self.view_is)))

pub returns : goal.returns
returns c = let first = ap (λ s. s.first) c.self.view_is in
    ap (λ (rows : ℕ). c.args.at + 16 * (rows + 1))
    (c.whole_rows-row.ensures ∙ ap (λ (n : ℕ). (c.args.at - n) / c.args.self.now.row) first)
    ∙ sym (position_from c.args.self.now c.requires c.args.at (omega (arith, first)))
