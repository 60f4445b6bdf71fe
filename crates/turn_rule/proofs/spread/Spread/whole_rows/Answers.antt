use Rattle.std.proofs.Common.{arith, ap, ℕ, ◌+◌, ◌*◌, ◌/◌, ◌∙◌}
use Rattle.turn_rule.proofs.Quotients.{quotient_by}
use Rattle.turn_rule.proofs.spread.Spread.whole_rows.Goals as goal

pub returns : goal.returns
returns c =
    let i = c.self.invariant in
    ap (λ (n : ℕ). (c.args.places + 1) * n / 18446744073709551616) i.2
    ∙ quotient_by c.args.places c.self.inside.row (omega arith) i.0 i.1
    ∙ ap (λ s. c.args.places / s.row) c.self.view_is
