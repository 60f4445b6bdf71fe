use Rattle.lone_kernel.specs.flight.proofs.{rules, All, List, subst, take_all, Call, InLimits}
use Rattle.std.proofs.lemmas.List.Elements.{All-more}
use Rattle.lone_checks.proofs.are_in_limits.Goals as goal

pub each-preserved : goal.each-preserved
each-preserved c =
    All-more InLimits c.args.calls.now c.each.call-index c.call-item.result c.each-test.true c.each.invariant
    (subst InLimits c.call-item.is (c.in_limits.ensures.0 (search rules)))

pub returns : goal.returns
returns c = (λ _. subst (λ (xs : List Call). All InLimits xs) (take_all _ _ c.each-test.false) c.each.invariant, λ _. search rules)
