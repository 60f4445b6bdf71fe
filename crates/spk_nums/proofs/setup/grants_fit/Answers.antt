use Rattle.std.proofs.Common.{rules, All, List, subst}
use Rattle.std.proofs.lemmas.List.{take_all}
use Rattle.std.proofs.lemmas.List.Elements.{All-more}
use Rattle.spk_nums.specs.declared.grants.Grant.{Grant}
use Rattle.spk_nums.specs.Setting.{GrantFits}
use Rattle.spk_nums.proofs.setup.grants_fit.Goals as goal

pub each-preserved : goal.each-preserved
each-preserved c = All-more GrantFits _ _ _ c.each-test.true c.each.invariant (c.grant_fits.ensures.0 (search rules))

pub returns : goal.returns
returns c = (λ _. subst (λ (xs : List Grant). All GrantFits xs) (take_all _ _ c.each-test.false) c.each.invariant, λ _. search rules)
