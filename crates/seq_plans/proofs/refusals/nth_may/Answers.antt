use Rattle.seq_state.proofs.{◌≡◌, subst, Option, Some, state_of}
use Rattle.call_plans.specs.{declared.plans.Name.Name, Plans.at_place}
use Rattle.seq_plans.specs.{declared.walking.Looked.Looked, Refusals.Decides, Refusals.SomeNameMay}
use Rattle.seq_plans.proofs.refusals.nth_may.Goals as goal

pub returns-in-Some : goal.returns-in-Some
returns-in-Some c =
    let s = state_of c.args.k.now in
    let P : Option Name → Looked → Type 0 = λ o l. Decides c.name_may.result (SomeNameMay s c.args.core l o c.args.refusal.now) in
    let found : Some c.in-Some.name ≡ at_place c.args.plan.now.names c.args.nth = c.in-Some.ensures in
    subst (λ (l : Looked). P (at_place c.args.plan.now.names c.args.nth) l) c.before-in-Some.ensures
    (subst (λ (o : Option Name). P o c.before-in-Some.result) found c.name_may.ensures)
