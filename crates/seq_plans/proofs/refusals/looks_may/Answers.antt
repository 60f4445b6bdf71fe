use Rattle.seq_state.specs.{◌⊎◌, ◌||◌, state_of}
use Rattle.call_plans.specs.declared.plans.Nth.TheVariants.{First, Second, Third, Fourth}
use Rattle.seq_plans.specs.{Walks.names_in, Refusals.NthMay, Refusals.TargetMay}
use Rattle.{call_plans.specs.declared.plans.Nth.Nth, seq_plans.proofs.Deciding.decides_either}
use Rattle.seq_plans.proofs.refusals.looks_may.Goals as goal

pub returns : goal.returns
returns c =
    let s = state_of c.args.k.now in
    let P : Nth → Type 0 = λ n. NthMay s c.args.core c.args.plan.now c.args.looked.now n c.args.refusal.now in
    let T : Type 0 = TargetMay s c.args.core c.args.plan.now.target (names_in c.args.looked.now) c.args.refusal.now in
    decides_either (P First) (P Second ⊎ (P Third ⊎ (P Fourth ⊎ T))) c.nth_may-first.result
    (c.nth_may-second.result || (c.nth_may-third.result || (c.nth_may-fourth.result || c.target_may-target.result)))
    c.nth_may-first.ensures
    (decides_either (P Second) (P Third ⊎ (P Fourth ⊎ T)) c.nth_may-second.result
    (c.nth_may-third.result || (c.nth_may-fourth.result || c.target_may-target.result)) c.nth_may-second.ensures
    (decides_either (P Third) (P Fourth ⊎ T) c.nth_may-third.result (c.nth_may-fourth.result || c.target_may-target.result)
    c.nth_may-third.ensures
    (decides_either (P Fourth) T c.nth_may-fourth.result c.target_may-target.result c.nth_may-fourth.ensures c.target_may-target.ensures)))
