-- The frame to which an earlier name has led.
use Rattle.act_counts.specs.act_states.proofs.{◌≡◌, List, [], Some, None, ◌∙◌, ap, option_map, Capability, found, at_place, earlier}
use Rattle.act_counts.specs.call_plans.specs.{declared.plans.Nth.Nth, GoesBy.or_not_found}
use Rattle.{act_counts.specs.act_states.proofs.with_found, act_counts.specs.call_plans.proofs.Roots.earlier_found}

pub some_frame : (ks : List Capability) (i : Nth) (k : Capability) → at_place ks i ≡ Some k
    → (earlier (with_found [] ks) i).frame ≡ k.frame
some_frame ks i k is = ap (λ x. x.frame) (earlier_found ks i ∙ ap (λ o. or_not_found (option_map found o)) is)

pub no_frame : (ks : List Capability) (i : Nth) → at_place ks i ≡ None → (earlier (with_found [] ks) i).frame ≡ 0
no_frame ks i is = ap (λ x. x.frame) (earlier_found ks i ∙ ap (λ o. or_not_found (option_map found o)) is)
