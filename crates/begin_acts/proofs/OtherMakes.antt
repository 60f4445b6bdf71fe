-- A `make` of another object than a component begins a making.
use Rattle.act_counts.specs.act_states.proofs.{◌≡◌, ℕ, List, Option, refl, Capability, Make, at_place, First, made_begun, makes_at}
use Rattle.act_counts.specs.act_states.specs.{declared.own.Own.Own, Objects.object_made}
use Rattle.{act_counts.specs.spk_nums.specs.declared.numbers.CapId.CapId, act_counts.specs.stage_look.specs.declared.look.Found.Found}

pub makes_other : (own : Own) (what : Make) (found : List Capability) (frame : ℕ) (target : Option Found)
    → ((table : CapId) (pages : CapId) (live : ℕ) → what ≡ Make.Comp table pages live → ⊥)
    → makes_at own (object_made what found) (at_place found First) frame target ≡ made_begun own what found frame target
makes_other own Make.Table found frame target other = refl
makes_other own Make.Leaf found frame target other = refl
makes_other own Make.Pages found frame target other = refl
makes_other own Make.Pleaf found frame target other = refl
makes_other own (Make.Thread comp) found frame target other = refl
makes_other own (Make.Tcap sched quality) found frame target other = refl
makes_other own (Make.Comp table pages live) found frame target other = absurd (other table pages live refl)
