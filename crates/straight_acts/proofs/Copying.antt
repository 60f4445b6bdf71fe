-- What comes next of a copy.
use Rattle.std.proofs.Common.{◌≡◌, ◌≤◌, ℕ, nat_le, true, List, [], ◌∷◌, refl}
use Rattle.std.proofs.lemmas.Bool.{le-leb}
use Rattle.spk_nums.specs.Capability.{Capability}
use Rattle.spk_nums.specs.Rights.{kept}
use Rattle.spk_nums.specs.declared.rights.Rights.{Rights}
use Rattle.spk_nums.specs.declared.calls.Call.{Call}
use Rattle.spk_nums.specs.declared.calls.Call.TheVariants.{Copy}
use Rattle.straight_looks.specs.step_starts.specs as low
use low.kernel_rules.specs.Access.{Under, found}
use low.call_plans.specs.Plans.{pushed}
use low.act_states.specs.declared.own.Own.{Own}
use low.stage_look.specs.declared.look.Look.TheVariants.{AtRoot}
use low.call_stages.specs.View.{Core}
use Rattle.straight_looks.specs.Standing.{looks, onward}
use Rattle.straight_acts.specs.Acting.{Fills}

pub copy_asked : (own : Own) (a t b : ℕ) (rights : Rights) → nat_le a 4095 ≡ true
    → onward own (Copy a t b rights) 2 [] ≡ looks own (Copy a t b rights) 3 (AtRoot own.table a) []
unfolding onward
copy_asked own a t b rights small = rw small refl

copy_named : (own : Own) (a t b : ℕ) (rights : Rights) (k : Capability) → nat_le t 4095 ≡ true
    → onward own (Copy a t b rights) 4 (k ∷ []) ≡ looks own (Copy a t b rights) 5 (AtRoot own.table t) (k ∷ [])
unfolding onward
copy_named own a t b rights k small = rw small refl

copy_placed : (own : Own) (a t b : ℕ) (rights : Rights) (k j : Capability) → nat_le b 4095 ≡ true
    → onward own (Copy a t b rights) 6 (k ∷ j ∷ []) ≡ looks own (Copy a t b rights) 7 (AtRoot j.frame b) (k ∷ j ∷ [])
unfolding onward
copy_placed own a t b rights k j small = rw small refl

copies : (own : Own) (a t b : ℕ) (rights : Rights) (k j : Capability) → Fills own (Copy a t b rights) (k ∷ j ∷ []) (kept k rights.0)
copies own a t b rights k j = record { target = Under (found j) b; next = refl; begins = λ f. refl }

-- the same where a name has led to one capability, and where two have led to these
pub copy_first : (own : Own) (call : Call) (a t b : ℕ) (rights : Rights) (ks js : List Capability) (k : Capability) (c : Core)
    → call ≡ Copy a t b rights → t ≤ 4095 → ks ≡ [] → js ≡ pushed ks k → c ≡ onward own call 4 (pushed ks k)
    → c ≡ looks own call 5 (AtRoot own.table t) js
copy_first own call a t b rights ks js k c is small none first on =
    rw (on, first, none, is) (copy_named own a t b rights k (le-leb t 4095 small))

pub copy_second : (own : Own) (call : Call) (a t b frame : ℕ) (rights : Rights) (ks js is : List Capability) (k j : Capability) (c : Core)
    → call ≡ Copy a t b rights → b ≤ 4095 → ks ≡ [] → js ≡ pushed ks k → is ≡ pushed js j → frame ≡ j.frame
    → c ≡ onward own call 6 (pushed js j)
    → c ≡ looks own call 7 (AtRoot frame b) is
copy_second own call a t b frame rights ks js is k j c copy small none first second root on =
    rw (on, root, second, first, none, copy) (copy_placed own a t b rights k j (le-leb b 4095 small))

pub copy_fills : (own : Own) (call : Call) (a t b : ℕ) (rights : Rights) (ks js is : List Capability) (k j put : Capability)
    → call ≡ Copy a t b rights → ks ≡ [] → js ≡ pushed ks k → is ≡ pushed js j → put ≡ kept k rights.0
    → Fills own call is put
copy_fills own call a t b rights ks js is k j put copy none first second keeps =
    rw (keeps, second, first, none, copy) (copies own a t b rights k j)
