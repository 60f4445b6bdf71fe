-- What a core is after its step, whatever the call: it is on the same machine, and is between calls exactly where the step returned.
use Rattle.work_invariant.specs.core_invariant.specs.{◌≡◌, ℕ, Option, Some, None, refl, Reply, ActiveCall, Took, Returns}
use Rattle.work_invariant.specs.core_invariant.specs.{Changes, took, Core, Own, core_after, absorbed_in, absorbed, told_by, told_in}
use Rattle.work_invariant.specs.core_invariant.specs.{returned_in, IsSome, told_of_step}
use Rattle.call_fits.specs.call_stages.specs.act_states.specs.declared.own.OwnChange.TheVariants.{Ticks}

after_shape : (own : Own) (k : Took) → (core_after own k).own.layout ≡ own.layout
after_shape own (Changes r (Ticks charged owed) a) = refl
after_shape own _ = refl

absorbed_in_shape : (own : Own) (o : Option ActiveCall) (found : ℕ) → (absorbed_in own o found).own.layout ≡ own.layout
absorbed_in_shape own None found = refl
absorbed_in_shape own (Some a) found = after_shape own (took own a found)

-- a core stays on its machine
pub absorbed_shape : (c : Core) (found : ℕ) → (absorbed c found).own.layout ≡ c.own.layout
absorbed_shape c found = absorbed_in_shape c.own c.active found

-- the step that leaves a core between calls has returned a reply
after_returns : (own : Own) (k : Took) → (core_after own k).active ≡ None → (r : Reply) × (returned_in (told_by k) ≡ Some r)
after_returns own (Returns r x) none = (r, refl)
after_returns own _ none = absurd (cc)

absorbed_in_returns : (own : Own) (o : Option ActiveCall) (found : ℕ) → IsSome o → (absorbed_in own o found).active ≡ None
    → (r : Reply) × (returned_in (told_in own o found) ≡ Some r)
absorbed_in_returns own None found some none = absurd (cc)
absorbed_in_returns own (Some a) found some none = after_returns own (took own a found) none

pub absorbed_returns : (c : Core) (found : ℕ) → IsSome c.active → (absorbed c found).active ≡ None
    → (r : Reply) × (returned_in (told_of_step c found) ≡ Some r)
absorbed_returns c found some none = absorbed_in_returns c.own c.active found some none
