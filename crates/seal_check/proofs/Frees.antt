-- What may be used at a place, and whether it holds anything of a world.
use Rattle.world_laws.specs.kernel_laws.proofs.{◌≡◌, ℕ, ◌<◌, Bool, true, false, sym, ◌∙◌, subst, Option, Some, None, Capability, Place}
use Rattle.world_laws.specs.kernel_laws.proofs.{Free, Holds, Quiescing, PlaceOf, State, Slot, place_at, usable_in, usable, some_inj}
use Rattle.seal_check.specs.{Holding.IsUsedAt, Sealing.Tells, Sealing.IsPlaceFree}
use Rattle.{world_laws.specs.kernel_laws.proofs.none_some, world_laws.specs.gates, world_laws.specs.HoldsNone}

-- What cores may use at a place is one capability.
used_one : (p : Place) (x y : Bool) (j k : Capability) → usable_in p x ≡ Some j → usable_in p y ≡ Some k → j ≡ k
used_one Free x y j k a b = absurd (none_some j a)
used_one (Holds m) x y j k a b = sym (some_inj m j a) ∙ some_inj m k b
used_one (Quiescing m) true true j k a b = sym (some_inj m j a) ∙ some_inj m k b
used_one (Quiescing m) false y j k a b = absurd (none_some j a)
used_one (Quiescing m) true false j k a b = absurd (none_some k b)

pub used_same : (s : State) (at : Slot) (d e : ℕ) (j k : Capability) → usable s d at ≡ Some j → usable s e at ≡ Some k → j ≡ k
used_same s at d e j k a b = used_one (place_at s at) ((s.grace (PlaceOf at.node at.index)).waits d)
    ((s.grace (PlaceOf at.node at.index)).waits e) j k a b

-- A place at which a capability may be used.
free_some : (s : State) (at : Slot) (w : ℕ → Bool) (k : Capability) → IsUsedAt s at (Some k) → HoldsNone w gates k → IsPlaceFree s w at
free_some s at w k used h d j below e = subst (HoldsNone w gates) (used_same s at used.0 d k j used.2 e) h

some_free : (s : State) (at : Slot) (w : ℕ → Bool) (k : Capability) → IsUsedAt s at (Some k) → IsPlaceFree s w at → HoldsNone w gates k
some_free s at w k used free = free used.0 k used.1 used.2

pub tells_place : (s : State) (at : Slot) (w : ℕ → Bool) (o : Option Capability) (k : Capability) (b : Bool) → o ≡ Some k → IsUsedAt s at o
    → Tells b (HoldsNone w gates k) → Tells b (IsPlaceFree s w at)
tells_place s at w o k b is used t = record {
  yes = λ e. free_some s at w k (subst (IsUsedAt s at) is used) (t.yes e);
  no = λ e free. t.no e (some_free s at w k (subst (IsUsedAt s at) is used) free);
}
