-- What is decided of two things is decided of either and of both.
use Rattle.seq_state.proofs.{◌≡◌, Bool, true, false, not, ◌||◌, ◌&&◌, ◌⊎◌, inl, inr, refl, IsTrue, IsFalse, false≢true, true≢false, Reply}
use Rattle.seq_plans.specs.Refusals.{Decides}

pub decides_true : (b : Bool) → Decides b (IsTrue b)
decides_true true = refl
decides_true false = λ h. false≢true h

pub decides_false : (b : Bool) → Decides (not b) (IsFalse b)
decides_false true = λ h. true≢false h
decides_false false = refl

pub decides_either : (P Q : Type 0) (a b : Bool) → Decides a P → Decides b Q → Decides (a || b) (P ⊎ Q)
decides_either P Q true b p q = inl p
decides_either P Q false true p q = inr q
decides_either P Q false false p q = λ h. elim h [ inl x ↦ p x | inr y ↦ q y ]

pub decides_both : (P Q : Type 0) (a b : Bool) → Decides a P → Decides b Q → Decides (a && b) (P × Q)
decides_both P Q true true p q = (p, q)
decides_both P Q true false p q = λ h. q h.1
decides_both P Q false b p q = λ h. p h.0

pub when_decides : (stands : Bool) (p q : Reply) (b : Bool) → Decides b (p ≡ q) → Decides (stands && b) (IsTrue stands × (p ≡ q))
when_decides stands p q b is = decides_both (IsTrue stands) (p ≡ q) stands b (decides_true stands) is
