-- Choices by a test, taken apart.
use Rattle.std.proofs.Common.{◌≡◌, Bool, true, false, cond, Some, None, refl}

-- a value that is there only where a test holds
pub kept : {A : Type 0} (b : Bool) (x v : A) → cond b (Some x) None ≡ Some v → (b ≡ true) × (x ≡ v)
kept true x v h = (refl, cc)
kept false x v h = absurd (cc)

-- a fact of what a choice gives, shown on either way
pub chosen : {A : Type 0} (b : Bool) (x y v : A) {G : Type 0} → cond b x y ≡ v → (b ≡ true → x ≡ v → G) → (b ≡ false → y ≡ v → G) → G
chosen true x y v h on off = on refl h
chosen false x y v h on off = off refl h
