-- Judgements that did not fail, one after another.
use Rattle.std.proofs.Common.{◌≡◌, ℕ, Result, Ok, Err, refl}
use Rattle.line_reader.specs.{◌>>=◌, First_fault, at_line, and_then}
use Rattle.line_reader.specs.declared.cause.Cause.{Cause}

abbrev judged : {A : Type 0} → A → Result A Cause
judged x = Ok x

pub judged_is : {A : Type 0} (x y : A) → judged x ≡ judged y → x ≡ y
judged_is x y e = cc

abbrev read : {A : Type 0} → A → Result A First_fault
read x = Ok x

pub read_is : {A : Type 0} (x y : A) → read x ≡ read y → x ≡ y
read_is x y e = cc

-- the value of judgements that did not fail
pub bind_ok : {A B : Type 0} (r : Result A Cause) (f : A → Result B Cause) (y : B) → (r >>= f) ≡ Ok y → (x : A) × (r ≡ Ok x) × (f x ≡ Ok y)
bind_ok (Ok x) f y e = (x, refl, e)
bind_ok (Err c) f y e = absurd cc

pub then_ok : {A B : Type 0} (r : Result A First_fault) (f : A → Result B First_fault) (y : B)
    → and_then r f ≡ Ok y → (x : A) × (r ≡ Ok x) × (f x ≡ Ok y)
then_ok (Ok x) f y e = (x, refl, e)
then_ok (Err c) f y e = absurd cc

pub at_line_ok : {A : Type 0} (number : ℕ) (r : Result A Cause) (x : A) → at_line number r ≡ Ok x → r ≡ Ok x
at_line_ok number (Ok y) x e = cc
at_line_ok number (Err c) x e = absurd cc
