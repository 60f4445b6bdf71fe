-- What judgements that did not fail have found.
use Rattle.std.proofs.Common.{◌≡◌, ℕ, ◌≤◌, Bool, true, false, cond, leb, List, Result, Ok, Err, ◌&&◌, refl, arith, leb-true, ok_or}
use Rattle.line_reader.specs.{◌>>=◌, number_of, word_at, number_at, declared.cause.Cause.Cause}
use Rattle.line_reader.specs.{declared.cause.Cause.TheVariants.S1, declared.cause.Cause.TheVariants.S5}

abbrev judged : {A : Type 0} → A → Result A Cause
judged x = Ok x

pub judged_is : {A : Type 0} (x y : A) → judged x ≡ judged y → x ≡ y
judged_is x y e = cc

pub bind_ok : {A B : Type 0} (r : Result A Cause) (f : A → Result B Cause) (y : B) → (r >>= f) ≡ Ok y → (x : A) × (r ≡ Ok x) × (f x ≡ Ok y)
bind_ok (Ok x) f y e = (x, refl, e)
bind_ok (Err c) f y e = absurd cc

pub both_left : (a b : Bool) → (a && b) ≡ true → a ≡ true
both_left true b h = refl
both_left false b h = h

pub both_right : (a b : Bool) → (a && b) ≡ true → b ≡ true
both_right true b h = h
both_right false b h = absurd cc

test_in : (b : Bool) (n m : ℕ) → cond b (judged n) (Err S5) ≡ Ok m → (b ≡ true) × (n ≡ m)
test_in true n m e = (refl, judged_is n m e)
test_in false n m e = absurd cc

-- a number that was read is in its range
pub number_in : (words : List (List ℕ)) (place least most n : ℕ) → number_at words place least most ≡ Ok n → (least ≤ n) × (n ≤ most)
unfolding number_at
number_in words place least most n e =
    let a = bind_ok (word_at words place) (λ w. ok_or (number_of w) S1 >>= λ k. cond (leb least k && leb k most) (judged k) (Err S5)) n e in
    let b = bind_ok (ok_or (number_of a.0) S1) (λ k. cond (leb least k && leb k most) (judged k) (Err S5)) n a.2 in
    let t = test_in (leb least b.0 && leb b.0 most) b.0 n b.2 in
    let low : least ≤ b.0 = leb-true least b.0 (both_left (leb least b.0) (leb b.0 most) t.0) in
    let high : b.0 ≤ most = leb-true b.0 most (both_right (leb least b.0) (leb b.0 most) t.0) in
    let same : b.0 ≡ n = t.1 in
    (omega arith, omega arith)
