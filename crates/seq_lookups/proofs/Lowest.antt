-- The lowest number below an end of which a test holds, found from a number on.
use Rattle.seq_state.proofs.{◌≡◌, ℕ, zero, suc, ◌+◌, ◌-◌, ◌<◌, ◌≤◌, Bool, true, false, not, ◌&&◌, ◌==◌, if◌then◌else◌, cond, refl, ◌∙◌, ap}
use Rattle.seq_state.proofs.{arith, Some, None, find, State}
use Rattle.{std.specs.List.range_with_len, seq_state.specs.kernel_rules.specs.GracePeriods.lowest}

-- From a number below the end on.
from_here : (p : ℕ → Bool) (a n : ℕ) → a < n
    → find p (range_with_len a (n - a)) ≡ cond (p a) (Some a) (find p (range_with_len (a + 1) (n - (a + 1))))
from_here p a n below =
    let more : n - a ≡ suc (n - (a + 1)) = omega arith in
    ap (λ m. find p (range_with_len a m)) more

pub found_here : (p : ℕ → Bool) (a n : ℕ) → a < n → p a ≡ true → find p (range_with_len a (n - a)) ≡ Some a
found_here p a n below is = from_here p a n below ∙ ap (λ b. cond b (Some a) (find p (range_with_len (a + 1) (n - (a + 1))))) is

pub found_later : (p : ℕ → Bool) (a n : ℕ) → a < n → p a ≡ false
    → find p (range_with_len a (n - a)) ≡ find p (range_with_len (a + 1) (n - (a + 1)))
found_later p a n below is = from_here p a n below ∙ ap (λ b. cond b (Some a) (find p (range_with_len (a + 1) (n - (a + 1))))) is

pub found_nowhere : (p : ℕ → Bool) (a n : ℕ) → n ≤ a → find p (range_with_len a (n - a)) ≡ None
found_nowhere p a n past =
    let none : n - a ≡ 0 = omega arith in
    ap (λ m. find p (range_with_len a m)) none

-- Two tests that agree below the end find the same.
pub found_alike : (p q : ℕ → Bool) (a n : ℕ) → ((e : ℕ) → a ≤ e → e < a + n → p e ≡ q e)
    → find p (range_with_len a n) ≡ find q (range_with_len a n)
found_alike p q a zero same = refl
found_alike p q a (suc n) same =
    ap (λ b. cond b (Some a) (find p (range_with_len (a + 1) n))) (same a (omega arith) (omega arith))
    ∙ ap (λ o. cond (q a) (Some a) o) (found_alike p q (a + 1) n (λ e h l. same e (omega arith) (omega arith)))

-- Two tests that agree on the machine's cores have one lowest core.
pub lowest_alike : (s : State) (p q : ℕ → Bool) → ((e : ℕ) → e < s.limits.cores → p e ≡ q e) → lowest s p ≡ lowest s q
lowest_alike s p q same = found_alike p q 0 s.limits.cores (λ e _ below. same e (omega arith))

-- A set without one number, tested.
pub without : (c e : ℕ) (b v w : Bool) → b ≡ (if e == c then false else v) → v ≡ w → b ≡ (w && not (e == c))
without c e b v w is same = is ∙ ap (λ x. if e == c then false else x) same ∙ tested (e == c) w
  where
    tested : (t x : Bool) → (if t then false else x) ≡ (x && not t)
    tested true true = refl
    tested true false = refl
    tested false true = refl
    tested false false = refl
