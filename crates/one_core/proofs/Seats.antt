-- The one seat of a kernel of one core.
use Rattle.std.proofs.Common.{◌≡◌, ℕ, ◌+◌, List, [], ◌∷◌, ◌++◌, length, refl, sym, ◌∙◌, ap, arith, slice_get, length-append}
use Rattle.core_kernel.specs.{KernelValue, CoreSeatValue, AreAllSeats, AreFresh}

-- The seat is of the kernel and of core 0, and has seen the empty trace.
pub record IsOnlySeat (of : KernelValue) (s : CoreSeatValue) : Type 0 where
  pub kernel : s.kernel ≡ of
  pub core : s.core ≡ 0
  pub fresh : s.seen ≡ []

pub only_seat : (of : KernelValue) (seats left : List CoreSeatValue) (s : CoreSeatValue) → of.setup.cores ≡ 1
    → AreAllSeats of seats → AreFresh seats → seats ≡ left ++ s ∷ [] → IsOnlySeat of s
only_seat of seats [] s one all fresh is =
    let first = ap (λ (l : List CoreSeatValue). slice_get l 0) is in
    record { kernel = all.kernel 0 s first; core = all.core 0 s first; fresh = fresh 0 s first }
only_seat of seats (x ∷ left) s one all fresh is =
    let n = all.count in
    let m = ap (λ (l : List CoreSeatValue). length l) is in
    let k = length-append left (s ∷ []) in
    absurd (omega (arith, one, n, m, k))
