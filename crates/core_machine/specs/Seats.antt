-- The seats of a machine: which are dealt, and which are back.
use Rattle.std.specs.Prelude.{◌≡◌, ℕ, ◌+◌, ◌≤◌, List, [], length, slice_get, Some}
use Rattle.core_kernel.specs.{KernelValue, CoreSeatValue}

-- The kernel, how many ports have been dealt, and the seats that are back.
pub record SeatsValue : Type 0 where
  pub kernel : KernelValue
  pub dealt : ℕ
  pub back : List CoreSeatValue

-- The port is of the kernel and of the next core in order, and has seen the empty trace.
pub record IsDealt (seats : SeatsValue) (port : CoreSeatValue) : Type 0 where
  pub kernel : port.kernel ≡ seats.kernel
  pub core : port.core ≡ seats.dealt
  pub fresh : port.seen ≡ []

-- The same of the core that comes k cores after the next.
pub record IsDealtAfter (k : ℕ) (seats : SeatsValue) (port : CoreSeatValue) : Type 0 where
  pub kernel : port.kernel ≡ seats.kernel
  pub core : port.core ≡ seats.dealt + k
  pub fresh : port.seen ≡ []

-- A seat of the kernel that has seen nothing, the next after k others that are left.
pub record IsLeft (of : KernelValue) (k : ℕ) (s : CoreSeatValue) : Type 0 where
  pub kernel : s.kernel ≡ of
  pub core : s.core + (k + 1) ≡ of.setup.cores
  pub fresh : s.seen ≡ []

-- A seat of the kernel that stands at the place of its core.
pub record IsBack (of : KernelValue) (k : ℕ) (s : CoreSeatValue) : Type 0 where
  pub kernel : s.kernel ≡ of
  pub core : s.core ≡ k

-- The seats left stand in the order opposite to that of their cores, the last core's first; those that are back in the order of cores.
pub record HasSeats (of : KernelValue) (here back : List CoreSeatValue) : Type 0 where
  pub few : length here ≤ of.setup.cores
  pub left : (k : ℕ) (s : CoreSeatValue) → slice_get here k ≡ Some s → IsLeft of k s
  pub back_in_order : (k : ℕ) (s : CoreSeatValue) → slice_get back k ≡ Some s → IsBack of k s
