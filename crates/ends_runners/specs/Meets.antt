-- What seats have seen when they have told each other.
use Rattle.std.specs.Prelude.{◌≡◌, ◌<◌, ◌≤◌}
use Rattle.core_kernel.specs.flight_laws.specs.core_invariant.specs.{ℕ, List, length, slice_get, set as slice_set, Some}
use Rattle.core_kernel.specs.flight_laws.specs.core_invariant.specs.{Trace}
use Rattle.core_kernel.specs.{KernelValue, CoreSeatValue, HasSeen, Extends, ExtendsByOthers}

-- Each seat is of this kernel, and has seen a history.
abbrev pub AreOf : KernelValue → List CoreSeatValue → Type 0
AreOf of seats = (k : ℕ) (s : CoreSeatValue) → slice_get seats k ≡ Some s → (s.kernel ≡ of) × HasSeen s

-- The seat has seen what it had seen, and steps of other cores.
pub record GoesOn (seat on : CoreSeatValue) : Type 0 where
  pub own : ExtendsByOthers seat.core seat.seen on.seen
  pub core : on.core ≡ seat.core
  pub kernel : on.kernel ≡ seat.kernel

-- The seat at the first place has told the seat at the second what it has seen; the others are the same.
pub record Tells (from to : ℕ) (seats new : List CoreSeatValue) : Type 0 where
  pub teller : CoreSeatValue
  pub from_is : slice_get seats from ≡ Some teller
  pub told : CoreSeatValue
  pub to_was : slice_get seats to ≡ Some told
  pub met : CoreSeatValue
  pub is : new ≡ slice_set seats to met
  pub goes : GoesOn told met
  pub knows : Extends teller.seen met.seen

-- The seat at a place has gone on.
pub record IsOn (seats new : List CoreSeatValue) (k : ℕ) : Type 0 where
  pub was : CoreSeatValue
  pub was_at : slice_get seats k ≡ Some was
  pub on : CoreSeatValue
  pub at : slice_get new k ≡ Some on
  pub goes : GoesOn was on

-- The first seat has gone on, and has seen what those of the first n had seen; the others are the same.
pub record HasGathered (n : ℕ) (seats new : List CoreSeatValue) : Type 0 where
  pub count : length new ≡ length seats
  pub first : IsOn seats new 0
  pub same : (k : ℕ) → 0 < k → slice_get new k ≡ slice_get seats k
  pub knows : (k : ℕ) (s : CoreSeatValue) → k < n → slice_get seats k ≡ Some s → Extends s.seen first.on.seen

-- The seat at a place has gone on, and has seen what the first one has.
pub record IsTold (seats new : List CoreSeatValue) (k : ℕ) : Type 0 where
  pub on : IsOn seats new k
  pub knows : (s : CoreSeatValue) → slice_get seats 0 ≡ Some s → Extends s.seen on.on.seen

-- The first seat is the same; the others of the first n have gone on, and have seen what it has; the rest are the same.
pub record HasSpread (n : ℕ) (seats new : List CoreSeatValue) : Type 0 where
  pub count : length new ≡ length seats
  pub first : slice_get new 0 ≡ slice_get seats 0
  pub told : (k : ℕ) → 0 < k → k < n → IsTold seats new k
  pub same : (k : ℕ) → n ≤ k → slice_get new k ≡ slice_get seats k

-- The seat at a place has gone on, and has then seen this trace and steps of other cores. The trace begins with what it had seen, and
-- has no further step of its core.
pub record HasMet (first : Trace) (seats new : List CoreSeatValue) (k : ℕ) : Type 0 where
  pub on : IsOn seats new k
  pub begins : ExtendsByOthers on.was.core on.was.seen first
  pub ends : ExtendsByOthers on.was.core first on.on.seen

-- Each seat has gone on, and each has then seen one trace, which begins with what each had seen, and steps of other cores. The first
-- seat has seen that trace and no more.
pub record HaveMet (seats new : List CoreSeatValue) : Type 0 where
  pub first : Trace
  pub count : length new ≡ length seats
  pub seen : (s : CoreSeatValue) → slice_get new 0 ≡ Some s → s.seen ≡ first
  pub each : (k : ℕ) → k < length seats → HasMet first seats new k
