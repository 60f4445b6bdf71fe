-- What a call finds in the state, within the ranges of the plain kernel's words. It holds in every state that a run reaches.
use Rattle.std.specs.Prelude.{◌≡◌, ◌≢◌, ◌<◌, ◌≤◌, ◌+◌, ◌^◌}
use Rattle.seq_state.specs.kernel_rules.specs.{ℕ, Make, Call, Retype, Map, Touch, Gate, Tick, Transfer}
use Rattle.seq_state.specs.kernel_rules.specs.{Delegate, Part, Replenish, comp_in, comp_of, outstanding, to_use, to_part, only, Judged}
use Rattle.seq_state.specs.kernel_rules.specs.{Refused, Found, named, mapped, epoch_of, budget_at, Kind}
use Rattle.seq_state.specs.{Make as make_call, State}

-- P holds of what is found, if anything is.
abbrev pub WhereFound : {A : Type 0} → Judged A → (A → Type 0) → Type 0
WhereFound (Refused r) P = Unit {0}
WhereFound (Found x) P = P x

-- A range that core c names ends within the machine's frames.
abbrev pub RangeEnds : State → ℕ → ℕ → Type 0
RangeEnds s c r = WhereFound (named s c r (to_use (only Kind.Range))) λ k. k.frame + k.arg ≤ s.limits.frames

-- So does one of which it names a part.
abbrev pub WholeEnds : State → ℕ → ℕ → Type 0
WholeEnds s c r = WhereFound (named s c r (to_part (only Kind.Range))) λ k. k.frame + k.arg ≤ s.limits.frames

-- The last epoch of the liveness number that a `make` takes is within the limit.
abbrev pub EpochFits : State → Make → Type 0
EpochFits s (Make.Comp table pages live) = epoch_of (s.number live) ≤ s.limits.epochs
EpochFits s what = Unit {0}

-- What core c finds mapped in the pages of its component is a page.
abbrev pub PageFound : State → ℕ → ℕ → Type 0
PageFound s c v = WhereFound (mapped s c (comp_of s c).pages v) λ k. k.kind ≡ Kind.Page

-- A component that core c names was made in an epoch, which counts from 1.
abbrev pub HasEpoch : State → ℕ → ℕ → Type 0
HasEpoch s c comp = WhereFound (named s c comp (to_use (only Kind.Comp))) λ k. 1 ≤ (comp_in (s.frame k.frame)).epoch

-- The budgets of two temporal capabilities that core c names sum to less than 2^32, where they are not one.
abbrev pub BudgetsFit : State → ℕ → ℕ → ℕ → Type 0
BudgetsFit s c a b =
    WhereFound (named s c a (to_use (only Kind.Tcap))) λ x. WhereFound (named s c b (to_use (only Kind.Tcap))) λ y.
    x.frame ≢ y.frame → budget_at s x.frame + budget_at s y.frame < 2 ^ 32

-- The ticks that core c owes with n more, and those that it has spent with its current budget, sum to less than 2^64.
pub record TicksFit (s : State) (c n : ℕ) : Type 0 where
  pub owed : n + (s.core c).owed < 2 ^ 64
  pub spent : (s.core c).spent + budget_at s (s.core c).tcap < 2 ^ 64

-- Core c has had back no more than it has spent, which is less than 2^64, and what it has left to have back sums with the budget of a
-- temporal capability that it names to less than 2^32.
pub record BackFits (s : State) (c a : ℕ) : Type 0 where
  pub back : (s.core c).back ≤ (s.core c).spent
  pub spent : (s.core c).spent < 2 ^ 64
  pub budget : WhereFound (named s c a (to_use (only Kind.Tcap))) λ k. budget_at s k.frame + outstanding (s.core c) < 2 ^ 32

-- What a call of core c finds is in range.
abbrev pub IsInRange : State → ℕ → Call → Type 0
IsInRange s c (make_call what range frame table slot) = RangeEnds s c range × EpochFits s what
IsInRange s c (Retype r f k) = RangeEnds s c r
IsInRange s c (Map p v r f w) = RangeEnds s c r
IsInRange s c (Part r f n t b) = WholeEnds s c r
IsInRange s c (Touch v) = PageFound s c v
IsInRange s c (Gate k t b) = HasEpoch s c k
IsInRange s c (Tick n) = TicksFit s c n
IsInRange s c (Transfer a b m) = BudgetsFit s c a b
IsInRange s c (Delegate a b m) = BudgetsFit s c a b
IsInRange s c (Replenish a m) = BackFits s c a
IsInRange s c call = Unit {0}
