-- What merging does to the power to preempt.
use Rattle.std.specs.Prelude.{ℕ, List, IsTrue}
use Rattle.spk_nums.specs.Merging.{merged, preempts_by}

-- Whom a temporal capability preempts with a merged list, it preempts with either of the two lists.
pub record BothPreempt (budget : ℕ) (a b : List (ℕ × ℕ)) (other : ℕ) (ys : List (ℕ × ℕ)) : Type 0 where
  pub first : IsTrue (preempts_by budget a other ys)
  pub second : IsTrue (preempts_by budget b other ys)

-- A delegation gives no list the power to preempt what neither part could.
abbrev pub MergingGivesNoPower : Type 0
MergingGivesNoPower = (budget : ℕ) (a b : List (ℕ × ℕ)) (other : ℕ) (ys : List (ℕ × ℕ))
    → IsTrue (preempts_by budget (merged a b) other ys) → BothPreempt budget a b other ys
