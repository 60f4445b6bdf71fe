-- What a call has marked for itself beside the counts that it acquires.
use Rattle.stage_tcap.specs.{ℕ, Option, Word}
use Rattle.stage_sweep.specs.{declared.thaw.Thaw.Thaw}

-- a word, which stands for this until it is given back; or the counters that a sweep has frozen, if there are any
pub data Keeping : Type 0 where
  KeepsWord : Word → ℕ → Keeping
  KeepsCounters : Option Thaw → Keeping
