-- What a port tells of worlds.
use Rattle.std.specs.Prelude.{◌≡◌, ◌⊎◌, ◌++◌}
use Rattle.core_machine.specs.core_kernel.specs.flight_laws.specs.core_invariant.specs.{ℕ, Bool, List, slice_get, Some, Setting, Kind}
use Rattle.core_machine.specs.core_kernel.specs.flight_laws.specs.core_invariant.specs.{CoreEnd}
use Rattle.core_machine.specs.core_kernel.specs.flight_laws.specs.core_invariant.specs.{shape_of, Represent, word_in, end_in, Trace}
use Rattle.core_machine.specs.core_kernel.specs.flight_laws.specs.core_invariant.specs.{state_after}
use Rattle.core_machine.specs.core_kernel.specs.flight_laws.specs.isolation_laws.specs.{CarriedOutBy, WorksInside, WorldsStay}
use Rattle.core_machine.specs.core_kernel.specs.flight_laws.specs.isolation_laws.specs.world_laws.specs.{OnlyGates, IsSealed, AreApart}
use Rattle.core_machine.specs.core_kernel.specs.{KernelValue, CoreSeatValue}
use Rattle.core_machine.specs.core_kernel.specs.flight_laws.specs.history_laws.specs.{AtEachStep, OfEachStretch}
use Rattle.core_machine.specs.core_kernel.specs.flight_laws.specs.isolation_laws.specs.{Authority.HasAuthority, Worlds.SparesWorlds}
use Rattle.core_machine.specs.core_kernel.specs.flight_laws.specs.isolation_laws.specs.{Worlds.EntersWorlds}

-- Of a trace: each step has authority for what it changes; each step of a core that works outside a sealed world spares
-- it; cores come to work in worlds by gates, returns and switches; and over each stretch of steps worlds stay.
pub record TellsOfWorlds (setup : Setting) (t : Trace) : Type 0 where
  pub authority : AtEachStep (HasAuthority setup) t
  pub spared : AtEachStep (SparesWorlds setup) t
  pub entered : AtEachStep (EntersWorlds setup) t
  pub stay : OfEachStretch (WorldsStay setup) t

-- Since a port had seen the older trace, worlds that were apart have stayed so, and one that was sealed is sealed, or a core inside has
-- carried out a call.
pub record StaySince (older newer : CoreSeatValue) : Type 0 where
  pub since : Trace
  pub begins : newer.seen ≡ since ++ older.seen
  pub apart : (w : ℕ → Bool) (crosses : Kind → Bool) → OnlyGates crosses
      → AreApart w crosses (state_after older.kernel.setup older.seen) → AreApart w crosses (state_after older.kernel.setup newer.seen)
  pub sealed : (w : ℕ → Bool) (crosses : Kind → Bool) → OnlyGates crosses
      → IsSealed w crosses (state_after older.kernel.setup older.seen)
      → IsSealed w crosses (state_after older.kernel.setup newer.seen) ⊎ CarriedOutBy (WorksInside w) older.kernel.setup since older.seen

-- The words and ends of a finished machine are those after one trace, of which this is so. Worlds that were apart after all that a port had
-- seen are apart in the state that they represent.
pub record EndsInWorlds (kernel : KernelValue) (seats : List CoreSeatValue) (words : List ℕ) (ends : List CoreEnd) : Type 0 where
  pub trace : Trace
  pub represent : Represent (word_in (shape_of kernel.setup) words) (end_in ends) (state_after kernel.setup trace)
  pub worlds : TellsOfWorlds kernel.setup trace
  pub apart : (k : ℕ) (port : CoreSeatValue) → slice_get seats k ≡ Some port → (w : ℕ → Bool) (crosses : Kind → Bool) → OnlyGates crosses
      → AreApart w crosses (state_after kernel.setup port.seen) → AreApart w crosses (state_after kernel.setup trace)
