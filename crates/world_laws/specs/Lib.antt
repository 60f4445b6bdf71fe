-- What the crates above name through this one.
pub use Rattle.authority_laws.specs.state_laws
pub use Rattle.authority_laws.specs.spk_nums
pub use Rattle.authority_laws.specs.kernel_rules
pub use Rattle.authority_laws.specs.kernel_invariant
pub use Rattle.authority_laws.specs.found_stays
pub use Rattle.authority_laws.specs.kernel_laws
pub use Rattle.authority_laws
-- Its own.
pub mod Worlds
pub mod Laws
pub mod Time
-- The names that are used most outside of this library.
pub use Rattle.world_laws.specs.Laws.{EntersBy, IsOf}
pub use Rattle.world_laws.specs.Time.{RunsAcross, ticks_in, counted_if}
pub use Rattle.world_laws.specs.Worlds.{gates, IsSealed, works_in, LeadsTo, AreApart, lives_at, OnlyGates, HoldsNone, LeavesAlone}
