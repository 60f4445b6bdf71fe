-- What the crates above name through this one.
pub use Rattle.seq_lookups.specs.seq_state
pub use Rattle.kernel_laws
-- Its own.
pub mod Same
pub mod Region
-- The names that are used most outside of this library.
pub use Rattle.same_changes.specs.{Region.AgreeOn, Region.IsIn, Region.whole, Region.AgreeOutcome, Region.NamesIn, Same.SameOutcome}
