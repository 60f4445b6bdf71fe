-- What the crates above name through this one.
pub use Rattle.time_laws.specs.kernel_laws
pub use Rattle.time_laws.specs.trace_laws
pub use Rattle.time_laws.specs.core_invariant
pub use Rattle.time_laws.specs.flight
pub use Rattle.time_laws.specs.history_laws
pub use Rattle.time_laws
pub use Rattle.isolation_laws
-- Its own: the record that has the laws.
pub mod Histories
-- The names that are used most outside of this library.
pub use Rattle.flight_laws.specs.Histories.{IsHistory, MadeHistories}
