-- What the crates above name through this one.
pub use Rattle.sched_rules
-- Its own.
pub mod Least
pub mod Response
pub mod Charging
pub mod Work
-- The names that are used most outside of this library.
pub use Rattle.sched_laws.specs.{Charging.Charges, Charging.TurnsCharge, Least.ComesFirst, Response.IsSupplied, Response.Throughout}
pub use Rattle.sched_laws.specs.{Response.is_not_after, Response.HasNumbers, Response.NeverRefused}
