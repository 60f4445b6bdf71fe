-- What the crates above name through this one.
pub use Rattle.origin_rules
-- Its own.
pub mod Confined
-- The names that are used most outside of this library.
pub use Rattle.origin_laws.specs.Confined.{IsCovered, IsForeign}
