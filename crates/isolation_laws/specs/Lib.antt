-- What the crates above name through this one.
pub use Rattle.world_laws.specs.authority_laws
pub use Rattle.world_laws
pub use Rattle.origin_laws.specs.origin_rules
pub use Rattle.origin_laws
-- Its own.
pub mod Carried
pub mod Authority
pub mod Worlds
pub mod Origins
pub mod Uses
-- The names that are used most outside of this library.
pub use Rattle.isolation_laws.specs.{Carried.CarriedOutBy, Worlds.WorksInside, Worlds.WorldsStay}
