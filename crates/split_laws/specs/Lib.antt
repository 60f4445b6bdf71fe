-- What the crates above name through this one.
pub use Rattle.world_laws.specs.authority_laws
pub use Rattle.world_laws
-- Its own.
pub mod Split
-- The names that are used most outside of this library.
pub use Rattle.split_laws.specs.Split.{World, IsSplit, side, MakesOwn, AgreeIn, TellsOwn}
