-- What the crates above name through this one.
pub use Rattle.machine_image
pub use Rattle.seal_check
-- Its own.
pub mod Sight
pub mod Seen
pub mod Last
pub mod Partitions
pub mod Led
pub mod Finest
-- The names that are used most outside of this library.
pub use Rattle.world_parts.specs.{Finest.IsFinest, Last.IsLast, Led.HasField, Led.AreWith, Led.IsHeldBelow, Led.Reaches, Partitions.world_in}
pub use Rattle.world_parts.specs.{Partitions.Joins, Partitions.IsParts, Sight.sight_of}
