pub mod Ends
pub mod Memory
pub mod Real
-- The names that are used most outside of this library.
pub use Rattle.byte_ends.specs.Ends.{Adds}
