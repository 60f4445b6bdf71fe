-- What the crates above name through this one.
pub use Rattle.core_kernel.specs.frame_words
-- What a caller names through this crate: what stands in a seat's trace, and what holds of it.
pub use Rattle.core_kernel
-- Its own.
pub mod Seats
-- The names that are used most outside of this library.
pub use Rattle.core_machine.specs.Seats.{SeatsValue, IsDealt}
