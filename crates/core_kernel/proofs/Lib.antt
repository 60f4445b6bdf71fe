pub mod Lists
pub mod Balance
pub mod Along
pub mod Turns
pub mod RunSteps
pub mod Seats
pub mod Closing
-- The names that are used most outside of this library.
pub use Rattle.core_kernel.proofs.{Closing.at_of, Lists.calls_of-append, Lists.replies_of-append}
