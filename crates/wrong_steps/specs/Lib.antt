pub mod Acts
pub mod Copies
pub mod Removals
pub mod Invocations
pub mod Refusals
pub mod Touches
pub mod Charges
pub mod Returns
pub mod Untypings
pub mod Clearings
pub mod Switches
pub mod Freeings
pub mod Credits
pub mod Sums
pub mod Overwrites
pub mod Deaths
pub mod Flushes
-- The names that are used most outside of this library.
unfoldable pub use Rattle.wrong_steps.specs.Invocations.{gated}
