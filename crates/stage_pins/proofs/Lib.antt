pub mod PinLemmas
pub mod HeldLemmas
-- The names that are used most outside of this library.
pub use Rattle.stage_pins.proofs.PinLemmas.{changed_none}
