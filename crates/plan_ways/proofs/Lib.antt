pub mod Ways
pub mod InFootprint
-- The names that are used most outside of this library.
pub use Rattle.plan_ways.proofs.InFootprint.{one_left, one_right, footprint_found, footprint_about}
pub use Rattle.plan_ways.proofs.Ways.{asked_left, target_is, next_first}
