-- The names that most files use.
pub mod Common
pub mod Picks
pub mod Arriving
pub mod Readiness
pub mod Turns
pub mod Preempting
pub mod Weights
pub mod Bound
pub mod Charging
pub mod Restoring
pub mod Exactly
pub mod Working
-- The names that are used most outside of this library.
pub use Rattle.sched_laws.proofs.{Picks.place_of, Turns.come_at}
