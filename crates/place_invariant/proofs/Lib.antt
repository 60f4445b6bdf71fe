-- Where acts start, and refusals.
pub mod Starts
pub mod Outside
pub mod ObjectMakes
pub mod CompMakes
-- Filling.
pub mod Fills
pub mod Vacancy
pub mod Paging
pub mod Mappings
-- Removing.
pub mod Closings
pub mod Removals
-- The names that are used most outside of this library.
pub use Rattle.place_invariant.proofs.{Outside.vacant_here, Outside.vacant_slot, Outside.stands_alone, Paging.paging_by}
pub use Rattle.place_invariant.proofs.{Starts.IsRefusedOutside, Starts.starts_good, Vacancy.none_waits}
