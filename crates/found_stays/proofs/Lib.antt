-- What calls have found stays.
pub mod Apart
pub mod Spares
pub mod SparesRuns
pub mod Stays
-- The names that are used most outside of this library.
pub use Rattle.found_stays.proofs.{Apart.place_here, Apart.place_there, Apart.slot_is, Spares.RunsOn, SparesRuns.core_same_refs}
pub use Rattle.found_stays.proofs.{SparesRuns.runs_of, Stays.name_parts, Stays.comp_fit, Stays.OwnStay, Stays.names_node, Stays.pages_relies}
pub use Rattle.found_stays.proofs.{Stays.table_relies, Stays.usable_guarded}
