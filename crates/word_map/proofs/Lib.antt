pub mod PlaceLemmas
pub mod WordLemmas
-- The names that are used most outside of this library.
pub use Rattle.word_map.proofs.{PlaceLemmas.has_places, WordLemmas.same_same}
