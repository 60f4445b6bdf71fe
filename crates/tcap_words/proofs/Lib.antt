pub mod HeadLemmas
pub mod QualityLemmas
pub mod StackLemmas
pub mod ThreadLemmas
-- The names that are used most outside of this library.
pub use Rattle.tcap_words.proofs.HeadLemmas.{spelling}
