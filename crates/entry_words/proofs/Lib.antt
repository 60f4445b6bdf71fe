pub mod Spelling
-- The names that are used most outside of this library.
pub use Rattle.entry_words.proofs.Spelling.{spelling}
