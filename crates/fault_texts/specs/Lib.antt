-- What the crates above name through this one.
pub use Rattle.call_reader.specs.spk_nums
pub use Rattle.line_reader
pub use Rattle.call_reader
pub use Rattle.line_forms
-- Its own.
pub mod Bytes
pub mod Places
pub mod Notes
pub mod Pieces
pub mod Marks
pub mod Ends
pub mod Found
pub mod Told
-- The names that are used most outside of this library.
pub use Rattle.fault_texts.specs.{Pieces.blanks, Pieces.blanks_text, Pieces.words_text, Places.misfit_from, Places.first_misfit}
unfoldable pub use Rattle.fault_texts.specs.Told.{fault_text}
