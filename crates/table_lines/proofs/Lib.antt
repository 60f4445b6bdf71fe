pub mod Lines
pub mod Putting
pub mod Tallies
pub mod Adding
-- The names that are used most outside of this library.
pub use Rattle.table_lines.proofs.Adding.{adds_more, adds_none, adds_whole, adds_piece}
pub use Rattle.table_lines.proofs.Lines.{begins, goes_on, lines_more, lines_none, lines_same}
