pub mod Lines
-- The names that are used most outside of this library.
pub use Rattle.ends_text.specs.Lines.{done_lines, count_lines, end_lines}
