pub mod Spans
pub mod NumberWords
pub mod KnownWords
pub mod CallWords
pub mod CallReading
pub mod HeadLines
pub mod ItemWords
pub mod ReadingLines
pub mod PrintedLines
pub mod LineCounts
pub mod CallLimits
pub mod ReadLimits
-- The names that are used most outside of this library.
pub use Rattle.script_reader.specs.call_reader.proofs.Judgements.{both_left, both_right}
pub use Rattle.script_printer.proofs.Spans.{is_line, line_onto, are_lines, is_text, rows_from}
