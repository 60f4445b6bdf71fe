pub mod Judged
pub mod Digits
pub mod Rows
pub mod LineSteps
mod FirstFaults
-- The names that are used most outside of this library.
pub use Rattle.line_reader.proofs.{Judged.read_is, Judged.at_line_ok, Judged.bind_ok, Judged.judged_is, Judged.then_ok, LineSteps.lines_keep}
pub use Rattle.line_reader.proofs.{Rows.few_rows}
