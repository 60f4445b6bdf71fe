-- What the crates above name through this one.
pub use Rattle.script_tokens
pub use Rattle.line_reader
pub use Rattle.sched_rules
pub use Rattle.call_reader
pub use Rattle.script_reader
-- Its own.
pub mod Lines
pub mod Inputs
-- The names that are used most outside of this library.
pub use Rattle.sched_reader.specs.Inputs.{Input}
unfoldable pub use Rattle.sched_reader.specs.Inputs.{input_of}
