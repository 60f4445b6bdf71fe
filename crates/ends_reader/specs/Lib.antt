-- What the crates above name through this one.
pub use Rattle.script_reader
-- Its own.
pub mod Parts
pub mod Inputs
-- The names that are used most outside of this library.
pub use Rattle.ends_reader.specs.Inputs.{ask_lists, input_view}
unfoldable pub use Rattle.ends_reader.specs.Inputs.{input_of}
