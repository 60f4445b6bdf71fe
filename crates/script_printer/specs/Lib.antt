-- What the crates above name through this one.
pub use Rattle.script_reader.specs.script_tokens
pub use Rattle.script_reader.specs.line_reader
pub use Rattle.script_reader.specs.call_reader
pub use Rattle.script_reader
-- Its own.
pub mod Printing
pub mod Law
-- The names that are used most outside of this library.
pub use Rattle.script_reader.specs.call_reader.specs.{IsCallWithin}
pub use Rattle.script_printer.specs.Law.{IsWithin}
pub use Rattle.script_printer.specs.Printing.{setup_lines, line, call_line, item_text, list_lines}
unfoldable pub use Rattle.script_printer.specs.Printing.{printed}
