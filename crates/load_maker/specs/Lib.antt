-- What the crates above name through this one.
pub use Rattle.script_reader
pub use Rattle.script_printer
-- Its own.
pub mod Draws
pub mod Loads
pub mod Accepted
-- The names that are used most outside of this library.
unfoldable pub use Rattle.load_maker.specs.{Draws.below, Draws.repeated, Loads.a_call, Loads.an_item, Loads.load_text}
