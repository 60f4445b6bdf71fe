-- What the crates above name through this one.
pub use Rattle.page_drawing.specs.page_layers
pub use Rattle.page_drawing
-- Its own.
pub mod Arrows
pub mod Rows
-- The names that are used most outside of this library.
pub use Rattle.arrow_laws.specs.Arrows.{entered_at, before_entry, changes, returned_at, newest}
