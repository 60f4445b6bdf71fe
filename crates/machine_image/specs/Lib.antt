-- What the crates above name through this one.
pub use Rattle.entry_words
-- Its own.
pub mod Views
-- The names that are used most outside of this library.
pub use Rattle.machine_image.specs.Views.{ImageOf, word_at, component_at, held_by, node_words}
