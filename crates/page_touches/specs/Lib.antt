-- What the crates above name through this one.
pub use Rattle.page_layers.specs.step_views
pub use Rattle.page_layers
-- Its own.
pub mod Touches
pub mod Blamed
-- The names that are used most outside of this library.
pub use Rattle.page_touches.specs.Touches.{is_clock}
