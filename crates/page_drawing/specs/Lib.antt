-- What the crates above name through this one.
pub use Rattle.spk_nums
pub use Rattle.page_touches.specs.step_views.specs.kernel_rules
pub use Rattle.word_map
pub use Rattle.page_touches.specs.step_views.specs.kernel_history
pub use Rattle.page_touches.specs.step_views
pub use Rattle.page_touches.specs.page_layers
pub use Rattle.picture_rows
pub use Rattle.page_touches
-- Its own.
pub mod Pages
pub mod Pictures
-- The names that are used most outside of this library.
pub use Rattle.page_drawing.specs.Pages.{page_after, Page, blank, next_step}
