-- What the crates above name through this one.
pub use Rattle.kernel_history.specs.kernel_rules
pub use Rattle.kernel_history
pub use Rattle.kernel_history.specs.word_map
-- Its own.
pub mod Names
pub mod Views
-- The names that are used most outside of this library.
pub use Rattle.step_views.specs.{Names.named, Views.IsTold, Views.IsShown}
