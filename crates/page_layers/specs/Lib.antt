-- What the crates above name through this one.
pub use Rattle.word_texts.specs.step_views.specs.kernel_history
pub use Rattle.word_texts.specs.step_views
pub use Rattle.word_texts
pub use Rattle.picture_shapes
-- Its own.
pub mod Seen
pub mod Lanes
pub mod Words
pub mod Layers
-- The names that are used most outside of this library.
pub use Rattle.page_layers.specs.{Lanes.lane_decided, Lanes.lane_entered, Lanes.lane_topped, Lanes.no_call, Seen.seen, Seen.seen_made}
