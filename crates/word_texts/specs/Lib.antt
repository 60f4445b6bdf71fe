-- What the crates above name through this one.
pub use Rattle.step_views
pub use Rattle.frame_words
-- Its own.
pub mod Objects
pub mod Names
pub mod Values
