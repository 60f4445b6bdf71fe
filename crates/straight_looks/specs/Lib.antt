-- What the crates above name through this one.
pub use Rattle.core_words
pub use Rattle.step_starts
-- Its own.
pub mod Standing
pub mod Outcomes
