-- What the crates above name through this one.
pub use Rattle.straight_looks.specs.core_words
pub use Rattle.straight_looks.specs.step_starts
pub use Rattle.straight_looks
-- Its own.
pub mod Acting
pub mod Counting
