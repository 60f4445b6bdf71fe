-- What the crates above name through this one.
pub use Rattle.core_runs
pub use Rattle.async_ends
-- Its own.
pub mod Ends
pub mod Whole
