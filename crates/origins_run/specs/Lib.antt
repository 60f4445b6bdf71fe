-- What the crates above name through this one.
pub use Rattle.told_run.specs.lone_kernel
pub use Rattle.told_run
pub use Rattle.origin_lines
-- Its own.
pub mod Tracked
pub mod GivenOrigins
